-- Specifications read one after another.
use Rattle.std.specs.Prelude.{◌≡◌, ℕ, ◌+◌, List, [], ◌∷◌, ◌++◌, Ok, Err}
use Rattle.std.proofs.Common.{refl, ap, sym, ◌∙◌}
use Rattle.std.proofs.lemmas.List.{append_assoc}
use Rattle.serde_json.specs.Data.{Data, Items, item}
use Rattle.conda_base.specs.Reads.{Read, ◌>>=◌}
use Rattle.conda_spec.specs.Parts.{Parts}
use Rattle.conda_json.specs.Fields.{each_from, read_on}
use Rattle.conda_record.specs.Records.{plain_spec}
use Rattle.conda_record.specs.declared.error.RecordField.{RecordField}

behind : (made : List Parts) (parts : Parts) (rest : Read (List Parts) RecordField)
    → read_on made (rest >>= (λ more. Ok (parts ∷ more))) ≡ read_on (made ++ parts ∷ []) rest
behind made parts (Ok more) = ap Ok (sym (append_assoc made (parts ∷ []) more))
behind made parts (Err fault) = refl

-- a specification that is read stands behind those before
pub one_more : (field : RecordField) (made : List Parts) (at : ℕ) (value : Data) (rest : Items) (parts : Parts) → plain_spec field value ≡ Ok parts
    → read_on made (each_from at (λ at. plain_spec field) (item value rest)) ≡ read_on (made ++ parts ∷ []) (each_from (at + 1) (λ at. plain_spec field) rest)
one_more field made at value rest parts is =
    ap (λ r. read_on made (r >>= (λ x. each_from (at + 1) (λ at. plain_spec field) rest >>= (λ xs. Ok (x ∷ xs))))) is
    ∙ behind made parts (each_from (at + 1) (λ at. plain_spec field) rest)

-- a bad one is what is wrong with the list
pub ended : (field : RecordField) (made : List Parts) (at : ℕ) (value : Data) (rest : Items) (fault : RecordField) → plain_spec field value ≡ Err fault
    → read_on made (each_from at (λ at. plain_spec field) (item value rest)) ≡ Err fault
ended field made at value rest fault is =
    ap (λ r. read_on made (r >>= (λ x. each_from (at + 1) (λ at. plain_spec field) rest >>= (λ xs. Ok (x ∷ xs))))) is
