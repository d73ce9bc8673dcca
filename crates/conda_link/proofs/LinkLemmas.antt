-- Entry points read one after another, and the first two parts of a version.
use Rattle.std.specs.Prelude.{◌≡◌, ℕ, ◌+◌, true, ◌&&◌, if◌then◌else◌, List, [], ◌∷◌, ◌++◌, Some, None, option_and_then, Ok, Err}
use Rattle.std.specs.Option.{ok_or}
use Rattle.std.proofs.Common.{refl, ap, sym, ◌∙◌}
use Rattle.std.proofs.lemmas.List.{append_assoc}
use Rattle.serde_json.specs.Data.{Data, Items, item}
use Rattle.conda_base.specs.Numbers.{is_digits}
use Rattle.conda_base.specs.Reads.{Read, ◌>>=◌}
use Rattle.conda_base.specs.Signs.{dot}
use Rattle.conda_base.specs.Texts.{cut_first}
use Rattle.conda_json.specs.Fields.{each_from, read_on}
use Rattle.conda_link.specs.Links.{element_entry, entry_read}
use Rattle.conda_link.specs.Places.{digit_parts, python_parts, with_second}
use Rattle.conda_link.specs.declared.info.EntryPoint.{EntryPoint}

behind : (made : List EntryPoint) (entry : EntryPoint) (rest : Read (List EntryPoint) ℕ)
    → read_on made (rest >>= (λ more. Ok (entry ∷ more))) ≡ read_on (made ++ entry ∷ []) rest
behind made entry (Ok more) = ap Ok (sym (append_assoc made (entry ∷ []) more))
behind made entry (Err fault) = refl

-- an entry point that is read stands behind those before
pub one_entry : (made : List EntryPoint) (at : ℕ) (value : Data) (rest : Items) (entry : EntryPoint) → element_entry value ≡ Some entry
    → read_on made (each_from at entry_read (item value rest)) ≡ read_on (made ++ entry ∷ []) (each_from (at + 1) entry_read rest)
one_entry made at value rest entry is =
    ap (λ found. read_on made (ok_or found at >>= (λ entry. each_from (at + 1) entry_read rest >>= (λ more. Ok (entry ∷ more))))) is
    ∙ behind made entry (each_from (at + 1) entry_read rest)

-- a text cut at its first two dots
pub cut_twice : (text first rest second more : List ℕ) → text ≡ first ++ dot ∷ rest → rest ≡ second ++ dot ∷ more
    → text ≡ (first ++ dot ∷ second) ++ dot ∷ more
cut_twice text first rest second more one two = one ∙ ap (λ r. first ++ dot ∷ r) two ∙ sym (append_assoc first (dot ∷ second) (dot ∷ more))

digits : (first second : List ℕ) → is_digits first ≡ true → is_digits second ≡ true → digit_parts first second ≡ Some (first ++ dot ∷ second)
digits first second one two = ap (λ b. if b && is_digits second then Some (first ++ dot ∷ second) else None) one ∙ ap (λ b. if b then Some (first ++ dot ∷ second) else None) two

-- the first two parts of more
pub two_of_more : (text first rest second more : List ℕ) → cut_first dot text ≡ Some (first, rest) → cut_first dot rest ≡ Some (second, more)
    → is_digits first ≡ true → is_digits second ≡ true → python_parts text ≡ Some (first ++ dot ∷ second)
two_of_more text first rest second more one two a b =
    ap (option_and_then (λ halves. with_second halves.0 halves.1 (cut_first dot halves.1))) one
    ∙ ap (with_second first rest) two ∙ digits first second a b

-- two parts alone
pub two_alone : (text first rest : List ℕ) → cut_first dot text ≡ Some (first, rest) → cut_first dot rest ≡ None
    → is_digits first ≡ true → is_digits rest ≡ true → python_parts text ≡ Some (first ++ dot ∷ rest)
two_alone text first rest one two a b =
    ap (option_and_then (λ halves. with_second halves.0 halves.1 (cut_first dot halves.1))) one
    ∙ ap (with_second first rest) two ∙ digits first rest a b
