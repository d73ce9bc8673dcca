-- Elements read one after another.
use Rattle.std.specs.Prelude.{◌≡◌, ℕ, ◌+◌, ◌<◌, true, false, ◌&&◌, Option, None, Some, IfSome, is_some, List, [], ◌∷◌, ◌++◌, length, drop, slice_index_or, Ok, Err}
use Rattle.std.proofs.Common.{refl, ap, sym, ◌∙◌}
use Rattle.std.proofs.lemmas.List.{append_assoc, drop_more}
use Rattle.std.specs.List.{list_all}
use Rattle.serde_json.specs.Data.{Data, Items, item}
use Rattle.serde_json.specs.Find.{as_object}
use Rattle.serde_json.specs.View.{items_view, view}
use Rattle.serde_json.specs.declared.value.Value.{Value}
use Rattle.conda_base.specs.Reads.{Read, ◌>>=◌}
use Rattle.conda_path.specs.declared.values.Good.{Good}
use Rattle.conda_spec.specs.Parts.{Parts}
use Rattle.conda_json.specs.Fields.{each_from, read_on}
use Rattle.conda_meta.specs.Reading.{all_objects, ascend, ascend_behind, field_fault_of, follows, in_order, in_order_behind, may_follow, placed_goods}
use Rattle.conda_meta.specs.declared.error.FieldErr.{FieldErr}
use Rattle.conda_meta.specs.declared.error.MetaField.{MetaField}

behind : {A F : Type 0} (made : List A) (x : A) (rest : Read (List A) F)
    → read_on made (rest >>= (λ more. Ok (x ∷ more))) ≡ read_on (made ++ x ∷ []) rest
behind made x (Ok more) = ap Ok (sym (append_assoc made (x ∷ []) more))
behind made x (Err fault) = refl

-- what is read stands behind what was read before
more : {A : Type 0} (read : Data → Read A MetaField) (made : List A) (at : ℕ) (value : Data) (rest : Items) (x : A) → read value ≡ Ok x
    → read_on made (each_from at (λ at. read) (item value rest)) ≡ read_on (made ++ x ∷ []) (each_from (at + 1) (λ at. read) rest)
more read made at value rest x is =
    ap (λ r. read_on made (r >>= (λ x. each_from (at + 1) (λ at. read) rest >>= (λ xs. Ok (x ∷ xs))))) is
    ∙ behind made x (each_from (at + 1) (λ at. read) rest)

-- what is wrong with an element is wrong with the list
wrong : {A : Type 0} (read : Data → Read A MetaField) (made : List A) (at : ℕ) (value : Data) (rest : Items) (fault : MetaField) → read value ≡ Err fault
    → read_on made (each_from at (λ at. read) (item value rest)) ≡ Err fault
wrong read made at value rest fault is =
    ap (λ r. read_on made (r >>= (λ x. each_from (at + 1) (λ at. read) rest >>= (λ xs. Ok (x ∷ xs))))) is

-- the elements before a place are read: with those behind it they are what the whole list is
abbrev pub IsReadTo : {A : Type 0} → (Data → Read A MetaField) → List A → ℕ → List Value → Type 0
IsReadTo read made at elements =
    read_on made (each_from at (λ at. read) (items_view (drop at elements))) ≡ each_from 0 (λ at. read) (items_view elements)

-- so it is with the element at that place, once it is read
pub next : {A : Type 0} (read : Data → Read A MetaField) (elements : List Value) (at : ℕ) (element : Value) (made new : List A) (x : A)
    → at < length elements → element ≡ slice_index_or elements at element → read (view element) ≡ Ok x → new ≡ made ++ x ∷ []
    → IsReadTo read made at elements → IsReadTo read new (at + 1) elements
next read elements at element made new x below is given pushed done =
    ap (λ list. read_on list (each_from (at + 1) (λ at. read) (items_view (drop (at + 1) elements)))) pushed
    ∙ sym (more read made at (view element) (items_view (drop (at + 1) elements)) x given)
    ∙ ap (λ list. read_on made (each_from at (λ at. read) (items_view list))) (ap (λ e. e ∷ drop (at + 1) elements) is ∙ sym (drop_more elements at element below))
    ∙ done

-- what is wrong with that element is wrong with the list
pub stop : {A : Type 0} (read : Data → Read A MetaField) (elements : List Value) (at : ℕ) (element : Value) (made : List A) (e : FieldErr)
    → at < length elements → element ≡ slice_index_or elements at element → IfSome (field_fault_of e) (λ fault. read (view element) ≡ Err fault)
    → IsReadTo read made at elements → IfSome (field_fault_of e) (λ fault. each_from 0 (λ at. read) (items_view elements) ≡ Err fault)
stop read elements at element made FieldErr.Memory below is given done = tt
stop read elements at element made (FieldErr.Bad field) below is given done =
    sym done
    ∙ ap (λ list. read_on made (each_from at (λ at. read) (items_view list))) (drop_more elements at element below ∙ ap (λ e. e ∷ drop (at + 1) elements) (sym is))
    ∙ wrong read made at (view element) (items_view (drop (at + 1) elements)) field given

-- the elements are objects, as a test of each of them says
pub objects : (elements : List Value) → all_objects (items_view elements) ≡ list_all (λ element. is_some (as_object (view element))) elements
objects [] = refl
objects (element ∷ elements) = ap (λ b. is_some (as_object (view element)) && b) (objects elements)

-- ---- texts and specifications in order

-- one more text comes behind the last one, and the others behind it
pub ascend_one : (last : Option (List ℕ)) (text : List ℕ) (rest : List (List ℕ)) → follows last text ≡ true
    → ascend_behind last (text ∷ rest) ≡ ascend_behind (Some text) rest
ascend_one None text rest is = refl
ascend_one (Some before) text rest is = ap (λ b. b && ascend (text ∷ rest)) is

-- one that doesn't ends it
pub ascend_end : (last : Option (List ℕ)) (text : List ℕ) (rest : List (List ℕ)) → follows last text ≡ false
    → ascend_behind last (text ∷ rest) ≡ false
ascend_end None text rest is = cc is
ascend_end (Some before) text rest is = ap (λ b. b && ascend (text ∷ rest)) is

pub order_one : (last : Option Parts) (parts : Parts) (rest : List Parts) → may_follow last parts ≡ true
    → in_order_behind last (parts ∷ rest) ≡ in_order_behind (Some parts) rest
order_one None parts rest is = refl
order_one (Some before) parts rest is = ap (λ b. b && in_order (parts ∷ rest)) is

pub order_end : (last : Option Parts) (parts : Parts) (rest : List Parts) → may_follow last parts ≡ false
    → in_order_behind last (parts ∷ rest) ≡ false
order_end None parts rest is = cc is
order_end (Some before) parts rest is = ap (λ b. b && in_order (parts ∷ rest)) is

-- ---- goods at paths

-- the goods at the paths before a place are read, as above
abbrev pub ArePlacedTo : List Good → ℕ → List (List ℕ) → List Value → Type 0
ArePlacedTo made at paths elements =
    read_on made (placed_goods (drop at paths) (items_view (drop at elements))) ≡ placed_goods paths (items_view elements)
