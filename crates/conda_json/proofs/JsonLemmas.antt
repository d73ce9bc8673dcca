-- What is read of bytes, and that the names of what is read ascend.
use Rattle.std.specs.Prelude.{◌≡◌, ℕ, List, Bool, true, false, Option, Some, None, IfSome, option_map, option_and_then, if◌then◌else◌, Ok}
use Rattle.std.proofs.Common.{refl, ap, ◌∙◌, subst}
use Rattle.std.specs.Ordering.{nat_cmp, match_ordering, ordering_reverse}
use Rattle.std.specs.declared.cmp.Ordering.{Ordering}
use Rattle.std.specs.declared.cmp.Ordering.TheVariants.{Less, Equal, Greater}
use Rattle.std.specs.Cmp.Lexicographic.{slice_cmp}
use Rattle.std.proofs.lemmas.Cmp.{nat_list_cmp_total}
use Rattle.std.specs.Str.{is_utf8, IsUtf8}
use Rattle.std.proofs.lemmas.Str.{is_utf8-from_IsUtf8, IsUtf8-from_is_utf8}
use Rattle.json.specs.Json as json
use Rattle.json.specs.Lex.{tokens}
use Rattle.std.specs.Option.{ok_or}
use Rattle.serde_json.specs.Data.{Data, null, boolean, number, string, array, object, item, Members, no_members, member, put}
use Rattle.serde_json.specs.Read.{read, of_json, of_items, of_members, number_of, max_depth}
use Rattle.conda_json.specs.Shown.{bound, present}
use Rattle.conda_json.specs.declared.error.JsonErr.{JsonErr}
use Rattle.conda_json.specs.Json.{if_object, json_of, json_read, object_read, IsBelowFirst, KeysAscend, KeysAscendInItems, KeysAscendInMembers}

-- UTF-8 bytes mean what is read of them
pub json_of-read : (bytes : List ℕ) (value : Data) → IsUtf8 bytes → read bytes ≡ Some value → json_of bytes ≡ Some value
json_of-read bytes value text reads = rw (is_utf8-from_IsUtf8 bytes text) reads

guarded : {A : Type 0} (b : Bool) (x y : A) → (b ≡ true → x ≡ y) → (if b then x else y) ≡ y
guarded true x y same = same refl
guarded false x y same = refl

-- bytes of which nothing is read mean nothing
pub json_of-refused : (bytes : List ℕ) → (IsUtf8 bytes → read bytes ≡ None) → json_of bytes ≡ None
json_of-refused bytes refused = guarded (is_utf8 bytes) (read bytes) None (λ h. refused (IsUtf8-from_is_utf8 bytes h))

IfSome-map : {A B : Type 0} (f : A → B) (P : B → Type 0) (o : Option A) → IfSome o (λ x. P (f x)) → IfSome (option_map f o) P
IfSome-map f P None h = tt
IfSome-map f P (Some x) h = h

IfSome-then : {A B : Type 0} (f : A → Option B) (P : A → Type 0) (Q : B → Type 0) (o : Option A) → IfSome o P → ((x : A) → P x → IfSome (f x) Q) → IfSome (option_and_then f o) Q
IfSome-then f P Q None h step = tt
IfSome-then f P Q (Some x) h step = step x h

anything : {A : Type 0} (o : Option A) → IfSome o (λ _. Unit {0})
anything None = tt
anything (Some x) = tt

IfSome-beside : {A : Type 0} (F : Type 0) (P : A → Type 0) (o : Option A) → F → IfSome o P → IfSome o (λ x. F × P x)
IfSome-beside F P None f h = tt
IfSome-beside F P (Some x) f h = (f, h)

-- a name below another and below the first of the members is below the first once the other is put there
below-put : (low name : List ℕ) (value : Data) (members : Members) → slice_cmp nat_cmp low name ≡ Less → IsBelowFirst low members → IsBelowFirst low (put name value members)
below-put low name value no_members below first = below
below-put low name value (member next old rest) below first = elim (slice_cmp nat_cmp name next) as (λ o. IsBelowFirst low (match_ordering o (member name value (member next old rest)) (member next value rest) (member next old (put name value rest)))) [ Less ↦ below | Equal ↦ first | Greater ↦ first ]

put_at : (name : List ℕ) (value : Data) (next : List ℕ) (old : Data) (rest : Members) (o : Ordering) → slice_cmp nat_cmp name next ≡ o
    → KeysAscend value → KeysAscendInMembers (member next old rest) → KeysAscendInMembers (put name value rest)
    → KeysAscendInMembers (match_ordering o (member name value (member next old rest)) (member next value rest) (member next old (put name value rest)))
put_at name value next old rest Less is ascends all more = (is, ascends, all)
put_at name value next old rest Equal is ascends all more = (all.0, ascends, all.2)
put_at name value next old rest Greater is ascends all more =
    (below-put next name value rest (nat_list_cmp_total.antisymm next name ∙ ap ordering_reverse is) all.0, all.1, more)

-- members that ascend do so with one more put among them
put-ascends : (name : List ℕ) (value : Data) (members : Members) → KeysAscend value → KeysAscendInMembers members → KeysAscendInMembers (put name value members)
put-ascends name value no_members ascends all = (tt, ascends, tt)
put-ascends name value (member next old rest) ascends all =
    put_at name value next old rest (slice_cmp nat_cmp name next) refl ascends all (put-ascends name value rest ascends all.2)

mutual
  json-ascends : (j : json.Json) → IfSome (of_json j) KeysAscend
  json-ascends json.null = tt
  json-ascends (json.boolean b) = tt
  json-ascends (json.number s) = IfSome-map number KeysAscend (number_of s) (anything (number_of s))
  json-ascends (json.string s) = tt
  json-ascends (json.array js) = IfSome-map array KeysAscend (of_items js) (items-ascend js)
  json-ascends (json.object ms) = IfSome-map object KeysAscend (of_members ms no_members) (members-ascend ms no_members tt)

  items-ascend : (js : json.Items) → IfSome (of_items js) KeysAscendInItems
  items-ascend json.no_items = tt
  items-ascend (json.item j js) = IfSome-then (λ d. option_map (item d) (of_items js)) KeysAscend KeysAscendInItems (of_json j) (json-ascends j)
      (λ d ascends. IfSome-map (item d) KeysAscendInItems (of_items js) (IfSome-beside (KeysAscend d) KeysAscendInItems (of_items js) ascends (items-ascend js)))

  members-ascend : (ms : json.Members) (found : Members) → KeysAscendInMembers found → IfSome (of_members ms found) KeysAscendInMembers
  members-ascend json.no_members found all = all
  members-ascend (json.member k j ms) found all = IfSome-then (λ d. of_members ms (put k d found)) KeysAscend KeysAscendInMembers (of_json j) (json-ascends j)
      (λ d ascends. members-ascend ms (put k d found) (put-ascends k d found ascends all))

-- the names of what is read ascend
pub read-ascends : (bytes : List ℕ) (value : Data) → read bytes ≡ Some value → KeysAscend value
read-ascends bytes value reads = subst (λ o. IfSome o KeysAscend) reads
    (IfSome-then of_json (λ _. Unit {0}) KeysAscend (option_and_then (λ p. json.if_last p.0 p.1) (json.value max_depth (tokens bytes))) (anything (option_and_then (λ p. json.if_last p.0 p.1) (json.value max_depth (tokens bytes)))) (λ j _. json-ascends j))

if_some : {A : Type 0} (b : Bool) (o : Option A) (x : A) → (if b then o else None) ≡ Some x → o ≡ Some x
if_some true o x e = e
if_some false o x e = cc e

-- the names of what bytes mean ascend
pub json_of-ascends : (bytes : List ℕ) (value : Data) → json_of bytes ≡ Some value → KeysAscend value
json_of-ascends bytes value e = read-ascends bytes value (if_some (is_utf8 bytes) (read bytes) value e)

object_itself : (value found : Data) → ok_or (if_object value) JsonErr.BadJson ≡ Ok found → value ≡ found
object_itself null found e = cc e
object_itself (boolean b) found e = cc e
object_itself (number n) found e = cc e
object_itself (string s) found e = cc e
object_itself (array items) found e = cc e
object_itself (object members) found e = cc e

pub object_read-ascends : (bytes : List ℕ) (value : Data) → object_read bytes ≡ Ok value → KeysAscend value
object_read-ascends bytes value e =
    let all = bound (json_read bytes) (λ value. ok_or (if_object value) JsonErr.BadJson) value e in
    subst KeysAscend (object_itself all.0 value all.2) (json_of-ascends bytes all.0 (present (json_of bytes) JsonErr.BadJson all.0 all.1))
