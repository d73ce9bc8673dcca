-- Lemmas on tests and on the characters of versions.
use Rattle.std.proofs.Common.{◌≡◌, ℕ, ◌<◌, ◌≤◌, Bool, true, false, cond, not, nat_lt, List, [], ◌∷◌, length, map, Option, None, Some, Ok, Err, refl, sym, ap, ◌∙◌, arith, get_or, true≢false, zero, suc, lit<}
use Rattle.std.proofs.lemmas.Bool.Decides.{nat_tests}
use Rattle.std.proofs.lemmas.List.Folds.{list_all-map}
use Rattle.std.proofs.lemmas.Str.{IsUtf8-from_ascii}
use Rattle.std.specs.Prelude.{◌==◌, ◌&&◌, if◌then◌else◌, is_none, drop, option_and_then}
use Rattle.std.specs.Char.{to_ascii_lowercase}
use Rattle.std.specs.List.{list_all, position, prefix_len}
use Rattle.std.specs.Option.{option_or}
use Rattle.std.specs.Str.{IsUtf8}
use Rattle.conda_base.specs.Signs.{dot}
use Rattle.conda_base.specs.Reads.{unless}
use Rattle.conda_base.specs.Texts.{ends_with}
use Rattle.conda_version.specs.declared.error.VersionWhy.{VersionWhy}
use Rattle.conda_version.specs.declared.error.VersionWhy.TheVariants.{Empty, Char, Epoch, Local, Component, Numeral}
use Rattle.conda_version.specs.Grammar.{because, char_fault, component_fault, empty_fault, epoch_fault, is_plain, local_fault, marks_fault, numeral_from, offence}
use Rattle.conda_version.specs.Text.{holds, plain, underscored}
use Rattle.conda_clause.specs.declared.test.Sign.{Sign}
use Rattle.conda_clause.specs.declared.test.Test.TheVariants.{Any}
use Rattle.conda_clause.specs.Tests.{is_any, is_version_char, sign_len, sign_of, signed, test_of, test_with, version_text, without_star}

or_none_left : {X : Type 0} (a b : Option X) → option_or a b ≡ None → a ≡ None
or_none_left None b h = refl
or_none_left (Some x) b h = cc

or_none_right : {X : Type 0} (a b : Option X) → option_or a b ≡ None → b ≡ None
or_none_right None b h = h
or_none_right (Some x) b h = cc

map_none : (why : VersionWhy) (a : Option ℕ) → because why a ≡ None → a ≡ None
map_none why None h = refl
map_none why (Some at) h = cc

all_of_len : (p : ℕ → Bool) (xs : List ℕ) → length xs ≤ prefix_len (λ x. not (not (p x))) xs → list_all p xs ≡ true
all_of_len p [] h = refl
all_of_len p (x ∷ xs) h = grind (arith, nat_tests, all_of_len p xs)

none_of_cond : (b : Bool) (x : ℕ) → cond b (Some x) None ≡ None → b ≡ false
none_of_cond true x h = cc
none_of_cond false x h = refl

-- where no place was found, each character passes
all_of_no_place : (p : ℕ → Bool) (xs : List ℕ) → position (λ b. not (p b)) xs ≡ None → list_all p xs ≡ true
all_of_no_place p xs h =
    let n : ℕ = prefix_len (λ x. not (not (p x))) xs in
    let e : nat_lt n (length xs) ≡ false = none_of_cond (nat_lt n (length xs)) n h in
    all_of_len p xs (grind (arith, nat_tests))

pub all_more : (p q : ℕ → Bool) → ((b : ℕ) → p b ≡ true → q b ≡ true) → (xs : List ℕ) → list_all p xs ≡ true → list_all q xs ≡ true
all_more p q more [] h = refl
all_more p q more (x ∷ xs) h = both (p x) (q x) (more x) (all_more p q more xs) h
  where
    both : (a b : Bool) → (a ≡ true → b ≡ true) → (list_all p xs ≡ true → list_all q xs ≡ true) → (a && list_all p xs) ≡ true
        → (b && list_all q xs) ≡ true
    both true b f g k = ap (λ c. c && list_all q xs) (f refl) ∙ g k
    both false b f g k = cc

underscored_plain : (b : ℕ) → is_plain b ≡ true → is_plain (underscored b) ≡ true
underscored_plain b h = by_dash (b == 45) refl
  where
    by_dash : (k : Bool) → (b == 45) ≡ k → is_plain (if b == 45 then 95 else b) ≡ true
    by_dash true e = ap (λ c. is_plain (if c then 95 else b)) e
    by_dash false e = ap (λ c. is_plain (if c then 95 else b)) e ∙ h

plain_chars : (v : List ℕ) (k : Bool)
    → list_all is_plain (if k then map (λ b. underscored (to_ascii_lowercase b)) v else map to_ascii_lowercase v) ≡ true
    → list_all is_version_char v ≡ true
plain_chars v true h = sym (list_all-map is_plain (λ b. underscored (to_ascii_lowercase b)) v) ∙ h
plain_chars v false h =
    all_more (λ b. is_plain (to_ascii_lowercase b)) is_version_char (λ b k. underscored_plain (to_ascii_lowercase b) k) v
    (sym (list_all-map is_plain to_ascii_lowercase v) ∙ h)

-- each character of a version is one that a version may hold
pub version_chars : (v : List ℕ) → offence v ≡ None → list_all is_version_char v ≡ true
version_chars v h =
    let text : List ℕ = plain v in
    let late : Option (ℕ × VersionWhy) = option_or (because Component (component_fault text)) (because Numeral (numeral_from 0 text)) in
    let behind : Option (ℕ × VersionWhy) = option_or (because Epoch (epoch_fault text)) (because Local (local_fault text)) in
    let chars : Option (ℕ × VersionWhy) = because Char (char_fault text) in
    let marks : marks_fault text ≡ None = or_none_left (marks_fault text) late h in
    let more : option_or chars behind ≡ None = or_none_right (because Empty (empty_fault text)) (option_or chars behind) marks in
    let none : char_fault text ≡ None = map_none Char (char_fault text) (or_none_left chars behind more) in
    plain_chars v (holds 45 v && not (holds 95 v)) (all_of_no_place is_plain text none)

-- a text with another character is no version
pub other_chars : (v : List ℕ) → list_all is_version_char v ≡ false → version_text v ≡ None
other_chars v h = by_offence (offence v) (λ e. true≢false (sym (version_chars v e) ∙ h))
  where
    by_offence : (o : Option (ℕ × VersionWhy)) → (o ≡ None → ⊥) → (if is_none o then Some v else None) ≡ None
    by_offence None k = absurd (k refl)
    by_offence (Some at) k = refl

char_small : (b : ℕ) → is_version_char b ≡ true → b < 128
char_small b h = grind (arith, nat_tests)

pub and_left : (a b : Bool) → (a && b) ≡ true → a ≡ true
and_left true b h = refl
and_left false b h = h

pub and_right : (a b : Bool) → (a && b) ≡ true → b ≡ true
and_right true b h = h
and_right false b h = cc

chars_ascii : (v : List ℕ) → list_all is_version_char v ≡ true → (i : ℕ) → get_or v i 0 < 128
chars_ascii [] h i = lit< tt
chars_ascii (b ∷ bs) h zero = char_small b (and_left (is_version_char b) (list_all is_version_char bs) h)
chars_ascii (b ∷ bs) h (suc i) = chars_ascii bs (and_right (is_version_char b) (list_all is_version_char bs) h) i

-- such characters are text
pub chars_utf8 : (v : List ℕ) → list_all is_version_char v ≡ true → IsUtf8 v
chars_utf8 v h = IsUtf8-from_ascii v (chars_ascii v h)

-- what a reader that answers a value, or one fault, says
pub unless_ok : {A Fault : Type 0} (o : Option Fault) (x y : A) → unless o x ≡ Ok y → (o ≡ None) × (y ≡ x)
unless_ok None x y h = (refl, cc)
unless_ok (Some f) x y h = absurd cc

pub unless_err : {A Fault : Type 0} (o : Option Fault) (x : A) (f : Fault) → unless o x ≡ Err f → o ≡ Some f
unless_err None x f h = absurd cc
unless_err (Some g) x f h = cc

pub version_is : (v : List ℕ) → offence v ≡ None → version_text v ≡ Some v
version_is v h = ap (λ o. if is_none o then Some v else None) h

pub version_is_none : (v : List ℕ) (found : ℕ × VersionWhy) → offence v ≡ Some found → version_text v ≡ None
version_is_none v found h = ap (λ o. if is_none o then Some v else None) h

-- the test of a text, by its parts
pub test_found : (text : List ℕ) (sign : Sign) (len : ℕ) (behind : List ℕ) (star : Bool) (v : List ℕ) → sign ≡ sign_of text
    → len ≡ sign_len sign
    → behind ≡ drop len text → is_any sign behind ≡ false → star ≡ ends_with 42 behind → version_text (without_star behind) ≡ Some v
    → test_with sign star v ≡ test_of text
test_found text sign len behind star v is_sign is_len is_behind other is_star found =
    let s : behind ≡ signed text = is_behind ∙ ap (λ n. drop n text) (is_len ∙ ap sign_len is_sign) in
    let any : is_any (sign_of text) (signed text) ≡ false =
    sym (ap (λ q. is_any q behind) is_sign ∙ ap (is_any (sign_of text)) s) ∙ other in
    let starred : star ≡ ends_with 42 (signed text) = is_star ∙ ap (ends_with 42) s in
    let version : version_text (without_star (signed text)) ≡ Some v = sym (ap (λ t. version_text (without_star t)) s) ∙ found in
    ap (λ q. test_with q star v) is_sign ∙ ap (λ q. test_with (sign_of text) q v) starred
    ∙ sym (ap (λ k. if k then Some Any else option_and_then (test_with (sign_of text) (ends_with 42 (signed text)))
    (version_text (without_star (signed text)))) any
    ∙ ap (option_and_then (test_with (sign_of text) (ends_with 42 (signed text)))) version)

pub and_both : (a b : Bool) → a ≡ true → b ≡ true → (a && b) ≡ true
and_both a b h k = ap (λ q. q && b) h ∙ k

pub test_equal : (m n : ℕ) → (m == n) ≡ true → m ≡ n
test_equal m n h = grind (arith, nat_tests)

-- a character that fails a test is another one
pub unlike : (p : ℕ → Bool) (b k : ℕ) → p b ≡ true → p k ≡ false → (b == k) ≡ false
unlike p b k h f = by_same (b == k) refl
  where
    by_same : (s : Bool) → (b == k) ≡ s → s ≡ false
    by_same false e = refl
    by_same true e = absurd (true≢false (sym h ∙ ap p (test_equal b k e) ∙ f))

-- no version ends with a dot, as the laws of versions say
abbrev pub NoDotEnd : Type 0
NoDotEnd = (v : List ℕ) → offence v ≡ None → ends_with dot v ≡ false
