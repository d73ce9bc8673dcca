-- How many different prefixes there are, and whether they are apart.
use Rattle.std.proofs.Common.{◌≡◌, ℕ, ◌≤◌, Bool, true, false, List, [], ◌∷◌, ◌++◌, length, refl, sym, ap, subst, ◌∙◌, arith, append_assoc, length-append, true≢false}
use Rattle.std.specs.Prelude.{Option, None, Some, if◌then◌else◌, not, nat_lt, ◌&&◌, ◌||◌, option_map, option_and_then, unwrap_or}
use Rattle.std.proofs.lemmas.Bool.Decides.{nat_tests}
use Rattle.std.proofs.lemmas.Grind.{flat_map-append}
use Rattle.std.proofs.lemmas.List.{append-nil}
use Rattle.std.proofs.lemmas.List.Folds.{list_any-append}
use Rattle.std.specs.List.{list_any}
use Rattle.std.specs.Option.{option_or, option_to_list}
use Rattle.conda_path.specs.Paths.{is_inside}
use Rattle.conda_words.specs.Causes.{because_not, item_cause, item_fault, limit_cause}
use Rattle.conda_words.specs.Says.{are_apart, is_among, is_nested, known_with, value_of, values}
use Rattle.conda_words.specs.Table.{Subcommand, is_kind}
use Rattle.conda_words.specs.declared.cut.Item.{Item}
use Rattle.conda_words.specs.declared.error.Why.{Why}
use Rattle.conda_words.specs.declared.error.Why.TheVariants as whys
use Rattle.conda_words.specs.declared.table.Kind.TheVariants as kinds
use Rattle.conda_words.specs.declared.table.Words.{Words}
use Rattle.conda_words.proofs.FirstLemmas.{first, or_none}
use Rattle.conda_words.proofs.StepLemmas.{known_append, nested_behind, nested_here}

-- the prefixes that are known behind these items
abbrev pub known_behind : List (List ℕ) → List Item → List (List ℕ)
known_behind known before = known_with known (values kinds.Prefix before)

pub known_on : (known : List (List ℕ)) (before : List Item) (i : Item)
    → known_behind known (before ++ i ∷ []) ≡ known_with (known_behind known before) (value_of kinds.Prefix i)
known_on known before i =
    ap (known_with known)
    (flat_map-append (value_of kinds.Prefix) before (i ∷ [])
    ∙ ap (λ v. values kinds.Prefix before ++ v) (append-nil (value_of kinds.Prefix i)))
    ∙ known_append known (values kinds.Prefix before) (value_of kinds.Prefix i)

pub known_more : (known xs : List (List ℕ)) → length known ≤ length (known_with known xs)
known_more known [] = omega arith
known_more known (x ∷ xs) = by (is_among x known) (known_more known xs) (known_more (known ++ x ∷ []) xs)
  where
    by : (k : Bool) → length known ≤ length (known_with known xs) → length (known ++ x ∷ []) ≤ length (known_with (known ++ x ∷ []) xs)
        → length known ≤ length (known_with (if k then known else known ++ x ∷ []) xs)
    by true same more = same
    by false same more = omega (arith, length-append known (x ∷ []))

-- those behind some items are known behind more
known_later : (known : List (List ℕ)) (before is : List Item)
    → known_with (known_behind known before) (values kinds.Prefix is) ≡ known_behind known (before ++ is)
known_later known before is =
    sym (ap (known_with known) (flat_map-append (value_of kinds.Prefix) before is)
    ∙ known_append known (values kinds.Prefix before) (values kinds.Prefix is))

behind_more : (known : List (List ℕ)) (before is : List Item)
    → length (known_behind known before) ≤ length (known_behind known (before ++ is))
behind_more known before is =
    subst (λ l. length (known_behind known before) ≤ length l) (known_later known before is)
    (known_more (known_behind known before) (values kinds.Prefix is))

-- ---- the limit

module _ (known : List (List ℕ)) (before : List Item) (i : Item) where
  abbrev here : List (List ℕ)
  here = known_behind known before

  abbrev placed : Option Why → Option (ℕ × Why)
  placed = option_map (λ (why : Why). (let pair : ℕ × Why = (i.value_at, why) in pair))

  unlimited : limit_cause known before i ≡ None → length here ≤ 64 → length (known_with here (value_of kinds.Prefix i)) ≤ 64
  unlimited h few = by (is_kind i.kind kinds.Prefix) i.value h
    where
      by_new : (v : List ℕ) (a t : Bool) → nat_lt (length here) 64 ≡ t → placed (because_not whys.Limit (a || t)) ≡ None
          → length (if a then here else here ++ v ∷ []) ≤ 64
      by_new v true t e f = few
      by_new v false true e f = grind (arith, nat_tests, length-append here (v ∷ []))
      by_new v false false e f = cc

      by : (k : Bool) (o : Option (List ℕ))
          → (if k then placed (option_and_then (λ p. because_not whys.Limit (is_among p here || nat_lt (length here) 64)) o) else None)
          ≡ None
          → length (known_with here (if k then option_to_list o else [])) ≤ 64
      by false o f = few
      by true None f = few
      by true (Some v) f = by_new v (is_among v here) (nat_lt (length here) 64) refl f

  limited : length (known_with here (value_of kinds.Prefix i)) ≤ 64 → limit_cause known before i ≡ None
  limited few = by (is_kind i.kind kinds.Prefix) i.value few
    where
      by_new : (v : List ℕ) (a t : Bool) → nat_lt (length here) 64 ≡ t → length (if a then here else here ++ v ∷ []) ≤ 64
          → placed (because_not whys.Limit (a || t)) ≡ None
      by_new v true t e f = refl
      by_new v false true e f = refl
      by_new v false false e f = absurd (true≢false (sym (grind (arith, nat_tests, length-append here (v ∷ []))) ∙ e))

      by : (k : Bool) (o : Option (List ℕ)) → length (known_with here (if k then option_to_list o else [])) ≤ 64
          → (if k then placed (option_and_then (λ p. because_not whys.Limit (is_among p here || nat_lt (length here) 64)) o) else None)
          ≡ None
      by false o f = refl
      by true None f = refl
      by true (Some v) f = by_new v (is_among v here) (nat_lt (length here) 64) refl f

module _ (sub : Subcommand) (words : Words) (known : List (List ℕ)) where
  -- no item has a fault: none has another cause, and there are 64 different prefixes at most
  pub record Fits (before is : List Item) : Type 0 where
    pub right : first (item_cause sub words) before is ≡ None
    pub few : length (known_behind known (before ++ is)) ≤ 64

  pub fits : (before is : List Item) → length (known_behind known before) ≤ 64 → first (item_fault sub words known) before is ≡ None
      → Fits before is
  fits before [] few h = record { right = refl; few = ap_few (append-nil before) few }
    where
      ap_few : before ++ [] ≡ before → length (known_behind known before) ≤ 64 → length (known_behind known (before ++ [])) ≤ 64
      ap_few e f = subst (λ b. length (known_behind known b) ≤ 64) (sym e) f
  fits before (i ∷ is) few h =
      let parts = or_none (item_fault sub words known before i) (first (item_fault sub words known) (before ++ i ∷ []) is) h in
      let own = or_none (item_cause sub words before i) (limit_cause known before i) parts.0 in
      let next = unlimited known before i own.1 few in
      let more = fits (before ++ i ∷ []) is (subst (λ l. length l ≤ 64) (sym (known_on known before i)) next) parts.1 in
      record {
        right = ap (λ o. option_or o (first (item_cause sub words) (before ++ i ∷ []) is)) own.0 ∙ more.right;
        few = subst (λ b. length (known_behind known b) ≤ 64) (append_assoc before (i ∷ []) is) more.few;
      }

  pub fit : (before is : List Item) → first (item_cause sub words) before is ≡ None → length (known_behind known (before ++ is)) ≤ 64
      → first (item_fault sub words known) before is ≡ None
  fit before [] h few = refl
  fit before (i ∷ is) h few =
      let parts = or_none (item_cause sub words before i) (first (item_cause sub words) (before ++ i ∷ []) is) h in
      let all : length (known_behind known ((before ++ i ∷ []) ++ is)) ≤ 64 =
      subst (λ b. length (known_behind known b) ≤ 64) (sym (append_assoc before (i ∷ []) is)) few in
      let less = behind_more known (before ++ i ∷ []) is in
      let here : length (known_behind known (before ++ i ∷ [])) ≤ 64 = omega arith in
      let next : length (known_with (known_behind known before) (value_of kinds.Prefix i)) ≤ 64 =
      subst (λ l. length l ≤ 64) (known_on known before i) here in
      ap (λ o. option_or (option_or o (limit_cause known before i)) (first (item_fault sub words known) (before ++ i ∷ []) is)) parts.0
      ∙ ap (λ o. option_or o (first (item_fault sub words known) (before ++ i ∷ []) is)) (limited known before i next)
      ∙ fit (before ++ i ∷ []) is parts.1 all

-- ---- apart

nested_turned : (a b : List ℕ) → is_nested a b ≡ is_nested b a
nested_turned a b = by (is_inside a b) (is_inside b a)
  where
    by : (x y : Bool) → (x || y) ≡ (y || x)
    by true true = refl
    by true false = refl
    by false true = refl
    by false false = refl

apart_push : (known : List (List ℕ)) (p : List ℕ) → are_apart (known ++ p ∷ []) ≡ (are_apart known && not (list_any (is_nested p) known))
apart_push [] p = refl
apart_push (k ∷ ks) p =
    ap (λ b. not b && are_apart (ks ++ p ∷ [])) (list_any-append (is_nested k) ks (p ∷ []))
    ∙ ap (λ b. not (list_any (is_nested k) ks || (b || false)) && are_apart (ks ++ p ∷ [])) (nested_turned k p)
    ∙ ap (λ b. not (list_any (is_nested k) ks || (is_nested p k || false)) && b) (apart_push ks p)
    ∙ by (list_any (is_nested k) ks) (is_nested p k) (are_apart ks) (list_any (is_nested p) ks)
  where
    by : (a n b d : Bool) → (not (a || (n || false)) && (b && not d)) ≡ ((not a && b) && not (n || d))
    by true n b d = refl
    by false true true d = refl
    by false true false d = refl
    by false false b d = refl

both_true : (a b : Bool) → (a && b) ≡ true → (a ≡ true) × (b ≡ true)
both_true true b h = (refl, h)
both_true false b h = cc

-- fewer prefixes are apart as well
pub apart_fewer : (known xs : List (List ℕ)) → are_apart (known_with known xs) ≡ true → are_apart known ≡ true
apart_fewer known [] h = h
apart_fewer known (x ∷ xs) h = by (is_among x known) h (apart_fewer known xs) (apart_fewer (known ++ x ∷ []) xs)
  where
    by : (k : Bool) → are_apart (known_with (if k then known else known ++ x ∷ []) xs) ≡ true
        → (are_apart (known_with known xs) ≡ true → are_apart known ≡ true)
        → (are_apart (known_with (known ++ x ∷ []) xs) ≡ true → are_apart (known ++ x ∷ []) ≡ true) → are_apart known ≡ true
    by true f same more = same f
    by false f same more = (both_true (are_apart known) (not (list_any (is_nested x) known)) (sym (apart_push known x) ∙ more f)).0

module _ (line : Option ℕ) (known : List (List ℕ)) (i : Item) where
  -- the answer for an item that is a prefix or isn't, and has a value or has none
  abbrev answer : Bool → Option (List ℕ) → Option ℕ
  answer k o =
      if k then option_and_then
      (λ p. if is_among p known then None else if list_any (is_nested p) known then Some (unwrap_or line i.value_at) else None) o
      else None

  abbrev then_known : Bool → Option (List ℕ) → List (List ℕ)
  then_known k o = known_with known (if k then option_to_list o else [])

  pub not_nested : nested_here line known i ≡ None → are_apart known ≡ true → are_apart (known_with known (value_of kinds.Prefix i)) ≡ true
  not_nested h apart = by (is_kind i.kind kinds.Prefix) i.value h
    where
      by_new : (v : List ℕ) (a n : Bool) → list_any (is_nested v) known ≡ n
          → (if a then None else if n then Some (unwrap_or line i.value_at) else None) ≡ None
          → are_apart (if a then known else known ++ v ∷ []) ≡ true
      by_new v true n e f = apart
      by_new v false true e f = cc
      by_new v false false e f = apart_push known v ∙ ap (λ b. are_apart known && not b) e ∙ ap (λ b. b && true) apart

      by : (k : Bool) (o : Option (List ℕ)) → answer k o ≡ None → are_apart (then_known k o) ≡ true
      by false o f = apart
      by true None f = apart
      by true (Some v) f = by_new v (is_among v known) (list_any (is_nested v) known) refl f

  pub is_nested_here : (m : ℕ) → nested_here line known i ≡ Some m
      → (are_apart (known_with known (value_of kinds.Prefix i)) ≡ false) × (m ≡ unwrap_or line i.value_at)
  is_nested_here m h = by (is_kind i.kind kinds.Prefix) i.value h
    where
      none : (k : Bool) → (k && false) ≡ false
      none true = refl
      none false = refl

      same : (x y : ℕ) → Some x ≡ Some y → y ≡ x
      same x y e = cc

      by_new : (v : List ℕ) (a n : Bool) → list_any (is_nested v) known ≡ n
          → (if a then None else if n then Some (unwrap_or line i.value_at) else None) ≡ Some m
          → (are_apart (if a then known else known ++ v ∷ []) ≡ false) × (m ≡ unwrap_or line i.value_at)
      by_new v true n e f = cc
      by_new v false true e f =
          (apart_push known v ∙ ap (λ b. are_apart known && not b) e ∙ none (are_apart known), same (unwrap_or line i.value_at) m f)
      by_new v false false e f = cc

      by : (k : Bool) (o : Option (List ℕ)) → answer k o ≡ Some m → (are_apart (then_known k o) ≡ false) × (m ≡ unwrap_or line i.value_at)
      by false o f = cc
      by true None f = cc
      by true (Some v) f = by_new v (is_among v known) (list_any (is_nested v) known) refl f

  pub apart_here : are_apart (known_with known (value_of kinds.Prefix i)) ≡ true → nested_here line known i ≡ None
  apart_here h = by (nested_here line known i) refl
    where
      by : (o : Option ℕ) → nested_here line known i ≡ o → o ≡ None
      by None e = refl
      by (Some m) e = absurd (true≢false (sym h ∙ (is_nested_here m e).0))

  pub nested_so : are_apart known ≡ true → are_apart (known_with known (value_of kinds.Prefix i)) ≡ false
      → nested_here line known i ≡ Some (unwrap_or line i.value_at)
  nested_so apart h = by (nested_here line known i) refl
    where
      by : (o : Option ℕ) → nested_here line known i ≡ o → o ≡ Some (unwrap_or line i.value_at)
      by None e = absurd (true≢false (sym (not_nested e apart) ∙ h))
      by (Some m) e = ap (λ n. Some n) (is_nested_here m e).1

module _ (line : Option ℕ) (known : List (List ℕ)) where
  -- no item is nested where all prefixes are apart
  pub none_nested : (before is : List Item) → are_apart (known_behind known before) ≡ true
      → first (nested_behind line known) before is ≡ None
      → are_apart (known_behind known (before ++ is)) ≡ true
  none_nested before [] apart h = subst (λ b. are_apart (known_behind known b) ≡ true) (sym (append-nil before)) apart
  none_nested before (i ∷ is) apart h =
      let parts = or_none (nested_behind line known before i) (first (nested_behind line known) (before ++ i ∷ []) is) h in
      let next = ap are_apart (known_on known before i) ∙ not_nested line (known_behind known before) i parts.0 apart in
      subst (λ b. are_apart (known_behind known b) ≡ true) (append_assoc before (i ∷ []) is)
      (none_nested (before ++ i ∷ []) is next parts.1)

  pub nested_none : (before is : List Item) → are_apart (known_behind known (before ++ is)) ≡ true
      → first (nested_behind line known) before is ≡ None
  nested_none before [] apart = refl
  nested_none before (i ∷ is) apart =
      let all : are_apart (known_behind known ((before ++ i ∷ []) ++ is)) ≡ true =
      subst (λ b. are_apart (known_behind known b) ≡ true) (sym (append_assoc before (i ∷ []) is)) apart in
      let here =
      apart_fewer (known_behind known (before ++ i ∷ [])) (values kinds.Prefix is)
      (ap are_apart (known_later known (before ++ i ∷ []) is) ∙ all) in
      ap (λ o. option_or o (first (nested_behind line known) (before ++ i ∷ []) is))
      (apart_here line (known_behind known before) i (sym (ap are_apart (known_on known before i)) ∙ here))
      ∙ nested_none (before ++ i ∷ []) is all
