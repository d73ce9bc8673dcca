-- Placings put behind one another, each at a path that none before has.
use Rattle.std.specs.Prelude.{◌≡◌, ◌≢◌, ℕ, ◌≤◌, ◌<◌, suc, Bool, true, false, not, ◌||◌, cond, List, [], ◌∷◌, ◌++◌, length, Option, Some, Result, Ok, Err, OnOk}
use Rattle.std.proofs.Common.{refl, ap, sym, ◌∙◌, subst, inl, inr, ◌⊎◌, arith, get_or}
use Rattle.std.proofs.lemmas.Bool.{or_cases, true≢false}
use Rattle.std.proofs.lemmas.Bool.Decides.{Decides-eqb}
use Rattle.std.proofs.lemmas.List.{get_or_default, map-append}
use Rattle.std.proofs.lemmas.List.Folds.{list_any-append, list_any-from_Any}
use Rattle.std.proofs.lemmas.List.Quantifiers.{all_pairs_push}
use Rattle.std.proofs.lemmas.Slice.Eq.{slice_eq-Decides}
use Rattle.std.specs.Bool.{Decides}
use Rattle.std.specs.BTreeSet.{BTreeSet, Updates, contains}
use Rattle.std.specs.Cmp.Lexicographic.{nat_list_eq_equiv, slice_cmp, texts_ties}
use Rattle.std.specs.List.{AllByRecursion, Contains, list_any}
use Rattle.std.specs.Ordering.{nat_cmp}
use Rattle.conda_base.specs.Texts.{is_text}
use Rattle.conda_path.specs.declared.values.Kind.{Kind}
use Rattle.conda_device.specs.declared.lane.Abilities.{Abilities}
use Rattle.conda_paths.specs.Listings.{HasPaths}
use Rattle.conda_paths.specs.declared.error.ListingWhy.{ListingWhy}
use Rattle.conda_placing.specs.Placing.{AreAllowed, GivesPlace, IsBadPlace, IsNoLink, as_able, places_of}
use Rattle.conda_placing.specs.Refusals.{RefusesScript}
use Rattle.conda_placing.specs.declared.error.PlacingErr.{PlacingErr}
use Rattle.conda_placing.specs.declared.placing.Origin.{Origin}
use Rattle.conda_placing.specs.declared.placing.Placing.{Placing}

same_text : (a b : List ℕ) → Decides (is_text a b) (a ≡ b)
same_text a b = slice_eq-Decides Decides-eqb a b (is_text a b) refl

-- ---- paths that stand among others

pub any_contains : (paths : List (List ℕ)) (path : List ℕ) → list_any (is_text path) paths ≡ true → Contains paths path
any_contains [] path e = absurd (true≢false (sym e))
any_contains (p ∷ paths) path e = by (any_contains paths path) (or_cases (is_text path p) (list_any (is_text path) paths) e)
  where
    by : (list_any (is_text path) paths ≡ true → Contains paths path) → (is_text path p ≡ true) ⊎ (list_any (is_text path) paths ≡ true)
        → Contains (p ∷ paths) path
    by rest (inl is) = (0, omega arith, sym ((same_text path p).0 is))
    by rest (inr is) = let r = rest is in (suc r.0, omega (arith, r.1), r.2)

contains_any : (paths : List (List ℕ)) (path : List ℕ) → Contains paths path → list_any (is_text path) paths ≡ true
contains_any paths path has = list_any-from_Any (is_text path) paths (has.0, path, has.1, has.2, nat_list_eq_equiv.refl path)

pub not_among : (paths : List (List ℕ)) (path : List ℕ) → not (list_any (is_text path) paths) ≡ true → ¬ Contains paths path
not_among paths path new has = true≢false (sym new ∙ ap not (contains_any paths path has))

was_among : (b : Bool) → not b ≡ false → b ≡ true
was_among true e = refl
was_among false e = cc e

pub among_them : (paths : List (List ℕ)) (path : List ℕ) → not (list_any (is_text path) paths) ≡ false → Contains paths path
among_them paths path old = any_contains paths path (was_among (list_any (is_text path) paths) old)

-- ---- the set of their paths

among : (b x y : Bool) → x ≡ y → cond b true x ≡ (y || (b || false))
among true x true same = refl
among true x false same = refl
among false x true same = same
among false x false same = same

-- a set of paths with one more
pub one_path : (old new : BTreeSet (List ℕ)) (key : List ℕ) (before : List (List ℕ)) → HasPaths old before
    → Updates (slice_cmp nat_cmp) old new key true → HasPaths new (before ++ key ∷ [])
one_path old new key before has updates = λ path.
    updates.0 path
    ∙ ap (λ b. cond b true (contains (slice_cmp nat_cmp) old path)) (sym (texts_ties key path) ∙ nat_list_eq_equiv.symm key path)
    ∙ among (is_text path key) (contains (slice_cmp nat_cmp) old path) (list_any (is_text path) before) (has path)
    ∙ sym (list_any-append (is_text path) before (key ∷ []))

-- the paths of placings with one more
pub places_push : (placings : List Placing) (placing : Placing) → places_of (placings ++ placing ∷ []) ≡ places_of placings ++ placing.path ∷ []
places_push placings placing = map-append (λ one. one.path) placings (placing ∷ [])

-- ---- placings that are allowed

pub all_push : {X : Type 0} (P : X → Type 0) (xs : List X) (x : X) → AllByRecursion P xs → P x → AllByRecursion P (xs ++ x ∷ [])
all_push P [] x all here = (here, tt)
all_push P (y ∷ xs) x all here = (all.0, all_push P xs x all.1 here)

pub none_allowed : (abilities : Abilities) → AreAllowed abilities []
none_allowed abilities = record { short = tt; apart = λ i j d p q. absurd (omega (arith, q)); links = tt }

other_paths : (paths : List (List ℕ)) (path : List ℕ) → (¬ Contains paths path) → (k : ℕ) (d : List ℕ) → k < length paths → get_or paths k d ≢ path
other_paths paths path new k d within e = new (k, within, get_or_default paths k path d within ∙ e)

-- one more placing is allowed that fits behind the others
pub allowed_push : (abilities : Abilities) (placings : List Placing) (placing : Placing) → AreAllowed abilities placings
    → length placing.path ≤ 1024 → (¬ Contains (places_of placings) placing.path) → (¬ IsNoLink abilities placing)
    → AreAllowed abilities (placings ++ placing ∷ [])
allowed_push abilities placings placing are short new link = record {
  short = all_push (λ one. length one.path ≤ 1024) placings placing are.short short;
  apart = subst (λ paths. (i j : ℕ) (d : List ℕ) → i < j → j < length paths → get_or paths i d ≢ get_or paths j d) (sym (places_push placings placing))
      (all_pairs_push (λ a b. a ≢ b) (places_of placings) placing.path are.apart (other_paths (places_of placings) placing.path new));
  links = all_push (λ one. ¬ IsNoLink abilities one) placings placing are.links link;
}

-- a place that is short and that none has can be had
pub fits : (placings : List Placing) (placing : Placing) → length placing.path ≤ 1024 → (¬ Contains (places_of placings) placing.path)
    → ¬ IsBadPlace placings placing
fits placings placing short new (inl long) = omega (arith, short, long)
fits placings placing short new (inr has) = new has

-- one more placing was put
pub allowed_after : {T E : Type 0} (r : Result T E) (abilities : Abilities) (before after : List Placing) (placing : Placing) → AreAllowed abilities before
    → OnOk r (after ≡ before ++ placing ∷ []) → OnOk r (length placing.path ≤ 1024) → OnOk r (¬ Contains (places_of before) placing.path)
    → (¬ IsNoLink abilities placing) → OnOk r (AreAllowed abilities after)
allowed_after (Ok x) abilities before after placing are is short new link = subst (AreAllowed abilities) (sym is) (allowed_push abilities before placing are short new link)
allowed_after (Err e) abilities before after placing are is short new link = tt

-- a script is no soft link
pub no_script_link : (exec : Bool) → as_able exec Kind.Exec ≢ Kind.Soft
no_script_link true e = cc e
no_script_link false e = cc e

-- the place that is given is one that stood before
pub stood_before : (place : Option (List ℕ)) (given path : List ℕ) (kind : Kind) (from : Origin) (number : ℕ) (made : List Placing) → place ≡ Some given
    → GivesPlace place path → Contains (places_of made) given
    → RefusesScript number made (record { path = path; kind = kind; from = from } ∷ []) (PlacingErr.BadListing number ListingWhy.Path)
stood_before place given path kind from number made is gives has =
    let same = subst (λ p. GivesPlace p path) is gives in
    inl (refl, record { placing = record { path = path; kind = kind; from = from }; one = refl; bad = inr (subst (Contains (places_of made)) same.0 has) })

-- the place that is given is none that stood before
pub is_free : (place : Option (List ℕ)) (given path : List ℕ) (made : List Placing) → place ≡ Some given → GivesPlace place path
    → (¬ Contains (places_of made) given) → ¬ Contains (places_of made) path
is_free place given path made is gives new =
    let same = subst (λ p. GivesPlace p path) is gives in
    subst (λ p. ¬ Contains (places_of made) p) same.0 new
