-- Lists of changes, and the paths that they name.
use Rattle.std.proofs.Common.{◌≡◌, ◌||◌, ℕ, List, [], ◌∷◌, Bool, true, false, true≢false, refl, subst, sym, ◌∙◌}
use Rattle.std.specs.List.{AllByRecursion, IsDistinct, list_any}
use Rattle.std.specs.Str.{bytes_eq}
use Rattle.std.proofs.lemmas.Slice.Eq.{bytes_eq-Decides}
use Rattle.conda_device.specs.Tree.{Tree}
use Rattle.conda_lane.specs.declared.change.Change.{Change}
use Rattle.conda_lane.specs.Changes.{AreApart, at, is_named, names}

-- ---- facts of each element

pub all_map : {X : Type 0} {P Q : X → Type 0} → ((x : X) → P x → Q x) → (xs : List X) → AllByRecursion P xs → AllByRecursion Q xs
all_map f [] h = tt
all_map f (x ∷ xs) h = (f x h.0, all_map f xs h.1)

pub all_zip : {X : Type 0} {P Q R : X → Type 0} → ((x : X) → P x → Q x → R x) → (xs : List X) → AllByRecursion P xs → AllByRecursion Q xs → AllByRecursion R xs
all_zip f [] h i = tt
all_zip f (x ∷ xs) h i = (f x h.0 i.0, all_zip f xs h.1 i.1)

-- ---- paths that differ

pub eq_of : (p q : List ℕ) → bytes_eq p q ≡ true → p ≡ q
eq_of p q h = (bytes_eq-Decides p q).0 h

pub eq_self : (p : List ℕ) → bytes_eq p p ≡ true
eq_self p = (bytes_eq-Decides p p).1 refl

pub apart_sym : (p q : List ℕ) → bytes_eq p q ≡ false → bytes_eq q p ≡ false
apart_sym p q h =
    elim (bytes_eq q p) as (λ b. bytes_eq q p ≡ b → b ≡ false) [
      | true ↦ λ e. absurd (true≢false (sym (subst (λ r. bytes_eq r q ≡ true) (eq_of q p e) (eq_self q)) ∙ h))
      | false ↦ λ e. refl
    ] refl

-- the two paths of a change are those of no other
pub record IsApart (change other : Change) : Type 0 where
  pub path_path : bytes_eq other.path change.path ≡ false
  pub path_trash : bytes_eq other.path change.trash ≡ false
  pub trash_path : bytes_eq other.trash change.path ≡ false
  pub trash_trash : bytes_eq other.trash change.trash ≡ false

none_of : (p q : List ℕ) (cs : List Change) → AllByRecursion (λ y. bytes_eq p y ≡ false) (names cs) → AllByRecursion (λ y. bytes_eq q y ≡ false) (names cs)
    → AllByRecursion (λ d. (bytes_eq d.path p ≡ false) × (bytes_eq d.path q ≡ false) × (bytes_eq d.trash p ≡ false) × (bytes_eq d.trash q ≡ false)) cs
none_of p q [] h i = tt
none_of p q (c ∷ cs) h i =
    ((apart_sym p c.path h.0, apart_sym q c.path i.0, apart_sym p c.trash h.1.0, apart_sym q c.trash i.1.0), none_of p q cs h.1.1 i.1.1)

pub own_apart : (c : Change) (cs : List Change) → AreApart (c ∷ cs) → bytes_eq c.path c.trash ≡ false
unfolding IsDistinct
own_apart c cs h = h.0.0

pub apart_rest : (c : Change) (cs : List Change) → AreApart (c ∷ cs) → AreApart cs
unfolding IsDistinct
apart_rest c cs h = h.1.1

pub others_apart : (c : Change) (cs : List Change) → AreApart (c ∷ cs) → AllByRecursion (IsApart c) cs
unfolding IsDistinct
others_apart c cs h =
    all_map (λ d e. record { path_path = e.0; path_trash = e.1; trash_path = e.2; trash_trash = e.3 }) cs
    (none_of c.path c.trash cs h.0.1 h.1.0)

-- ---- named paths

false_or : (a b : Bool) → (a || b) ≡ false → (a ≡ false) × (b ≡ false)
false_or true b h = absurd (true≢false h)
false_or false b h = (refl, h)

pub or_false : (a b : Bool) → a ≡ false → b ≡ false → (a || b) ≡ false
or_false true b h i = h
or_false false b h i = i

-- a path that none names is neither path of the first, and no other names it
pub unnamed : (c : Change) (cs : List Change) (p : List ℕ) → is_named (c ∷ cs) p ≡ false
    → (bytes_eq p c.path ≡ false) × (bytes_eq p c.trash ≡ false) × (is_named cs p ≡ false)
unnamed c cs p h =
    let first = false_or (bytes_eq p c.path) (bytes_eq p c.trash || is_named cs p) h in
    let second = false_or (bytes_eq p c.trash) (is_named cs p) first.1 in
    (first.0, second.0, second.1)

pub none_named : (p : List ℕ) (ps : List (List ℕ)) → AllByRecursion (λ y. bytes_eq p y ≡ false) ps → list_any (bytes_eq p) ps ≡ false
none_named p [] h = refl
none_named p (q ∷ ps) h = or_false (bytes_eq p q) (list_any (bytes_eq p) ps) h.0 (none_named p ps h.1)

-- the two paths of the first are named by no other
pub first_unnamed : (c : Change) (cs : List Change) → AreApart (c ∷ cs) → (is_named cs c.path ≡ false) × (is_named cs c.trash ≡ false)
unfolding IsDistinct
first_unnamed c cs h = (none_named c.path (names cs) h.0.1, none_named c.trash (names cs) h.1.0)

-- trees that have the same at both paths of each change have the same at each path that one of them names
pub same_named : (one other : Tree) (cs : List Change) (p : List ℕ) → AllByRecursion (λ c. (at one c.path ≡ at other c.path) × (at one c.trash ≡ at other c.trash)) cs
    → is_named cs p ≡ true → at one p ≡ at other p
same_named one other [] p h named = absurd (true≢false (sym named))
same_named one other (c ∷ cs) p h named =
    elim (bytes_eq p c.path) as (λ a. bytes_eq p c.path ≡ a → (a || (bytes_eq p c.trash || is_named cs p)) ≡ true → at one p ≡ at other p) [
      | true ↦ λ e _. subst (λ q. at one q ≡ at other q) (sym (eq_of p c.path e)) h.0.0
      | false ↦ λ _ more.
          elim (bytes_eq p c.trash) as (λ b. bytes_eq p c.trash ≡ b → (b || is_named cs p) ≡ true → at one p ≡ at other p) [
            | true ↦ λ e _. subst (λ q. at one q ≡ at other q) (sym (eq_of p c.trash e)) h.0.1
            | false ↦ λ _ rest. same_named one other cs p h.1 rest
          ] refl more
    ] refl named
