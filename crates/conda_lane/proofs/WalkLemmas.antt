-- One change after another: a step on one change leaves the paths of the others. One lemma, `walk_more`, serves all steps.
use Rattle.std.proofs.Common.{◌≡◌, ◌⊎◌, inl, inr, ℕ, zero, suc, ◌+◌, ◌<◌, ◌≤◌, List, [], ◌∷◌, length, get_or, false, Option, Some, None, IfSome, refl, subst, sym, ◌∙◌, add-one, arith}
use Rattle.std.specs.List.{AllByRecursion}
use Rattle.std.specs.Str.{bytes_eq}
use Rattle.conda_device.specs.Lanes.{IsInShare, Share}
use Rattle.conda_device.specs.Tree.{Tree}
use Rattle.conda_lane.specs.declared.change.Change.{Change}
use Rattle.conda_lane.specs.Calls.{Leads}
use Rattle.conda_lane.specs.Changes.{AreApart, AreChanges, Stands, at, is_named, names}
use Rattle.conda_lane.specs.Purge.{Numbered}
use Rattle.conda_lane.specs.Steps.{Effect, Goes, IsChange, IsSame, Stage, Walk}
use Rattle.conda_lane.proofs.Lists.{IsApart, all_map, apart_rest, apart_sym, others_apart, own_apart, unnamed}

-- an effect is a matter of what stands at the change's two paths
pub record IsLocal (effect : Effect) : Type 0 where
  pub now : (i : ℕ) (before mid now : Tree) (c : Change) → IsSame mid now c → effect i before mid c → effect i before now c
  pub before : (i : ℕ) (before mid now : Tree) (c : Change) → IsSame before mid c → effect i mid now c → effect i before now c

same_same : (before mid now : Tree) (c : Change) → IsSame before mid c → IsSame mid now c → IsSame before now c
same_same before mid now c first second = record { path = second.path ∙ first.path; trash = second.trash ∙ first.trash }

-- ---- the change at a place

pub all_at : (P : Change → Type 0) (i : ℕ) (c : Change) (cs : List Change) → i < length cs → c ≡ get_or cs i c → AllByRecursion P cs → P c
all_at P i c [] below is h = absurd (omega (arith, below))
all_at P zero c (d ∷ ds) below is h = subst P (sym is) h.0
all_at P (suc i) c (d ∷ ds) below is h = all_at P i c ds (omega (arith, below)) is h.1

unnamed_at : (i : ℕ) (c : Change) (cs : List Change) (p : List ℕ) → i < length cs → c ≡ get_or cs i c → is_named cs p ≡ false
    → (bytes_eq p c.path ≡ false) × (bytes_eq p c.trash ≡ false)
unnamed_at i c [] p below is free = absurd (omega (arith, below))
unnamed_at zero c (d ∷ ds) p below is none =
    let free = unnamed d ds p none in
    subst (λ x. (bytes_eq p x.path ≡ false) × (bytes_eq p x.trash ≡ false)) (sym is) (free.0, free.1)
unnamed_at (suc i) c (d ∷ ds) p below is none = unnamed_at i c ds p (omega (arith, below)) is (unnamed d ds p none).2

each_change : (share : Share) (cs : List Change) → AreApart cs → AllByRecursion (IsInShare share) (names cs) → AllByRecursion (IsChange share) cs
each_change share [] apart inside = tt
each_change share (c ∷ cs) apart inside =
    (record { path = inside.0; trash = inside.1.0; apart = own_apart c cs apart }, each_change share cs (apart_rest c cs apart) inside.1.1)

-- ---- one step more

module _ (effect : Effect) (local : IsLocal effect) (before mid now : Tree) where
  -- a step that leaves their paths leaves them in their stage
  stage_kept : (k i : ℕ) (cs : List Change) → AllByRecursion (IsSame mid now) cs → Stage effect before mid k i cs → Stage effect before now k i cs
  stage_kept k i [] same h = tt
  stage_kept k zero (c ∷ cs) same h = (same_same before mid now c h.0 same.0, stage_kept (k + 1) zero cs same.1 h.1)
  stage_kept k (suc i) (c ∷ cs) same h = (local.now k before mid now c same.0 h.0, stage_kept (k + 1) i cs same.1 h.1)

  others_same : (c : Change) (cs : List Change) → ((p : List ℕ) → bytes_eq p c.path ≡ false → bytes_eq p c.trash ≡ false → at now p ≡ at mid p)
      → AllByRecursion (IsApart c) cs → AllByRecursion (IsSame mid now) cs
  others_same c cs others apart = all_map (λ d away. record { path = others d.path away.path_path away.path_trash; trash = others d.trash away.trash_path away.trash_trash }) cs apart

  first_step : (k : ℕ) (c : Change) (cs : List Change) → AreApart (c ∷ cs) → Goes (effect k) c mid now → Stage effect before mid k 0 (c ∷ cs) → Stage effect before now k 1 (c ∷ cs)
  first_step k c cs apart goes h = (local.before k before mid now c h.0 goes.own, stage_kept (k + 1) zero cs (others_same c cs goes.others (others_apart c cs apart)) h.1)

  stage_more : (k i n : ℕ) (c : Change) (cs : List Change) → AreApart cs → i < length cs → c ≡ get_or cs i c → n ≡ k + i
      → Goes (effect n) c mid now → Stage effect before mid k i cs → Stage effect before now k (suc i) cs
  stage_more k i n c [] apart below is number goes h = tt
  stage_more k zero n c (d ∷ ds) apart below is number goes h =
      first_step k d ds apart (subst (λ x. Goes (effect k) x mid now) is (subst (λ m. Goes (effect m) c mid now) (number ∙ omega arith) goes)) h
  stage_more k (suc i) n c (d ∷ ds) apart below is number goes h =
      let away = all_at (IsApart d) i c ds (omega (arith, below)) is (others_apart d ds apart) in
      (local.now k before mid now d (record { path = goes.others d.path (apart_sym c.path d.path away.path_path) (apart_sym c.trash d.path away.trash_path); trash = goes.others d.trash (apart_sym c.path d.trash away.path_trash) (apart_sym c.trash d.trash away.trash_trash) }) h.0, stage_more (k + 1) i n c ds (apart_rest d ds apart) (omega (arith, below)) is (omega (arith, number)) goes h.1)

  pub walk_more : (i : ℕ) (c : Change) (cs : List Change) → AreApart cs → i < length cs → c ≡ get_or cs i c
      → Walk effect i cs before mid → Goes (effect i) c mid now → Walk effect (i + 1) cs before now
  walk_more i c cs apart below is walk goes = record {
    each = subst (λ n. Stage effect before now 0 n cs) (sym (add-one i)) (stage_more 0 i i c cs apart below is (omega arith) goes walk.each);
    others = λ p none. let free = unnamed_at i c cs p below is none in goes.others p free.0 free.1 ∙ walk.others p none;
  }

-- ---- before the first step, and behind the last

stage_start : (effect : Effect) (tree : Tree) (k : ℕ) (cs : List Change) → Stage effect tree tree k 0 cs
stage_start effect tree k [] = tt
stage_start effect tree k (c ∷ cs) = (record { path = refl; trash = refl }, stage_start effect tree (k + 1) cs)

pub walk_start : (effect : Effect) (cs : List Change) (tree : Tree) → Walk effect 0 cs tree tree
walk_start effect cs tree = record { each = stage_start effect tree 0 cs; others = λ p none. refl }

-- a change whose step is still to come has what it had
stage_at : (effect : Effect) (before now : Tree) (k i : ℕ) (c : Change) (cs : List Change) → i < length cs → c ≡ get_or cs i c → Stage effect before now k i cs → IsSame before now c
stage_at effect before now k i c [] below is h = absurd (omega (arith, below))
stage_at effect before now k zero c (d ∷ ds) below is h = subst (λ x. IsSame before now x) (sym is) h.0
stage_at effect before now k (suc i) c (d ∷ ds) below is h = stage_at effect before now (k + 1) i c ds (omega (arith, below)) is h.1

pub walk_at : (effect : Effect) (before now : Tree) (i : ℕ) (c : Change) (cs : List Change) → i < length cs → c ≡ get_or cs i c → Walk effect i cs before now → IsSame before now c
walk_at effect before now i c cs below is walk = stage_at effect before now 0 i c cs below is walk.each

stage_end : (effect : Effect) (before now : Tree) (k i : ℕ) (cs : List Change) → length cs ≤ i → Stage effect before now k i cs → Numbered (λ n. effect n before now) k cs
stage_end effect before now k i [] all h = tt
stage_end effect before now k zero (c ∷ cs) all h = absurd (omega (arith, all))
stage_end effect before now k (suc i) (c ∷ cs) all h = (h.0, stage_end effect before now (k + 1) i cs (omega (arith, all)) h.1)

pub walk_end : (effect : Effect) (before now : Tree) (i : ℕ) (cs : List Change) → length cs ≤ i → Walk effect i cs before now → Numbered (λ n. effect n before now) 0 cs
walk_end effect before now i cs all walk = stage_end effect before now 0 i cs all walk.each

-- an effect of which the number tells nothing
abbrev pub Plain : (Tree → Tree → Change → Type 0) → Effect
Plain E = λ _. E

un_numbered : (P : Change → Type 0) (k : ℕ) (cs : List Change) → Numbered (λ _. P) k cs → AllByRecursion P cs
un_numbered P k [] h = tt
un_numbered P k (c ∷ cs) h = (h.0, un_numbered P (k + 1) cs h.1)

pub walk_all : (E : Tree → Tree → Change → Type 0) (before now : Tree) (i : ℕ) (cs : List Change) → length cs ≤ i → Walk (Plain E) i cs before now → Stands (E before now) before now cs
walk_all E before now i cs all walk = record { each = un_numbered (E before now) 0 cs (walk_end (Plain E) before now i cs all walk); others = walk.others }

stage_either : (E : Tree → Tree → Change → Type 0) (before now : Tree) (k i : ℕ) (cs : List Change) → Stage (Plain E) before now k i cs → AllByRecursion (λ c. E before now c ⊎ IsSame before now c) cs
stage_either E before now k i [] h = tt
stage_either E before now k zero (c ∷ cs) h = (inr h.0, stage_either E before now (k + 1) zero cs h.1)
stage_either E before now k (suc i) (c ∷ cs) h = (inl h.0, stage_either E before now (k + 1) i cs h.1)

-- wherever a loop stopped, each change went through the step or is as it was
abbrev pub Halted : (Tree → Tree → Change → Type 0) → List Change → Tree → Tree → Type 0
Halted E cs before now = Stands (λ c. E before now c ⊎ IsSame before now c) before now cs

-- wherever it stopped, each change went through the step or is as it was
pub walk_either : (E : Tree → Tree → Change → Type 0) (before now : Tree) (i : ℕ) (cs : List Change) → Walk (Plain E) i cs before now → Halted E cs before now
walk_either E before now i cs walk = record { each = stage_either E before now 0 i cs walk.each; others = walk.others }

-- ---- where the tree is told

pub leads_then : {A B C : Tree → Tree → Type 0} → ((a b c : Tree) → A a b → B b c → C a c) → (t u v : Option Tree) → Leads A t u → Leads B u v → Leads C t v
leads_then f None None None h i = tt
leads_then f None None (Some c) h i = i
leads_then f None (Some b) v h i = absurd h
leads_then f (Some a) None v h i = absurd h
leads_then f (Some a) (Some b) None h i = i
leads_then f (Some a) (Some b) (Some c) h i = f a b c h i

pub leads_map : {A B : Tree → Tree → Type 0} → ((a b : Tree) → A a b → B a b) → (t u : Option Tree) → Leads A t u → Leads B t u
leads_map f None None h = h
leads_map f None (Some b) h = h
leads_map f (Some a) None h = h
leads_map f (Some a) (Some b) h = f a b h

-- what two calls keep, they keep together
pub then_too : (P : Tree → Type 0) (t u v : Option Tree) → Leads (λ before now. P before → P now) t u → Leads (λ before now. P before → P now) u v → Leads (λ before now. P before → P now) t v
then_too P t u v first second = leads_then {C = λ before now. P before → P now} (λ (before mid now : Tree) (f : P before → P mid) (g : P mid → P now) (p : P before). g (f p)) t u v first second

-- what holds of the tree before gives what the call leads to
pub leads_from : {P : Tree → Type 0} {A B : Tree → Tree → Type 0} → ((a b : Tree) → P a → A a b → B a b) → (t u : Option Tree) → IfSome t P → Leads A t u → Leads B t u
leads_from f None None p h = h
leads_from f None (Some b) p h = h
leads_from f (Some a) None p h = h
leads_from f (Some a) (Some b) p h = f a b p h

-- or what holds of the tree after
pub leads_to : {P Q : Tree → Type 0} {A : Tree → Tree → Type 0} → ((a b : Tree) → P a → A a b → Q b) → (t u : Option Tree) → IfSome t P → Leads A t u → IfSome u Q
leads_to f None None p h = tt
leads_to f None (Some b) p h = absurd h
leads_to f (Some a) None p h = tt
leads_to f (Some a) (Some b) p h = f a b p h

pub leads_self : (A : Tree → Tree → Type 0) → ((a : Tree) → A a a) → (t : Option Tree) → Leads A t t
leads_self A f None = tt
leads_self A f (Some a) = f a

-- ---- a loop, where the tree is told

module _ (E : Tree → Tree → Change → Type 0) (local : IsLocal (Plain E)) (i : ℕ) (c : Change) (cs : List Change) (apart : AreApart cs) (below : i < length cs) (is : c ≡ get_or cs i c) (t u v : Option Tree) where
  pub step_on : Leads (Walk (Plain E) i cs) t u → Leads (Goes E c) u v → Leads (Walk (Plain E) (i + 1) cs) t v
  step_on walk goes = leads_then (λ before mid now w g. walk_more (Plain E) local before mid now i c cs apart below is w g) t u v walk goes

  -- a step that failed stayed or was done
  pub step_off : Leads (Walk (Plain E) i cs) t u → (v ≡ u) ⊎ Leads (Goes E c) u v → Leads (Halted E cs) t v
  step_off walk h = elim h [
    | inl same ↦ subst (λ x. Leads (Halted E cs) t x) (sym same) (leads_map (λ before now w. walk_either E before now i cs w) t u walk)
    | inr goes ↦ leads_map (λ before now w. walk_either E before now (i + 1) cs w) t v (step_on walk goes)
  ]

pub walk_first : (effect : Effect) (cs : List Change) (t : Option Tree) → Leads (Walk effect 0 cs) t t
walk_first effect cs t = leads_self (Walk effect 0 cs) (walk_start effect cs) t

pub walk_whole : (E : Tree → Tree → Change → Type 0) (i : ℕ) (cs : List Change) (t u : Option Tree) → length cs ≤ i → Leads (Walk (Plain E) i cs) t u
    → Leads (λ before now. Stands (E before now) before now cs) t u
walk_whole E i cs t u all walk = leads_map (λ before now w. walk_all E before now i cs all w) t u walk

pub walk_halted : (E : Tree → Tree → Change → Type 0) (i : ℕ) (cs : List Change) (t u : Option Tree) → Leads (Walk (Plain E) i cs) t u → Leads (Halted E cs) t u
walk_halted E i cs t u walk = leads_map (λ before now w. walk_either E before now i cs w) t u walk

-- ---- the condition of a step

pub change_at : (share : Share) (i : ℕ) (c : Change) (cs : List Change) → AreChanges share cs → i < length cs → c ≡ get_or cs i c → IsChange share c
change_at share i c cs are below is =
    all_at (IsChange share) i c cs below is (each_change share cs are.apart are.inside)

-- a lane's change, after calls that left the share
pub change_later : (before share : Share) (i : ℕ) (c : Change) (cs : List Change) → share ≡ before → AreChanges before cs → i < length cs → c ≡ get_or cs i c → IsChange share c
change_later before share i c cs same are below is = subst (λ s. IsChange s c) (sym same) (change_at before i c cs are below is)

-- what held of each change at the start holds of one that is still to come
pub still_so : (Q : Tree → Change → Type 0) (E : Tree → Tree → Change → Type 0) (i : ℕ) (c : Change) (cs : List Change) (t u : Option Tree)
    → ((before now : Tree) → IsSame before now c → Q before c → Q now c) → i < length cs → c ≡ get_or cs i c
    → IfSome t (λ tree. AllByRecursion (Q tree) cs) → Leads (Walk (Plain E) i cs) t u → IfSome u (λ tree. Q tree c)
still_so Q E i c cs t u f below is each walk =
    leads_to (λ before now q w. f before now (walk_at (Plain E) before now i c cs below is w) (all_at (Q before) i c cs below is q)) t u each walk

-- the same of another fact of the tree
pub found_so : {P : Tree → Type 0} (Q : Tree → Change → Type 0) (E : Tree → Tree → Change → Type 0) (i : ℕ) (c : Change) (cs : List Change) (t u : Option Tree)
    → ((before now : Tree) → IsSame before now c → Q before c → P now) → i < length cs → c ≡ get_or cs i c
    → IfSome t (λ tree. AllByRecursion (Q tree) cs) → Leads (Walk (Plain E) i cs) t u → IfSome u P
found_so Q E i c cs t u f below is each walk =
    leads_to (λ before now q w. f before now (walk_at (Plain E) before now i c cs below is w) (all_at (Q before) i c cs below is q)) t u each walk
