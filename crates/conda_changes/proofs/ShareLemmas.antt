-- Changes put behind those of their lanes.
use Rattle.std.proofs.Common.{◌≡◌, ◌≢◌, ℕ, ◌<◌, Bool, true, false, cond, List, [], ◌∷◌, ◌++◌, length, get_or, set, append-nil, append_assoc, eqb-true, eq-eqb, get_or-set_other, get_or-set_same, refl, ap, sym, subst, ◌∙◌}
use Rattle.std.proofs.lemmas.Bool.{true≢false}
use Rattle.std.proofs.lemmas.Option.{unwrap_or-slice_get}
use Rattle.std.proofs.lemmas.List.{get_or_default}
use Rattle.std.specs.Prelude.{nat_eq}
use Rattle.conda_path.specs.Lanes.{lane_number}
use Rattle.conda_lane.specs.declared.change.Change.{Change}
use Rattle.conda_changes.specs.Shares.{changes_in, share_at}

-- the shares with one more change in the one at a place
pub one_dealt : (shares : List (List Change)) (at : ℕ) (old new : List Change) (change : Change) → at < length shares → old ≡ get_or shares at old
    → new ≡ old ++ change ∷ [] → (lane : ℕ) → share_at (set shares at new) lane ≡ share_at shares lane ++ cond (nat_eq at lane) (change ∷ []) []
one_dealt shares at old new change within was is lane = by (nat_eq at lane) refl
  where
    before : old ≡ share_at shares at
    before = was ∙ get_or_default shares at old [] within ∙ sym (unwrap_or-slice_get shares at [])

    by : (v : Bool) → nat_eq at lane ≡ v → share_at (set shares at new) lane ≡ share_at shares lane ++ cond v (change ∷ []) []
    by true e =
        subst (λ l. share_at (set shares at new) l ≡ share_at shares l ++ change ∷ []) (eqb-true at lane e)
        (unwrap_or-slice_get (set shares at new) at [] ∙ get_or-set_same shares at new [] within ∙ is ∙ ap (λ share. share ++ change ∷ []) before)
    by false e =
        let other : lane ≢ at = λ same. true≢false (sym (eq-eqb at lane (sym same)) ∙ e) in
        unwrap_or-slice_get (set shares at new) lane [] ∙ get_or-set_other shares at lane new [] other ∙ sym (unwrap_or-slice_get shares lane [])
        ∙ sym (append-nil (share_at shares lane))

changes_first : (change : Change) (rest : List Change) (lanes lane : ℕ) → changes_in (change ∷ rest) lanes lane ≡ changes_in (change ∷ []) lanes lane ++ changes_in rest lanes lane
changes_first change rest lanes lane = by (nat_eq (lane_number change.path lanes) lane)
  where
    by : (v : Bool) → cond v (change ∷ changes_in rest lanes lane) (changes_in rest lanes lane) ≡ cond v (change ∷ []) [] ++ changes_in rest lanes lane
    by true = refl
    by false = refl

-- the next change was put behind those of its lane
pub next_dealt : (before after : List (List Change)) (change : Change) (rest all : List Change) (lanes lane : ℕ)
    → share_at after lane ≡ share_at before lane ++ changes_in (change ∷ []) lanes lane
    → share_at before lane ++ changes_in (change ∷ rest) lanes lane ≡ changes_in all lanes lane → share_at after lane ++ changes_in rest lanes lane ≡ changes_in all lanes lane
next_dealt before after change rest all lanes lane is was =
    ap (λ share. share ++ changes_in rest lanes lane) is
    ∙ append_assoc (share_at before lane) (changes_in (change ∷ []) lanes lane) (changes_in rest lanes lane)
    ∙ ap (λ share. share_at before lane ++ share) (sym (changes_first change rest lanes lane)) ∙ was
