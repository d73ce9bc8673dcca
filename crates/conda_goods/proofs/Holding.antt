-- Who has a path, as it is noted claim by claim.
use Rattle.std.specs.Prelude.{◌≡◌, ◌↔◌, ℕ, ◌+◌, ◌<◌, Bool, true, false, ◌&&◌, ◌||◌, List, length, map, option_copied, Option, Some, cond}
use Rattle.std.proofs.Common.{refl, ap, sym, ◌∙◌, subst, drop, get_or}
use Rattle.std.proofs.lemmas.Bool.{and_from, and_parts}
use Rattle.std.proofs.lemmas.Slice.Eq.{bytes_eq-Decides}
use Rattle.std.proofs.Math.Bool.{or_assoc}
use Rattle.std.specs.Map.{update}
use Rattle.std.specs.Str.{bytes_eq}
use Rattle.conda_path.specs.Paths.{IsInside, is_inside}
use Rattle.conda_path.proofs.InsideLemmas.{inside_all, inside_only}
use Rattle.conda_goods.specs.Claims.{Claimed, claimed, differ, held_by_other, other_above, other_has}
use Rattle.conda_goods.specs.Conflicts.{Holder}
use Rattle.conda_goods.specs.declared.claims.Claim.{Claim}
use Rattle.conda_goods.specs.declared.held.Held.{Held}
use Rattle.conda_goods.proofs.Lists.{IsIn, any_from_in, drop_item, in_from_any}

-- one more claim is noted
noted : (old new : List ℕ → Option Held) (key : List ℕ) (held : Held) (one : Holder) → ((q : List ℕ) → new q ≡ update bytes_eq old key (Some held) q) → ((other : Holder) → held_by_other other (Some held) ≡ (held_by_other other (old key) || differ one other)) → (path : List ℕ) (holder : Holder) (rest : Bool) → (held_by_other holder (new path) || rest) ≡ (held_by_other holder (old path) || ((bytes_eq key path && differ one holder) || rest))
noted old new key held one is joined path holder rest =
    ap (λ h. held_by_other holder h || rest) (is path) ∙ by (bytes_eq key path) refl
  where
    by : (v : Bool) → bytes_eq key path ≡ v → (held_by_other holder (cond v (Some held) (old path)) || rest) ≡ (held_by_other holder (old path) || ((v && differ one holder) || rest))
    by false e = refl
    by true e =
        let same : key ≡ path = (bytes_eq-Decides key path).0 e in
        ap (λ t. t || rest) (joined holder) ∙ ap (λ k. (held_by_other holder (old k) || differ one holder) || rest) same ∙ or_assoc (held_by_other holder (old path)) (differ one holder) rest

pub holders_step : (claims : List Claim) (i : ℕ) (item : Claim) (old new : List ℕ → Option Held) (key : List ℕ) (held : Held) → i < length claims → item ≡ get_or claims i item → key ≡ item.path.now → ((q : List ℕ) → new q ≡ update bytes_eq old key (Some held) q) → ((other : Holder) → held_by_other other (Some held) ≡ (held_by_other other (old key) || differ (option_copied item.holder) other)) → (path : List ℕ) (holder : Holder) → (held_by_other holder (new path) || other_has (map claimed (drop (i + 1) claims)) holder path) ≡ (held_by_other holder (old path) || other_has (map claimed (drop i claims)) holder path)
holders_step claims i item old new key held q e k is joined path holder =
    noted old new key held (option_copied item.holder) is joined path holder (other_has (map claimed (drop (i + 1) claims)) holder path)
    ∙ ap (λ t. held_by_other holder (old path) || ((bytes_eq t path && differ (option_copied item.holder) holder) || other_has (map claimed (drop (i + 1) claims)) holder path)) k
    ∙ ap (λ cs. held_by_other holder (old path) || other_has (map claimed cs) holder path) (sym (drop_item claims i item q e))

-- ---- a claim that meets another holder's

pub above_from : (claims : List Claimed) (holder : Holder) (path : List ℕ) → other_above claims holder path ≡ true → (c : Claimed) × IsIn c claims × IsInside path c.1 × (differ c.0 holder ≡ true)
above_from claims holder path h =
    let r = in_from_any (λ c. is_inside path c.1 && differ c.0 holder) claims h in
    let both = and_parts (is_inside path r.0.1) (differ r.0.0 holder) r.2 in
    (r.0, r.1, inside_only path r.0.1 both.0, both.1)

pub above_to : (claims : List Claimed) (holder : Holder) (path : List ℕ) (c : Claimed) → IsIn c claims → IsInside path c.1 → differ c.0 holder ≡ true → other_above claims holder path ≡ true
above_to claims holder path c m i d =
    any_from_in (λ c. is_inside path c.1 && differ c.0 holder) claims c m (and_from (is_inside path c.1) (differ c.0 holder) (inside_all path c.1 i) d)

has_from : (claims : List Claimed) (holder : Holder) (path : List ℕ) → other_has claims holder path ≡ true → (one : Holder) × IsIn (one, path) claims × (differ one holder ≡ true)
has_from claims holder path h =
    let r = in_from_any (λ c. bytes_eq c.1 path && differ c.0 holder) claims h in
    let both = and_parts (bytes_eq r.0.1 path) (differ r.0.0 holder) r.2 in
    let same : r.0.1 ≡ path = (bytes_eq-Decides r.0.1 path).0 both.0 in
    (r.0.0, subst (λ p. IsIn (r.0.0, p) claims) same r.1, both.1)

has_to : (claims : List Claimed) (holder : Holder) (c : Claimed) → IsIn c claims → differ c.0 holder ≡ true → other_has claims holder c.1 ≡ true
has_to claims holder c m d =
    any_from_in (λ e. bytes_eq e.1 c.1 && differ e.0 holder) claims c m (and_from (bytes_eq c.1 c.1) (differ c.0 holder) ((bytes_eq-Decides c.1 c.1).1 refl) d)

-- another holder has a path that this one is or lies below, by what is noted at each path
pub meets_is : (claims : List Claimed) (at : List ℕ → Option Held) (holder : Holder) (path : List ℕ) (found : Bool) → ((q : List ℕ) (other : Holder) → held_by_other other (at q) ≡ other_has claims other q) → ((found ≡ true) ↔ ((folder : List ℕ) × IsInside path folder × (held_by_other holder (at folder) ≡ true))) → found ≡ other_above claims holder path
meets_is claims at holder path found noted says = by found refl (other_above claims holder path) refl
  where
    up : found ≡ true → other_above claims holder path ≡ true
    up h =
        let r = says.0 h in
        let g = has_from claims holder r.0 (sym (noted r.0 holder) ∙ r.2) in
        above_to claims holder path (g.0, r.0) g.1 r.1 g.2

    down : other_above claims holder path ≡ true → found ≡ true
    down h =
        let r = above_from claims holder path h in
        says.1 (r.0.1, r.2, noted r.0.1 holder ∙ has_to claims holder r.0 r.1 r.3)

    by : (v : Bool) → found ≡ v → (w : Bool) → other_above claims holder path ≡ w → found ≡ other_above claims holder path
    by true e w f = e ∙ sym (up e)
    by false e true f = down f ∙ sym f
    by false e false f = e ∙ sym f
