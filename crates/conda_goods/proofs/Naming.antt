-- The conflict that is named is the first one.
use Rattle.std.specs.Prelude.{◌≡◌, ◌≢◌, ℕ, ◌+◌, ◌<◌, Bool, true, false, cond, ◌&&◌, List, [], ◌∷◌, ◌++◌, length, map, flat_map, Option, None, Some}
use Rattle.std.proofs.Common.{refl, ap, sym, ◌∙◌, subst, inl, inr, ◌⊎◌, drop, get_or}
use Rattle.std.proofs.lemmas.Bool.{and_from, and_parts, true≢false}
use Rattle.std.proofs.lemmas.Cmp.{nat_list_cmp_total}
use Rattle.std.proofs.Math.Bool.{and_assoc}
use Rattle.std.specs.Cmp.Lexicographic.{slice_cmp}
use Rattle.std.specs.Option.{option_map_or}
use Rattle.std.specs.Ordering.{is_lt, nat_cmp}
use Rattle.std.specs.declared.cmp.Ordering.{Ordering}
use Rattle.std.specs.declared.cmp.Ordering.TheVariants.{Less}
use Rattle.conda_base.specs.Signs.{slash}
use Rattle.conda_path.specs.Paths.{IsInside, is_inside}
use Rattle.conda_path.proofs.InsideLemmas.{inside_all, inside_only}
use Rattle.conda_goods.specs.Claims.{Claimed, NamesFirst, claimed, claims_of, differ, first_above, first_of_two, is_first_yet, is_least_yet, least_meeting, other_above, other_claims, part_claims, same_owner}
use Rattle.conda_goods.specs.Conflicts.{Conflict, Conflicts, Has, Holder, IsBefore, IsFirstConflict, NamesFirstConflict, NoConflict, owner_cmp}
use Rattle.conda_goods.specs.Goods.{paths_of}
use Rattle.conda_goods.specs.declared.claims.Claim.{Claim}
use Rattle.conda_goods.specs.declared.error.GoodsErr.{GoodsErr}
use Rattle.conda_goods.specs.declared.error.GoodsErr.TheVariants.{Clobber, Memory}
use Rattle.conda_goods.specs.declared.owner.Owner.{Owner}
use Rattle.conda_goods.specs.declared.owned.Owned.{Owned}
use Rattle.conda_goods.proofs.Best.{IsBest, best, best_law, better}
use Rattle.conda_goods.proofs.Folders.{folder_less, nested}
use Rattle.conda_goods.proofs.Holders.{differ_are_two, owner_first, owner_total, same_owner_is, two_differ}
use Rattle.conda_goods.proofs.Holding.{above_from, above_to}
use Rattle.conda_goods.proofs.Lists.{IsIn, Contains_from_in, drop_item, from_flat, from_map, in_cases, in_flat, in_from_Contains, in_left, in_map, in_right}

-- ---- claims say who has what

pub has_in : (parts : List Owned) (others : List (List ℕ)) (holder : Holder) (path : List ℕ) → Has parts others holder path → IsIn (holder, path) (claims_of parts others)
has_in parts others None path h =
    in_right (flat_map part_claims parts) (other_claims others) (None, path) (in_map (λ p. (None, p)) others path (in_from_Contains others path h))
has_in parts others (Some owner) path h =
    let part : Owned = h.0 in
    let good = from_map (λ g. g.path) part.goods path (in_from_Contains (paths_of part.goods) path h.3) in
    let here : IsIn (Some part.owner, good.0.path) (part_claims part) = in_map (λ g. (Some part.owner, g.path)) part.goods good.0 good.1 in
    let named : IsIn (Some owner, path) (part_claims part) =
    subst (λ o. IsIn (Some o, path) (part_claims part)) h.2 (subst (λ p. IsIn (Some part.owner, p) (part_claims part)) good.2 here)
    in
    in_left (flat_map part_claims parts) (other_claims others) (Some owner, path) (in_flat part_claims parts part (Some owner, path) (in_from_Contains parts part h.1) named)

pub in_has : (parts : List Owned) (others : List (List ℕ)) (holder : Holder) (path : List ℕ) → IsIn (holder, path) (claims_of parts others) → Has parts others holder path
in_has parts others holder path m =
    by (in_cases (flat_map part_claims parts) (other_claims others) (holder, path) m)
  where
    of_part : (part : Owned) → IsIn part parts → IsIn (holder, path) (part_claims part) → Has parts others holder path
    of_part part p n =
        let good = from_map (λ g. (Some part.owner, g.path)) part.goods (holder, path) n in
        let who : Some part.owner ≡ holder = ap (λ c. c.0) good.2 in
        let where_is : good.0.path ≡ path = ap (λ c. c.1) good.2 in
        let owned : Has parts others (Some part.owner) path =
        (part, Contains_from_in parts part p, refl, Contains_from_in (paths_of part.goods) path (subst (λ q. IsIn q (paths_of part.goods)) where_is (in_map (λ g. g.path) part.goods good.0 good.1)))
        in
        subst (λ h. Has parts others h path) who owned

    of_other : IsIn (holder, path) (other_claims others) → Has parts others holder path
    of_other n =
        let r = from_map (λ p. (None, p)) others (holder, path) n in
        let who : None ≡ holder = ap (λ c. c.0) r.2 in
        let where_is : r.0 ≡ path = ap (λ c. c.1) r.2 in
        subst (λ h. Has parts others h path) who (Contains_from_in others path (subst (λ q. IsIn q others) where_is r.1))

    by : IsIn (holder, path) (flat_map part_claims parts) ⊎ IsIn (holder, path) (other_claims others) → Has parts others holder path
    by (inl n) = let r = from_flat part_claims parts (holder, path) n in of_part r.0 r.1 r.2
    by (inr n) = of_other n

conflict_meets : (parts : List Owned) (others : List (List ℕ)) (path : List ℕ) (one other : Holder) → Conflict parts others path one other → other_above (claims_of parts others) one path ≡ true
conflict_meets parts others path one other c =
    above_to (claims_of parts others) one path (other, c.above.0) (has_in parts others other c.above.0 c.above.1) c.above.2 (two_differ other one (λ e. c.two (sym e)))

-- ---- the least path

chosen : {K : Type 0} (R : K → K → Ordering) (k : K) (b : Option K) (m a : Bool) → a ≡ option_map_or (λ o. is_lt (R k o)) b true → cond (a && m) (Some k) b ≡ better R (cond m (Some k) None) b
chosen R k b true true e = ap (λ v. cond v (Some k) b) e
chosen R k b true false e = ap (λ v. cond v (Some k) b) e
chosen R k b false true e = refl
chosen R k b false false e = refl

abbrev meeting : List Claimed → Claimed → Option (List ℕ)
meeting all c = cond (other_above all c.0 c.1) (Some c.1) None

least_is_best : (all claims : List Claimed) (b : Option (List ℕ)) → least_meeting all claims b ≡ best (slice_cmp nat_cmp) (meeting all) claims b
least_is_best all [] b = refl
least_is_best all (c ∷ claims) b =
    ap (λ z. least_meeting all claims z) (chosen (slice_cmp nat_cmp) c.1 b (other_above all c.0 c.1) (is_least_yet c.1 b) refl) ∙ least_is_best all claims (better (slice_cmp nat_cmp) (meeting all c) b)

pub least_step : (claims : List Claim) (i : ℕ) (item : Claim) (least next : Option (List ℕ)) → i < length claims → item ≡ get_or claims i item → next ≡ cond (is_least_yet (claimed item).1 least && other_above (map claimed claims) (claimed item).0 (claimed item).1) (Some (claimed item).1) least → least_meeting (map claimed claims) (map claimed (drop (i + 1) claims)) next ≡ least_meeting (map claimed claims) (map claimed (drop i claims)) least
least_step claims i item least next q is e =
    ap (λ n. least_meeting (map claimed claims) (map claimed (drop (i + 1) claims)) n) e
    ∙ ap (λ cs. least_meeting (map claimed claims) (map claimed cs) least) (sym (drop_item claims i item q is))

pub taken : (a m : Bool) (p : List ℕ) (b next : Option (List ℕ)) → a ≡ true → m ≡ true → next ≡ Some p → next ≡ cond (a && m) (Some p) b
taken a m p b next e f g = g ∙ sym (ap (λ t. cond t (Some p) b) (and_from a m e f))

pub left : (a m : Bool) (p : List ℕ) (b next : Option (List ℕ)) → (a && m) ≡ false → next ≡ b → next ≡ cond (a && m) (Some p) b
left a m p b next e g = g ∙ sym (ap (λ t. cond t (Some p) b) e)

-- what is said of the least path that was found
abbrev LeastSays : List Claimed → Option (List ℕ) → Type 0
LeastSays all None = (holder : Holder) (path : List ℕ) → IsIn (holder, path) all → other_above all holder path ≡ false
LeastSays all (Some path) =
    ((holder : Holder) × IsIn (holder, path) all × (other_above all holder path ≡ true))
    × ((holder : Holder) (later : List ℕ) → IsIn (holder, later) all → other_above all holder later ≡ true → slice_cmp nat_cmp later path ≢ Less)

kept : (m : Bool) (p q : List ℕ) → cond m (Some p) None ≡ Some q → (m ≡ true) × (p ≡ q)
kept true p q e = (refl, let inner : p ≡ q = cc in inner)
kept false p q e = cc e

none_kept : (m : Bool) (p : List ℕ) → cond m (Some p) None ≡ None → m ≡ false
none_kept true p e = cc e
none_kept false p e = refl

least_says : (all : List Claimed) (found : Option (List ℕ)) → IsBest (slice_cmp nat_cmp) (meeting all) all None found → LeastSays all found
least_says all None h = λ holder path m. none_kept (other_above all holder path) path (h.1 (holder, path) m)
least_says all (Some path) h = (here h.0, λ holder later m o. h.1 (holder, later) later m (ap (λ v. cond v (Some later) None) o))
  where
    here : (None ≡ Some path) ⊎ ((c : Claimed) × IsIn c all × (meeting all c ≡ Some path)) → (holder : Holder) × IsIn (holder, path) all × (other_above all holder path ≡ true)
    here (inl e) = cc e
    here (inr g) =
        let k = kept (other_above all g.0.0 g.0.1) g.0.1 path g.2 in
        (g.0.0, subst (λ p. IsIn (g.0.0, p) all) k.1 g.1, subst (λ p. other_above all g.0.0 p ≡ true) k.1 k.0)

least_found : (all : List Claimed) → LeastSays all (least_meeting all all None)
least_found all =
    subst (LeastSays all) (sym (least_is_best all all None)) (least_says all (best (slice_cmp nat_cmp) (meeting all) all None) (best_law nat_list_cmp_total (meeting all) all None))

-- ---- the first owners

-- the holder has the path or one that it lies below
abbrev Stands : List Claimed → List ℕ → Holder → Type 0
Stands claims path holder = (folder : List ℕ) × IsIn (holder, folder) claims × IsInside path folder

abbrev of_holder : List ℕ → Holder → Holder → List ℕ → Option Owner
of_holder path except None folder = None
of_holder path except (Some owner) folder = cond (differ (Some owner) except && is_inside path folder) (Some owner) None

abbrev standing : List ℕ → Holder → Claimed → Option Owner
standing path except c = of_holder path except c.0 c.1

first_is_best : (path : List ℕ) (except : Holder) (claims : List Claimed) (b : Option Owner) → first_above path except claims b ≡ best owner_cmp (standing path except) claims b
first_is_best path except [] b = refl
first_is_best path except (c ∷ claims) b =
    ap (λ z. first_above path except claims z) (of_two c.0 c.1) ∙ first_is_best path except claims (better owner_cmp (standing path except c) b)
  where
    of_two : (holder : Holder) (folder : List ℕ) → first_of_two path except holder folder b ≡ better owner_cmp (of_holder path except holder folder) b
    of_two None folder = refl
    of_two (Some owner) folder =
        ap (λ t. cond t (Some owner) b) (and_assoc (is_first_yet owner b) (differ (Some owner) except) (is_inside path folder))
        ∙ chosen owner_cmp owner b (differ (Some owner) except && is_inside path folder) (is_first_yet owner b) refl

-- what is said of the first owner that was found
abbrev FirstSays : List Claimed → List ℕ → Holder → Option Owner → Type 0
FirstSays claims path except None = (owner : Owner) → Stands claims path (Some owner) → Some owner ≢ except → ⊥
FirstSays claims path except (Some first) =
    Stands claims path (Some first) × (Some first ≢ except)
    × ((owner : Owner) → Stands claims path (Some owner) → Some owner ≢ except → owner_cmp owner first ≢ Less)

gives : (path : List ℕ) (except : Holder) (owner : Owner) (folder : List ℕ) → IsInside path folder → Some owner ≢ except → of_holder path except (Some owner) folder ≡ Some owner
gives path except owner folder i two =
    ap (λ v. cond v (Some owner) None) (and_from (differ (Some owner) except) (is_inside path folder) (two_differ (Some owner) except two) (inside_all path folder i))

given : (path : List ℕ) (except holder : Holder) (folder : List ℕ) (first : Owner) → of_holder path except holder folder ≡ Some first → (holder ≡ Some first) × (holder ≢ except) × IsInside path folder
given path except None folder first e = cc e
given path except (Some owner) folder first e = by (differ (Some owner) except && is_inside path folder) refl e
  where
    by : (v : Bool) → (differ (Some owner) except && is_inside path folder) ≡ v → cond v (Some owner) None ≡ Some first → (Some owner ≡ Some first) × (Some owner ≢ except) × IsInside path folder
    by true d g =
        let both = and_parts (differ (Some owner) except) (is_inside path folder) d in
        (g, differ_are_two (Some owner) except both.0, inside_only path folder both.1)
    by false d g = cc g

first_says : (claims : List Claimed) (path : List ℕ) (except : Holder) (found : Option Owner) → IsBest owner_cmp (standing path except) claims None found → FirstSays claims path except found
first_says claims path except None h = λ owner s two.
    let none : Some owner ≡ None = sym (gives path except owner s.0 s.2 two) ∙ h.1 (Some owner, s.0) s.1 in cc none
first_says claims path except (Some first) h = by h.0
  where
    least : (owner : Owner) → Stands claims path (Some owner) → Some owner ≢ except → owner_cmp owner first ≢ Less
    least owner s two = h.1 (Some owner, s.0) owner s.1 (gives path except owner s.0 s.2 two)

    by : (None ≡ Some first) ⊎ ((c : Claimed) × IsIn c claims × (standing path except c ≡ Some first)) → FirstSays claims path except (Some first)
    by (inl e) = cc e
    by (inr g) =
        let r = given path except g.0.0 g.0.1 first g.2 in
        ((g.0.1, subst (λ k. IsIn (k, g.0.1) claims) r.0 g.1, r.2), λ e. r.1 (r.0 ∙ e), least)

first_found : (claims : List Claimed) (path : List ℕ) (except : Holder) → FirstSays claims path except (first_above path except claims None)
first_found claims path except =
    subst (FirstSays claims path except) (sym (first_is_best path except claims None)) (first_says claims path except (best owner_cmp (standing path except) claims None) (best_law owner_total (standing path except) claims None))

-- ---- the conflict

module _ (parts : List Owned) (others : List (List ℕ)) (path : List ℕ) (least : LeastSays (claims_of parts others) (Some path)) where
  abbrev claims : List Claimed
  claims = claims_of parts others

  -- two that stand there conflict there, since none of their conflicts comes before
  conflict_of : (one other : Holder) → one ≢ other → Stands claims path one → Stands claims path other → Conflict parts others path one other ⊎ Conflict parts others path other one
  conflict_of one other two s t = by s.2 t.2
    where
      earlier : (a b : Holder) (f g : List ℕ) → a ≢ b → IsIn (a, f) claims → IsIn (b, g) claims → IsInside f g → (rest : List ℕ) → path ≡ f ++ slash ∷ rest → ⊥
      earlier a b f g apart m n i rest e =
          least.1 a f m (above_to claims a f (b, g) n i (two_differ b a (λ q. apart (sym q)))) (ap (λ p. slice_cmp nat_cmp f p) e ∙ folder_less f rest)

      by : IsInside path s.0 → IsInside path t.0 → Conflict parts others path one other ⊎ Conflict parts others path other one
      by (inl same) i = inl (record {
        two = two;
        has = subst (λ p. Has parts others one p) (sym same) (in_has parts others one s.0 s.1);
        above = (t.0, in_has parts others other t.0 t.1, i);
      })
      by (inr below) (inl same) = inr (record {
        two = λ e. two (sym e);
        has = subst (λ p. Has parts others other p) (sym same) (in_has parts others other t.0 t.1);
        above = (s.0, in_has parts others one s.0 s.1, inr below);
      })
      by (inr below) (inr under) = absurd (nest (nested s.0 below.0 t.0 under.0 (sym below.1 ∙ under.1)))
        where
          nest : IsInside s.0 t.0 ⊎ IsInside t.0 s.0 → ⊥
          nest (inl i) = earlier one other s.0 t.0 two s.1 t.1 i below.0 below.1
          nest (inr i) = earlier other one t.0 s.0 (λ e. two (sym e)) t.1 s.1 i under.0 under.1

  -- two stand there
  two_stand : (one : Holder) × (other : Holder) × (one ≢ other) × Stands claims path one × Stands claims path other
  two_stand =
      let here = least.0 in
      let above = above_from claims here.0 path here.2 in
      (here.0, above.0.0, λ e. differ_are_two above.0.0 here.0 above.3 (sym e), (path, here.1, inl refl), (above.0.1, above.1, above.2))

  stands_of : (one : Holder) → Conflicts parts others path one → Stands claims path one
  stands_of one (other, inl c) = (path, has_in parts others one path c.has, inl refl)
  stands_of one (other, inr c) = (c.above.0, has_in parts others one c.above.0 c.above.1, c.above.2)

  is_least : (later : List ℕ) (one other : Holder) → Conflict parts others later one other → slice_cmp nat_cmp later path ≢ Less
  is_least later one other c = least.1 one later (has_in parts others one later c.has) (conflict_meets parts others later one other c)

  -- by the first and the second owner that stand there
  named : (first second : Option Owner) → FirstSays claims path None first → FirstSays claims path first second → IsFirstConflict parts others path first second
  named None second f g = absurd (nobody two_stand)
    where
      some : (one : Holder) → Stands claims path one → one ≡ None
      some None s = refl
      some (Some owner) s = absurd (f owner s (λ e. cc e))

      nobody : ((one : Holder) × (other : Holder) × (one ≢ other) × Stands claims path one × Stands claims path other) → ⊥
      nobody r = r.2 (some r.0 r.3 ∙ sym (some r.1 r.4))
  named (Some first) None f g = record {
    conflict = conflict_of (Some first) None (λ e. cc e) f.0 (last two_stand);
    order = tt;
    least = is_least;
    first_two = λ one c. by one (stands_of one c);
  }
    where
      is_first : (owner : Owner) → Stands claims path (Some owner) → owner ≡ first
      is_first owner s = pick (same_owner owner first) refl
        where
          pick : (v : Bool) → same_owner owner first ≡ v → owner ≡ first
          pick true e = (same_owner_is owner first).0 e
          pick false e = absurd (g owner s (λ q. let inner : owner ≡ first = cc in true≢false (sym ((same_owner_is owner first).1 inner) ∙ e)))

      by : (one : Holder) → Stands claims path one → (one ≡ Some first) ⊎ (one ≡ None) ⊎ IsBefore None one
      by None s = inr (inl refl)
      by (Some owner) s = inl (ap Some (is_first owner s))

      last : ((one : Holder) × (other : Holder) × (one ≢ other) × Stands claims path one × Stands claims path other) → Stands claims path None
      last (None, other, two, s, t) = s
      last (Some a, None, two, s, t) = t
      last (Some a, Some b, two, s, t) = absurd (two (ap Some (is_first a s ∙ sym (is_first b t))))
  named (Some first) (Some second) f g = record {
    conflict = conflict_of (Some first) (Some second) (λ e. g.1 (sym e)) f.0 g.0;
    order = owner_first first second (f.2 second g.0 (λ e. cc e)) (λ e. g.1 (ap Some (sym e)));
    least = is_least;
    first_two = λ one c. by one (stands_of one c);
  }
    where
      owner_by : (owner : Owner) → Stands claims path (Some owner) → (v : Bool) → same_owner owner first ≡ v → (w : Bool) → same_owner owner second ≡ w → (Some owner ≡ Some first) ⊎ (Some owner ≡ Some second) ⊎ IsBefore (Some second) (Some owner)
      owner_by owner s true e w h = inl (ap Some ((same_owner_is owner first).0 e))
      owner_by owner s false e true h = inr (inl (ap Some ((same_owner_is owner second).0 h)))
      owner_by owner s false e false h =
          let other : Some owner ≢ Some first = λ q. let inner : owner ≡ first = cc in true≢false (sym ((same_owner_is owner first).1 inner) ∙ e) in
          inr (inr (owner_first second owner (g.2 owner s other) (λ q. true≢false (sym ((same_owner_is owner second).1 (sym q)) ∙ h))))

      by : (one : Holder) → Stands claims path one → (one ≡ Some first) ⊎ (one ≡ Some second) ⊎ IsBefore (Some second) one
      by None s = inr (inr tt)
      by (Some owner) s = owner_by owner s (same_owner owner first) refl (same_owner owner second) refl

pub no_conflict : (parts : List Owned) (others : List (List ℕ)) → least_meeting (claims_of parts others) (claims_of parts others) None ≡ None → NoConflict parts others
no_conflict parts others e path one other c =
    let none : LeastSays (claims_of parts others) None = subst (LeastSays (claims_of parts others)) e (least_found (claims_of parts others)) in
    true≢false (sym (conflict_meets parts others path one other c) ∙ none one path (has_in parts others one path c.has))

pub names_first : (parts : List Owned) (others : List (List ℕ)) (path : List ℕ) (err : GoodsErr) → least_meeting (claims_of parts others) (claims_of parts others) None ≡ Some path → NamesFirst (claims_of parts others) path err → NamesFirstConflict parts others err
names_first parts others path Memory e h = tt
names_first parts others path (Clobber at first second) e h =
    let claims : List Claimed = claims_of parts others in
    let least : LeastSays claims (Some path) = subst (LeastSays claims) e (least_found claims) in
    let one : Option Owner = first_above path None claims None in
    let other : Option Owner = first_above path one claims None in
    (one, other, h.1, h.2, subst (λ p. IsFirstConflict parts others p one other) (sym h.0) (named parts others path least one other (first_found claims path None) (first_found claims path one)))
