-- What lanes have together, and what is left of it when they are lent anew.
use Rattle.std.proofs.Common.{◌≡◌, ◌==◌, ℕ, ◌+◌, ◌<◌, ◌≤◌, List, [], ◌∷◌, ◌++◌, map, Bool, true, false, cond, Option, Some, None, nat_lt, ◌||◌, option_map, eq-eqb, refl, ap, sym, ◌∙◌, arith}
use Rattle.std.specs.Ordering.{nat_cmp, eq_by_cmp}
use Rattle.std.proofs.lemmas.Bool.Decides.{nat_tests}
use Rattle.std.specs.Cmp.Lexicographic.{slice_cmp, nat_list_cmp_total}
use Rattle.std.specs.FinMap as trees
use Rattle.std.proofs.lemmas.List.{map-append}
use Rattle.std.proofs.lemmas.Map.Lookups.{exact_bytes}
use Rattle.conda_path.specs.declared.values.Node.{Node}
use Rattle.conda_path.specs.Lanes.{lane_number}
use Rattle.conda_dev.specs.declared.mem_lane.MemLane.{MemLane}
use Rattle.conda_device.specs.Tree.{Tree, joined, together}
use Rattle.conda_dev.specs.Shares.{first_of, in_share}
use Rattle.conda_device.specs.Lanes.{AreNew, LinesUp, no_lanes, one_more_lane, all_lanes}
use Rattle.conda_dev.specs.Memory.{faults_of, node_at, share_of, told_of, trees_of}

first_none : (found : Option Node) → first_of found None ≡ found
first_none None = refl
first_none (Some node) = refl

first_again : (a b c : Option Node) → first_of (first_of a b) c ≡ first_of a (first_of b c)
first_again None b c = refl
first_again (Some node) b c = refl

shared_first : (number lanes : ℕ) (q : List ℕ) (here later : Option Node) → first_of (in_share number lanes q here) (in_share number lanes q later) ≡ in_share number lanes q (first_of here later)
shared_first number lanes q here later =
    elim (lane_number q lanes == number) as (λ b. first_of (cond b here None) (cond b later None) ≡ cond b (first_of here later) None) [ true ↦ refl | false ↦ refl ]

-- one more lane is gathered
pub gather_step : (number lanes : ℕ) (q : List ℕ) (found here later now : Option Node) → now ≡ first_of found (in_share number lanes q here)
    → first_of now (in_share number lanes q later) ≡ first_of found (in_share number lanes q (first_of here later))
gather_step number lanes q found here later now is =
    ap (λ o. first_of o (in_share number lanes q later)) is ∙ first_again found (in_share number lanes q here) (in_share number lanes q later)
    ∙ ap (first_of found) (shared_first number lanes q here later)

node_at-append : (ts us : List Tree) (q : List ℕ) → node_at (ts ++ us) q ≡ first_of (node_at ts q) (node_at us q)
node_at-append [] us q = refl
node_at-append (t ∷ ts) us q = ap (first_of (trees.get t q)) (node_at-append ts us q) ∙ sym (first_again (trees.get t q) (node_at ts q) (node_at us q))

-- what stands at a path, where its lane is below this number
abbrev pub below : ℕ → ℕ → List ℕ → Option Node → Option Node
below number lanes q found = cond (nat_lt (lane_number q lanes) number) found None

either : (a b : Bool) (found : Option Node) → first_of (cond a found None) (first_of (cond b found None) None) ≡ cond (a || b) found None
either true true None = refl
either true true (Some node) = refl
either true false None = refl
either true false (Some node) = refl
either false true None = refl
either false true (Some node) = refl
either false false found = refl

lt_next : (l i : ℕ) → (nat_lt l i || (l == i)) ≡ nat_lt l (i + 1)
lt_next l i = grind (arith, nat_tests)

below_next : (l i : ℕ) (found : Option Node) → first_of (cond (nat_lt l i) found None) (first_of (cond (l == i) found None) None) ≡ cond (nat_lt l (i + 1)) found None
below_next l i found = either (nat_lt l i) (l == i) found ∙ ap (λ b. cond b found None) (lt_next l i)

none_below : (l : ℕ) → nat_lt l 0 ≡ false
none_below l = grind (arith, nat_tests)

all_below : (l n : ℕ) → l < n → nat_lt l n ≡ true
all_below l n h = grind (arith, nat_tests)

-- ---- lanes that are lent one after another

abbrev pub IsLinedUp : ℕ → ℕ → List MemLane → Type 0
IsLinedUp = LinesUp share_of faults_of

pub record SoFar (number lanes : ℕ) (from made : List MemLane) : Type 0 where
  pub lined : IsLinedUp number lanes made
  pub nodes : (q : List ℕ) → node_at (trees_of made) q ≡ below number lanes q (node_at (trees_of from) q)

pub begins : (lanes : ℕ) (from : List MemLane) → SoFar 0 lanes from []
begins lanes from = record {
  lined = no_lanes share_of faults_of lanes;
  nodes = λ q. sym (ap (λ b. cond b (node_at (trees_of from) q) None) (none_below (lane_number q lanes)));
}

pub goes_on : (number lanes : ℕ) (from made : List MemLane) (lane : MemLane) → SoFar number lanes from made
    → lane.number ≡ number → lane.lanes ≡ lanes → lane.meter.faults.count ≡ 0
    → ((q : List ℕ) → trees.get lane.tree q ≡ in_share number lanes q (node_at (trees_of from) q))
    → SoFar (number + 1) lanes from (made ++ lane ∷ [])
goes_on number lanes from made lane far its_number its_lanes its_faults its_nodes = record {
  lined = one_more_lane share_of faults_of number lanes made lane far.lined its_number its_lanes its_faults;
  nodes = λ q.
      ap (λ ts. node_at ts q) (map-append (λ (l : MemLane). l.tree) made (lane ∷ [])) ∙ node_at-append (trees_of made) (lane.tree ∷ []) q
      ∙ ap (λ o. first_of o (first_of (trees.get lane.tree q) None)) (far.nodes q)
      ∙ ap (λ o. first_of (below number lanes q (node_at (trees_of from) q)) (first_of o None)) (its_nodes q)
      ∙ below_next (lane_number q lanes) number (node_at (trees_of from) q);
}

-- ---- several trees told together

pub record Whole (all : List Tree) : Type 0 where
  pub tree : Tree
  pub told : together (map Some all) ≡ Some tree
  pub nodes : (q : List ℕ) → trees.get tree q ≡ node_at all q

find_append : (es fs : List (List ℕ × Node)) (q : List ℕ) → trees.find (slice_cmp nat_cmp) q (es ++ fs) ≡ first_of (trees.find (slice_cmp nat_cmp) q es) (trees.find (slice_cmp nat_cmp) q fs)
find_append [] fs q = refl
find_append (e ∷ es) fs q =
    elim (eq_by_cmp (slice_cmp nat_cmp) q e.0) as (λ b. cond b (Some e.1) (trees.find (slice_cmp nat_cmp) q (es ++ fs)) ≡ first_of (cond b (Some e.1) (trees.find (slice_cmp nat_cmp) q es)) (trees.find (slice_cmp nat_cmp) q fs)) [
      | true ↦ refl
      | false ↦ find_append es fs q
    ]

pub get_joined : (a b : Tree) (q : List ℕ) → trees.get (joined a b) q ≡ first_of (trees.get a q) (trees.get b q)
get_joined a b q =
    trees.get-from_entries nat_list_cmp_total (trees.entries a ++ trees.entries b) q ∙ find_append (trees.entries a) (trees.entries b) q
    ∙ ap (λ o. first_of o (trees.find (slice_cmp nat_cmp) q (trees.entries b))) (sym (trees.get-entries a q)) ∙ ap (first_of (trees.get a q)) (sym (trees.get-entries b q))

pub whole : (all : List Tree) → Whole all
whole [] = record { tree = trees.empty; told = refl; nodes = λ q. trees.get-empty (slice_cmp nat_cmp) q }
whole (t ∷ []) = record { tree = t; told = refl; nodes = λ q. sym (first_none (trees.get t q)) }
whole (t ∷ u ∷ ts) =
    let rest = whole (u ∷ ts) in
    record {
      tree = joined t rest.tree;
      told = ap (option_map (λ second. joined t second)) rest.told;
      nodes = λ q. get_joined t rest.tree q ∙ ap (first_of (trees.get t q)) (rest.nodes q);
    }

pub same_together : (all others : List Tree) → ((q : List ℕ) → node_at all q ≡ node_at others q) → together (map Some all) ≡ together (map Some others)
same_together all others same =
    (whole all).told ∙ ap Some (trees.same_map nat_list_cmp_total exact_bytes (whole all).tree (whole others).tree (λ q. (whole all).nodes q ∙ same q ∙ sym ((whole others).nodes q))) ∙ sym (whole others).told

told_of-trees : (lanes : List MemLane) → told_of lanes ≡ map Some (trees_of lanes)
told_of-trees [] = refl
told_of-trees (lane ∷ lanes) = ap (λ rest. Some lane.tree ∷ rest) (told_of-trees lanes)

pub ended : (lanes : ℕ) (from made : List MemLane) → 1 ≤ lanes → SoFar lanes lanes from made
    → AreNew share_of faults_of lanes made × (together (told_of made) ≡ together (told_of from))
ended lanes from made some far =
    let inside = λ (q : List ℕ). ap (λ b. cond b (node_at (trees_of from) q) None) (all_below (lane_number q lanes) lanes (omega arith)) in (
      all_lanes share_of faults_of lanes made far.lined,
      ap together (told_of-trees made) ∙ same_together (trees_of made) (trees_of from) (λ q. far.nodes q ∙ inside q) ∙ ap together (sym (told_of-trees from)),
    )

in_one : (q : List ℕ) (found : Option Node) → in_share 0 1 q found ≡ found
in_one q found = let zeroth : lane_number q 1 ≡ 0 = omega arith in ap (λ b. cond b found None) (eq-eqb _ _ zeroth)

-- all of the nodes are gathered
pub gathered_all : (lanes : List MemLane) (made : Tree) → ((q : List ℕ) → trees.get made q ≡ in_share 0 1 q (node_at (trees_of lanes) q)) → together (told_of lanes) ≡ Some made
gathered_all lanes made nodes =
    ap together (told_of-trees lanes) ∙ (whole (trees_of lanes)).told
    ∙ ap Some (trees.same_map nat_list_cmp_total exact_bytes (whole (trees_of lanes)).tree made (λ q. (whole (trees_of lanes)).nodes q ∙ sym (nodes q ∙ in_one q (node_at (trees_of lanes) q))))
