-- The changes that moves are, in the order of their paths.
use Rattle.std.proofs.Common.{◌≡◌, ℕ, List, [], ◌∷◌, ◌++◌, map, Bor, append-nil, append_assoc, refl, ap, sym, subst, ◌∙◌}
use Rattle.std.proofs.lemmas.List.{map-append}
use Rattle.std.specs.BTreeMap.{IsOrdered, values}
use Rattle.std.specs.Cmp.Lexicographic.{slice_cmp}
use Rattle.std.specs.List.{AllByRecursion}
use Rattle.std.specs.List.Sorted.{IsStrictlySortedBy}
use Rattle.std.specs.Map.{keys_of, values_of}
use Rattle.std.specs.Ordering.{nat_cmp}
use Rattle.conda_base.specs.Texts.{Ascending}
use Rattle.conda_lane.specs.declared.change.Change.{Change}
use Rattle.conda_changes.specs.Moves.{AreByPath, AreChangesOf, Moves, Said, paths_of, said_by_change, said_by_move}
use Rattle.conda_changes.specs.declared.moves.Move.{Move}

same_paths : (changes : List Change) (moves : List Move) → map said_by_change changes ≡ map said_by_move moves → paths_of changes ≡ map (λ one. one.path.now) moves
same_paths [] [] same = refl
same_paths [] (one ∷ moves) same = cc
same_paths (change ∷ changes) [] same = cc
same_paths (change ∷ changes) (one ∷ moves) same =
    let first : said_by_change change ≡ said_by_move one = cc in
    let rest : map said_by_change changes ≡ map said_by_move moves = cc in
    let tail = same_paths changes moves rest in
    let path : change.path ≡ one.path.now = ap (λ said. said.0) first in
    ap (λ p. p ∷ paths_of changes) path ∙ ap (λ ps. one.path.now ∷ ps) tail

ascend : (entries : List (Bor (List ℕ) × Move)) → AllByRecursion (λ entry. entry.0.now ≡ entry.1.path.now) entries
    → IsStrictlySortedBy (λ x y. slice_cmp nat_cmp x.now y.now) (keys_of entries) → Ascending (map (λ one. one.path.now) (values_of entries))
unfolding IsStrictlySortedBy
ascend [] own up = tt
ascend (e ∷ []) own up = (tt, tt)
ascend (e ∷ f ∷ rest) own up =
    (ap (λ p. slice_cmp nat_cmp p f.1.path.now) (sym own.0) ∙ ap (slice_cmp nat_cmp e.0.now) (sym own.1.0) ∙ up.0.0, ascend (f ∷ rest) own.1 up.1)

-- the changes of moves that stand by path ascend
pub changes_ascend : (moves : Moves) (changes : List Change) → IsOrdered (λ x y. slice_cmp nat_cmp x.now y.now) moves → AreByPath moves → AreChangesOf moves changes
    → Ascending (paths_of changes)
changes_ascend moves changes up own are = subst Ascending (sym (same_paths changes (values moves) are)) (ascend moves.entries own up)

-- one more change, which the next move is
pub one_said : (before : List Change) (change : Change) (one : Move) (rest : List Move) → said_by_change change ≡ said_by_move one
    → map said_by_change (before ++ change ∷ []) ++ map said_by_move rest ≡ map said_by_change before ++ map said_by_move (one ∷ rest)
one_said before change one rest same =
    ap (λ said. said ++ map said_by_move rest) (map-append said_by_change before (change ∷ []))
    ∙ append_assoc (map said_by_change before) (said_by_change change ∷ []) (map said_by_move rest)
    ∙ ap (λ said. map said_by_change before ++ said ∷ map said_by_move rest) same

-- no move is left
pub all_said : (changes : List Change) (left : List Move) (all : List Said) → left ≡ [] → map said_by_change changes ++ map said_by_move left ≡ all
    → map said_by_change changes ≡ all
all_said changes left all none is = sym (append-nil (map said_by_change changes)) ∙ ap (λ moves. map said_by_change changes ++ map said_by_move moves) (sym none) ∙ is
