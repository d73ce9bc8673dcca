-- Dists among others, and what a revision and its block say together.
use Rattle.std.specs.Prelude.{◌≡◌, ◌↔◌, ℕ, ◌+◌, ◌-◌, ◌<◌, ◌≤◌, Bool, true, false, ◌||◌, List, [], ◌∷◌, length, filter, Ok, Err, Result}
use Rattle.std.proofs.Common.{Ordering, refl, ap, sym, ◌∙◌, ⊎_elim, drop, take, get_or, suc, zero, arith}
use Rattle.std.proofs.lemmas.Bool.{cases_lt}
use Rattle.std.proofs.lemmas.List.{drop_more, take_rest}
use Rattle.std.proofs.lemmas.List.Elements.{recursion_from_All}
use Rattle.std.proofs.lemmas.List.Sorted.{searchable_from_sorted}
use Rattle.std.proofs.lemmas.Slice.Eq.{bytes_eq-Decides}
use Rattle.std.specs.declared.cmp.Ordering.TheVariants.{Less, Equal, Greater}
use Rattle.std.specs.Bool.{IsTrue}
use Rattle.std.specs.Cmp.Lexicographic.{nat_list_cmp_total, slice_cmp, texts_ties}
use Rattle.std.specs.List.{AllByRecursion}
use Rattle.std.specs.List.Sorted.{IsBinarySearchResult, IsSearchInRange, IsSortedBy}
use Rattle.std.specs.Ordering.{is_eq, is_lt, nat_cmp, ordering_reverse}
use Rattle.std.specs.Result.{is_ok}
use Rattle.conda_base.proofs.AscendingLemmas.{ascending_law}
use Rattle.conda_base.specs.Texts.{Ascending, is_text}
use Rattle.conda_history.specs.Sets.{holds}
use Rattle.conda_history.specs.declared.revision.Block.{Block}
use Rattle.conda_meta.specs.Agreement.{Agrees, joining, joins}
use Rattle.conda_meta.specs.Reading.{dists_of}
use Rattle.conda_meta.specs.declared.linked.Linked.{Linked}
use Rattle.conda_meta.specs.declared.revision.Revision.{Revision}

-- a list that begins with the dist
pub begins : (dists : List (List ℕ)) (first dist : List ℕ) → 0 < length dists → first ≡ get_or dists 0 first → is_text first dist ≡ true
    → dists ≡ dist ∷ take (length dists - 1) (drop 1 dists)
begins dists first dist some is same =
    drop_more dists 0 first some ∙ ap (λ d. d ∷ drop 1 dists) (sym is ∙ (bytes_eq-Decides first dist).0 same) ∙ ap (λ ds. dist ∷ ds) (sym (take_rest dists 1))

-- ---- a search in a list in order

sorted : (dists : List (List ℕ)) → Ascending dists → IsSortedBy (λ x y. is_lt (slice_cmp nat_cmp x y)) dists
sorted dists a = λ k d low high.
    ap is_lt (nat_list_cmp_total.antisymm (get_or dists (k + 1) d) (get_or dists k d) ∙ ap ordering_reverse ((ascending_law dists).0 a k (k + 1) d (omega arith) high))

held_at : (dists : List (List ℕ)) (dist : List ℕ) (i : ℕ) → i < length dists → is_text dist (get_or dists i dist) ≡ true → holds dists dist ≡ true
held_at [] dist i short e = absurd (omega (arith, short))
held_at (d ∷ dists) dist zero short e = ap (λ b. b || holds dists dist) e
held_at (d ∷ dists) dist (suc i) short e = by (is_text dist d) (held_at dists dist i (omega (arith, short)) e)
  where
    by : (b : Bool) → holds dists dist ≡ true → (b || holds dists dist) ≡ true
    by true h = refl
    by false h = h

held_nowhere : (dists : List (List ℕ)) (dist : List ℕ) → AllByRecursion (λ d. is_text dist d ≡ false) dists → holds dists dist ≡ false
held_nowhere [] dist h = refl
held_nowhere (d ∷ dists) dist h = ap (λ b. b || holds dists dist) h.0 ∙ held_nowhere dists dist h.1

is_text_of : (x y : List ℕ) (o : Ordering) → slice_cmp nat_cmp x y ≡ o → is_text y x ≡ is_eq o
is_text_of x y o e = texts_ties y x ∙ ap is_eq (nat_list_cmp_total.antisymm y x ∙ ap ordering_reverse e) ∙ by o
  where
    by : (p : Ordering) → is_eq (ordering_reverse p) ≡ is_eq p
    by Less = refl
    by Equal = refl
    by Greater = refl

pub found_is : (dists : List (List ℕ)) (dist : List ℕ) (found : Result ℕ ℕ) → Ascending dists → IsSearchInRange found (length dists)
    → IsBinarySearchResult (λ d. slice_cmp nat_cmp d dist) dists found → is_ok found ≡ holds dists dist
found_is dists dist (Ok i) a short at = sym (held_at dists dist i short (is_text_of (get_or dists i dist) dist Equal (at dist)))
found_is dists dist (Err i) a short at =
    let point = at (searchable_from_sorted nat_list_cmp_total (λ (d : List ℕ). d) dists dist (sorted dists a)) in
    sym (held_nowhere dists dist (recursion_from_All (λ d. is_text dist d ≡ false) dists
    (λ k d lt. ⊎_elim
    (λ (low : k < i). is_text_of (get_or dists k d) dist Less (point.0 k d (omega arith) low))
    (λ (high : i ≤ k). is_text_of (get_or dists k d) dist Greater (point.1 k d high lt))
    (cases_lt k i))))

-- ---- the block

pub agrees_as : (set : List (List ℕ)) (block : Block) (revision : Revision) (removed unlinked added : List (List ℕ)) (linked : List Linked) (answer : Bool)
    → removed ≡ block.removed → unlinked ≡ revision.unlinked → added ≡ block.added → linked ≡ revision.linked → block.whole ≡ false → removed ≡ unlinked
    → (IsTrue answer ↔ (added ≡ filter (joins (holds set) unlinked) (dists_of linked))) → IsTrue answer ↔ Agrees set block revision
agrees_as set block revision removed unlinked added linked answer r u a l signed same says =
    let all : filter (joins (holds set) unlinked) (dists_of linked) ≡ joining (holds set) revision =
    ap (λ us. filter (joins (holds set) us) (dists_of linked)) u ∙ ap (λ ls. filter (joins (holds set) revision.unlinked) (dists_of ls)) l in
    (λ h. record { signed = signed; removed = sym r ∙ same ∙ u; added = sym a ∙ says.0 h ∙ all }, λ agrees. says.1 (a ∙ agrees.added ∙ sym all))
