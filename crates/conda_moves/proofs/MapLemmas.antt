-- The moves of a map after one more.
use Rattle.std.proofs.Common.{◌≡◌, ℕ, Bool, true, false, cond, List, get_or, Bor, Ordering, refl, sym, subst, ◌∙◌}
use Rattle.std.proofs.lemmas.Bool.{true≢false}
use Rattle.std.proofs.lemmas.Cmp.{nat_list_cmp_total}
use Rattle.std.proofs.lemmas.List.Elements.{recursion_from_All}
use Rattle.std.proofs.lemmas.Map.Text.{btree_map_updates_str}
use Rattle.std.proofs.lemmas.Map.Views.{All-found}
use Rattle.std.specs.BTreeMap.{IsOrdered, Updates}
use Rattle.std.specs.Cmp.{IsTotalOrder}
use Rattle.std.specs.Cmp.Lexicographic.{slice_cmp}
use Rattle.std.specs.Ordering.{nat_cmp}
use Rattle.std.specs.Prelude.{MatchOption, Option, None, Some}
use Rattle.conda_base.specs.Texts.{is_text}
use Rattle.conda_changes.specs.Moves.{AreByPath, Moves, move_at}
use Rattle.conda_changes.specs.declared.moves.Move.{Move}
use Rattle.conda_moves.proofs.PathLemmas.{same_text, text_itself}

abbrev pub by_text : Bor (List ℕ) → Bor (List ℕ) → Ordering
by_text x y = slice_cmp nat_cmp x.now y.now

by_text_total : IsTotalOrder by_text
by_text_total = record {
  antisymm = λ x y. nat_list_cmp_total.antisymm x.now y.now;
  trans = λ x y z. nat_list_cmp_total.trans x.now y.now z.now;
  congr = λ x y z. nat_list_cmp_total.congr x.now y.now z.now;
}

-- What is so of the move of each path is so after one more was put in, where it is so of that one, and of the others at other paths.
pub one_put : (S T : List ℕ → Type 0) (M N : List ℕ → Move → Type 0) (old new : Moves) (key : Bor (List ℕ)) (one : Move)
    → Updates by_text old new key (Some one)
    → ((path : List ℕ) → MatchOption (move_at old path) (S path) (M path)) → N key.now one
    → ((path : List ℕ) → ¬ (key.now ≡ path) → S path → T path)
    → ((path : List ℕ) (m : Move) → ¬ (key.now ≡ path) → M path m → N path m) → (path : List ℕ)
    → MatchOption (move_at new path) (T path) (N path)
one_put S T M N old new key one updates are here still moved path =
    subst (λ o. MatchOption o (T path) (N path)) (sym (btree_map_updates_str key.now old new (Some one) updates path))
    (by (is_text key.now path) refl)
  where
    other : (o : Option Move) → ¬ (key.now ≡ path) → MatchOption o (S path) (M path) → MatchOption o (T path) (N path)
    other None apart is = still path apart is
    other (Some m) apart is = moved path m apart is

    by : (b : Bool) → is_text key.now path ≡ b → MatchOption (cond b (Some one) (move_at old path)) (T path) (N path)
    by true e = subst (λ p. N p one) (same_text key.now path e) here
    by false e = other (move_at old path) (λ same. true≢false (sym (text_itself key.now path same) ∙ e)) (are path)

-- where each move is its own path's, each stands at its own path
pub by_path : (S : List ℕ → Type 0) (M : List ℕ → Move → Type 0) (moves : Moves) → IsOrdered by_text moves
    → ((path : List ℕ) → MatchOption (move_at moves path) (S path) (M path))
    → ((path : List ℕ) (one : Move) → M path one → one.path.now ≡ path) → AreByPath moves
by_path S M moves up are own =
    recursion_from_All (λ entry. entry.0.now ≡ entry.1.path.now) moves.entries
    (λ k d low. let entry = get_or moves.entries k d in
    sym (own entry.0.now entry.1 (subst (λ o. MatchOption o (S entry.0.now) (M entry.0.now)) (All-found by_text_total moves up k d low)
    (are entry.0.now))))
