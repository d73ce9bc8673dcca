use Rattle.std.proofs.Common.{◌≡◌, ℕ, ◌+◌, List, ◌++◌, take, drop, Some, ap, sym, ◌∙◌, drop-drop}
use Rattle.std.proofs.lemmas.List.{take-append-drop}
use Rattle.conda_dev.proofs.streams.MemInIn.take.Goals as goal

-- what is left is what is taken, and what is left afterwards
taken_first : (a n : ℕ) (xs : List ℕ) → drop a xs ≡ take n (drop a xs) ++ drop (a + n) xs
taken_first a n xs =
    sym (take-append-drop n (drop a xs)) ∙ ap (λ rest. take n (drop a xs) ++ rest) (drop-drop n a xs)

pub returns-clause-first : goal.returns-clause-first
returns-clause-first c =
    let split = taken_first c.args.self.now.at c.min-count.result c.args.self.now.bytes.items in
    let taken = c.in_ok-taken.ensures.items in
    cc

pub returns-then-eq-2-clause-err : goal.returns-then-eq-2-clause-err
returns-then-eq-2-clause-err c =
    (_, ap Some (taken_first c.args.self.now.at c.min-count.result c.args.self.now.bytes.items))
