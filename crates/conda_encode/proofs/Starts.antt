-- The variable of the first record of each pool.
use Rattle.std.proofs.Common.{◌≡◌, ℕ, zero, suc, ◌+◌, ◌<◌, List, [], ◌∷◌, ◌++◌, length, take, get_or, refl, ap, ◌∙◌, arith}
use Rattle.std.proofs.lemmas.List.{length-append}
use Rattle.conda_record.specs.declared.pool.NamePool.{NamePool}
use Rattle.conda_encode.specs.Known.{starts_of}
use Rattle.conda_encode.specs.Variables.{records}

pub length-starts : (n : ℕ) (pools : List NamePool) → length (starts_of n pools) ≡ length pools
length-starts n [] = refl
length-starts n (pool ∷ rest) = ap suc (length-starts (n + length pool.recs) rest)

pub start_at : (n : ℕ) (pools : List NamePool) (at d : ℕ) → at < length pools → get_or (starts_of n pools) at d ≡ n + length (records (take at pools))
start_at n [] at d lt = absurd (omega arith)
start_at n (pool ∷ rest) zero d lt = omega arith
start_at n (pool ∷ rest) (suc at) d lt =
    let e : n + length pool.recs + length (records (take at rest)) ≡ n + length (pool.recs ++ records (take at rest)) = omega (arith, length-append pool.recs (records (take at rest))) in
    start_at (n + length pool.recs) rest at d (omega arith) ∙ e
