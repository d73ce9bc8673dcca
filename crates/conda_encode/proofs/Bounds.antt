-- The numbers of variables fit.
use Rattle.std.proofs.Common.{◌≡◌, ℕ, zero, suc, ◌+◌, ◌-◌, ◌≤◌, ◌<◌, ◌^◌, List, [], ◌∷◌, length, take, get_or, refl, ap, ◌∙◌, arith}
use Rattle.std.proofs.lemmas.List.{length-append}
use Rattle.std.proofs.lemmas.List.Folds.{length-flat_map-take}
use Rattle.std.proofs.lemmas.List.Sums.{sum_by-cons}
use Rattle.std.specs.List.{sum_by}
use Rattle.conda_record.specs.declared.pkg_record.PkgRecord.{PkgRecord}
use Rattle.conda_record.specs.declared.pool.NamePool.{NamePool}
use Rattle.conda_encode.specs.Variables.{helpers_of, records}

pub helpers_le : (pools : List NamePool) → sum_by helpers_of pools ≤ length (records pools)
helpers_le [] = let e : sum_by helpers_of [] ≡ 0 = refl in omega arith
helpers_le (pool ∷ rest) =
    let e : sum_by helpers_of (pool ∷ rest) ≡ length pool.recs - 1 + sum_by helpers_of rest = sum_by-cons helpers_of pool rest in
    let f : length (records (pool ∷ rest)) ≡ length pool.recs + length (records rest) = length-append pool.recs (records rest) in
    omega (arith, helpers_le rest, length-append pool.recs (records rest))

pub record PoolFits (number helper count : ℕ) : Type 0 where
  pub number_fits : number + count < 2 ^ 29
  pub helper_fits : helper + count < 2 ^ 30

pub pool_fits : (pools : List NamePool) (i : ℕ) (pool : NamePool) (recs : List PkgRecord) (first number helper : ℕ) → length (records pools) < 2 ^ 28 → first ≡ length (records pools) + 1 →
    i < length pools → pool ≡ get_or pools i pool → recs ≡ pool.recs → number ≡ 1 + length (records (take i pools)) → helper ≡ first + sum_by helpers_of (take i pools) → PoolFits number helper (length recs)
pool_fits pools i pool recs first number helper few f lt is same n h =
    let a = length-flat_map-take (λ (p : NamePool). p.recs) pools i pool lt in
    let b : length recs ≡ length (get_or pools i pool).recs = ap length same ∙ ap (λ (p : NamePool). length p.recs) is in
    let c = helpers_le (take i pools) in
    record { number_fits = omega (arith, few, f, a, b, n); helper_fits = omega (arith, few, f, a, b, c, h) }

pub pick : {A : Type 0} (xs : List A) (i : ℕ) → i < length xs → (x : A) × (get_or xs i x ≡ x)
pick [] i lt = absurd (omega arith)
pick (x ∷ xs) zero lt = (x, refl)
pick {A} (x ∷ xs) (suc i) lt = pick xs i (omega arith)
