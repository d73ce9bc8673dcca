-- Numbers that are the same but for whole strides, and the lanes of numbers.
use Rattle.std.proofs.Common.{◌≡◌, ℕ, ◌+◌, ◌%◌, ◌<◌, ◌≤◌, arith}
use Rattle.std.proofs.Math.Nat.{add-mod_right}
use Rattle.conda_changes.specs.Counting.{IsAlike}
use Rattle.conda_changes.specs.Trash.{stride}

-- one stride further a number is alike
pub stride_alike : (k : ℕ) → IsAlike (k + stride) k
stride_alike k = add-mod_right k stride

-- alike numbers less than a stride apart are one
pub near_alike : (j k : ℕ) → IsAlike j k → k ≤ j → j < k + stride → j ≡ k
near_alike j k alike low high = omega arith

-- a rest leaves itself
pub own_rest : (rest : ℕ) → rest < stride → rest % stride ≡ rest
own_rest rest low = omega arith
