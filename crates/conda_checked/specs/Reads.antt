-- Why a checked read has no answer, and what it read. This project's own.
use Rattle.std.specs.Prelude.{◌≡◌, ℕ, ◌+◌, ◌-◌, ◌^◌, ◌≤◌, List, min, Option, Some, Result, IsErrOf}
use Rattle.conda_path.specs.declared.slot.SlotKey.{SlotKey}
use Rattle.conda_path.specs.declared.values.Digest.{Digest}
use Rattle.conda_device.specs.Fault.{Rose}
use Rattle.conda_device.specs.Stores.{StoreState, digest_of, with_got}
use Rattle.conda_device.specs.declared.fault.DeviceErr.{DeviceErr}
use Rattle.conda_device.specs.declared.fault.DeviceErr.TheVariants as devices
use Rattle.conda_device.specs.declared.touched.Got.{Got}
use Rattle.conda_paths.specs.Listings.{IsListedFile}
use Rattle.conda_checked.specs.declared.error.CheckErr.{CheckErr}
use Rattle.conda_checked.specs.declared.error.CheckErr.TheVariants.{Failed, Absent, Mismatch, Memory}

-- what a fault of a device comes to
abbrev pub check_err : DeviceErr → CheckErr
check_err devices.Failed = CheckErr.Failed
check_err devices.Memory = CheckErr.Memory

-- the handle's count of faults never falls, a read that failed raised it, and want of memory raises none
pub record HasCheckCause {A : Type 0} (before now : ℕ) (result : Result A CheckErr) : Type 0 where
  pub later : before ≤ now
  pub failed : IsErrOf result CheckErr.Failed → Rose before now
  pub memory : IsErrOf result CheckErr.Memory → now ≡ before

-- a read without a size and a digest finds no file that differs
abbrev pub IsNoMismatch : CheckErr → Type 0
IsNoMismatch (Mismatch want found) = ⊥
IsNoMismatch error = Unit {0}

-- what holds of the digest that was wanted and the one that was found, where the file differs
abbrev pub IfMismatch : CheckErr → (Digest → Digest → Type 0) → Type 0
IfMismatch (Mismatch want found) P = P want found
IfMismatch error P = Unit {0}

-- the error is one of the file: it is absent, or it differs
abbrev pub IsOfFile : CheckErr → Type 0
IsOfFile Absent = Unit {0}
IsOfFile (Mismatch want found) = Unit {0}
IsOfFile error = ⊥

-- where the device failed or there was no memory
abbrev pub IfUnread : CheckErr → Type 0 → Type 0
IfUnread Failed P = P
IfUnread Memory P = P
IfUnread error P = Unit {0}

-- So many bytes are read of a file of this size: one more, which shows that a file is longer; as many at the last value of the size's type.
abbrev pub read_limit : ℕ → ℕ
read_limit size = min (size + 1) (2 ^ 64 - 1)

-- These bytes came. They aren't those of a file of this size and digest; the digest that was wanted is this one, and the one found is theirs.
pub record Differs (came : List ℕ) (size : ℕ) (digest want found : Digest) : Type 0 where
  pub differ : ¬ IsListedFile came size digest
  pub wanted : want ≡ digest
  pub theirs : found ≡ digest_of came

-- the read of this file, which found nothing, or bytes of this size and digest
abbrev pub check_of : SlotKey → List ℕ → ℕ → Option (ℕ × Digest) → Got
check_of key path size found = record { key = key; path = path; max = read_limit size; found = found }

-- The store's last read is one of this file, of so many bytes of the digest found, which hasn't both the size and the digest that were asked for.
pub record GotOther (key : SlotKey) (path : List ℕ) (size : ℕ) (digest found : Digest) (before now : Option StoreState) : Type 0 where
  pub count : ℕ
  pub got : now ≡ with_got before (check_of key path size (Some (count, found)))
  pub other : ¬ ((count ≡ size) × (found ≡ digest))
