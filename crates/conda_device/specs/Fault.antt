-- When a device may answer a failure, and what the failure leaves. This project's own.
use Rattle.std.specs.Prelude.{◌≡◌, ℕ, ◌+◌, ◌-◌, ◌^◌, ◌≤◌, ◌⊎◌, min, Result, OnErr, IsErrOf}
use Rattle.conda_device.specs.declared.fault.DeviceErr.{DeviceErr}

-- the count of faults is greater than before, or stands at the last value of its type
abbrev pub Rose : ℕ → ℕ → Type 0
Rose before now = min (before + 1) (2 ^ 64 - 1) ≤ now

-- the count never falls, and a call that failed raised it
pub record HasCause {T E : Type 0} (before now : ℕ) (result : Result T E) : Type 0 where
  pub later : before ≤ now
  pub failed : OnErr result (Rose before now)

-- the same of a call that may lack memory besides, which raises no count
pub record HasDeviceCause {T : Type 0} (before now : ℕ) (result : Result T DeviceErr) : Type 0 where
  pub later : before ≤ now
  pub failed : IsErrOf result DeviceErr.Failed → Rose before now
  pub memory : IsErrOf result DeviceErr.Memory → now ≡ before

-- a call that failed left all as it was, or as it was asked to make it
abbrev pub BeforeOrAsked : {A : Type 0} → A → A → A → Type 0
BeforeOrAsked before asked now = (now ≡ before) ⊎ (now ≡ asked)
