-- What a host tells after channels were read, one after another.
use Rattle.std.proofs.Common.{◌≡◌, ◌≤◌, ◌<◌, ℕ, ◌+◌, ◌-◌, ◌^◌, Bool, true, false, refl, subst, sym, ◌∙◌, arith}
use Rattle.std.specs.Prelude.{Result, min, nat_le}
use Rattle.std.proofs.lemmas.Bool.{leb-false, leb-true}
use Rattle.std.proofs.Math.Nat.{le-min, min-le_left, min-le_right}
use Rattle.conda_device.specs.Fault.{Rose}
use Rattle.conda_device.specs.Hosts.{HostState}
use Rattle.conda_sources.specs.Sources.{HasSourceCause, OnlyReads}
use Rattle.conda_sources.specs.declared.error.SourceErr.{SourceErr}

-- ---- counts up to a last value

-- no more than a count, nor than the last value
within : (last a b c : ℕ) → a ≤ b → a ≤ last → min b last ≤ c → a ≤ c
within last a b c first small behind = let both : a ≤ min b last = le-min first small in omega (arith, both, behind)

later_both : (last a b c : ℕ) → min a last ≤ b → min b last ≤ c → min a last ≤ c
later_both last a b c first behind = within last (min a last) b c first (min-le_right a last) behind

-- one more than a count that was lower, or the last value
rose_later : (last a b c : ℕ) → min a last ≤ b → min (b + 1) last ≤ c → min (a + 1) last ≤ c
rose_later last a b c first behind = by (nat_le a last) refl
  where
    cap : min (a + 1) last ≤ last
    cap = min-le_right (a + 1) last

    one : min (a + 1) last ≤ a + 1
    one = min-le_left (a + 1) last

    by : (short : Bool) → nat_le a last ≡ short → min (a + 1) last ≤ c
    by true e =
        let small : a ≤ last = leb-true a last e in
        let same : a ≤ min a last = le-min (omega arith) small in
        within last (min (a + 1) last) (b + 1) c (omega (arith, same, first, one)) cap behind
    by false e =
        let large : last < a = leb-false a last e in
        let same : last ≤ min a last = le-min (omega (arith, large)) (omega arith) in
        within last (min (a + 1) last) (b + 1) c (omega (arith, same, first, cap)) cap behind

-- ---- hosts

pub reads_none : (host : HostState) → OnlyReads host host
reads_none host = record {
  prefixes = record { told = refl; lent = refl };
  files = refl;
  gots = refl;
  lane_faults = refl;
  store_faults = refl;
  faults = omega arith;
  chan_faults = min-le_left host.chan_faults (2 ^ 64 - 1);
}

pub reads_both : (a b c : HostState) → OnlyReads a b → OnlyReads b c → OnlyReads a c
reads_both a b c f g = record {
  prefixes = record { told = g.prefixes.told ∙ f.prefixes.told; lent = g.prefixes.lent ∙ f.prefixes.lent };
  files = g.files ∙ f.files;
  gots = g.gots ∙ f.gots;
  lane_faults = g.lane_faults ∙ f.lane_faults;
  store_faults = g.store_faults ∙ f.store_faults;
  faults = omega (arith, f.faults, g.faults);
  chan_faults = later_both (2 ^ 64 - 1) a.chan_faults b.chan_faults c.chan_faults f.chan_faults g.chan_faults;
}

-- what failed behind such reads failed since they began
pub cause_later : {A : Type 0} (a b c : HostState) (result : Result A SourceErr) → OnlyReads a b → HasSourceCause b c result
    → HasSourceCause a c result
cause_later a b c result reads cause = record {
  chan = λ failed. rose_later (2 ^ 64 - 1) a.chan_faults b.chan_faults c.chan_faults reads.chan_faults (cause.chan failed);
  host = λ failed.
      let le : min a.faults (2 ^ 64 - 1) ≤ a.faults = min-le_left a.faults (2 ^ 64 - 1) in
      rose_later (2 ^ 64 - 1) a.faults b.faults c.faults (omega (arith, le, reads.faults)) (cause.host failed);
}
