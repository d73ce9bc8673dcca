-- The index of a command: this project's own.
use Rattle.std.specs.Prelude.{◌≡◌, ◌≤◌, ◌-◌, ◌^◌, ℕ, min, List, Option, Result, Ok, Err, IfSome, IsErrOf}
use Rattle.conda_device.specs.Channels.{Files}
use Rattle.conda_device.specs.Fault.{Rose}
use Rattle.conda_device.specs.Hosts.{HostState, KeepsPrefixes}
use Rattle.conda_record.specs.declared.pkg_record.PkgRecord.{PkgRecord}
use Rattle.conda_repodata.specs.declared.repodata.Repodata.{Repodata}
use Rattle.conda_index.specs.Pools.{IsIndex, IsPool, pool_of, pool_records}
use Rattle.conda_index.specs.declared.virtuals.Virtual.{Virtual}
use Rattle.conda_sources.specs.Channels.{AreFound, Found}
use Rattle.conda_sources.specs.Reading.{sources_read, text_fault_of}
use Rattle.conda_sources.specs.declared.error.SourceErr.{SourceErr}
use Rattle.conda_sources.specs.declared.error.SourceErr.TheVariants.{ChanFault, HostFault}

-- the index of these parts, the channels' in their order, and of these virtual packages
pub record IsIndexOf (parts : List Repodata) (virtuals : List Virtual) (index : List PkgRecord) : Type 0 where
  pub sound : IsIndex index
  pub pools : (name : List ℕ) → IsPool (pool_records parts virtuals name) (pool_of index name)

-- Channels were read, and nothing else was done. The count of the host's faults hasn't fallen, nor has that of the channels', or it stands at
-- the last value of its type.
pub record OnlyReads (before now : HostState) : Type 0 where
  pub prefixes : KeepsPrefixes before now
  pub files : now.files ≡ before.files
  pub gots : now.gots ≡ before.gots
  pub lane_faults : now.lane_faults ≡ before.lane_faults
  pub store_faults : now.store_faults ≡ before.store_faults
  pub faults : before.faults ≤ now.faults
  pub chan_faults : min before.chan_faults (2 ^ 64 - 1) ≤ now.chan_faults

-- a device's fault is answered only where its count rose
pub record HasSourceCause {A : Type 0} (before now : HostState) (result : Result A SourceErr) : Type 0 where
  pub chan : IsErrOf result ChanFault → Rose before.chan_faults now.chan_faults
  pub host : IsErrOf result HostFault → Rose before.faults now.faults

-- What was found, with these virtual packages, gives this index, or this is the first fault of it. A device's fault and want of memory may
-- always come.
abbrev pub IsSourced : List Virtual → List Found → Result (List PkgRecord) SourceErr → Type 0
IsSourced virtuals found (Ok index) = (parts : List Repodata) × (sources_read virtuals found ≡ Ok parts) × IsIndexOf parts virtuals index
IsSourced virtuals found (Err error) = IfSome (text_fault_of error) (λ fault. sources_read virtuals found ≡ Err fault)
