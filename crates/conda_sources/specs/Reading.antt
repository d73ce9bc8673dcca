-- What the repodata of channels is read as: this project's own.
use Rattle.std.specs.Prelude.{◌≤◌, ℕ, ◌+◌, nat_le, if◌then◌else◌, Result, IsErrOf, List, [], ◌∷◌, ◌++◌, length, Option, None, Some, Ok, Err}
use Rattle.std.specs.Option.{option_to_list}
use Rattle.conda_base.specs.Reads.{Read, ◌>>=◌}
use Rattle.conda_device.specs.Fault.{Rose}
use Rattle.conda_repodata.specs.Reading.{repodata_read}
use Rattle.conda_repodata.specs.declared.error.RepodataField.{RepodataField}
use Rattle.conda_repodata.specs.declared.repodata.Repodata.{Repodata}
use Rattle.conda_index.specs.Pools.{given, index_limit}
use Rattle.conda_index.specs.declared.virtuals.Virtual.{Virtual}
use Rattle.conda_sources.specs.Channels.{Found, linux_64, noarch, printed_path}
use Rattle.conda_sources.specs.declared.error.SourceErr.{SourceErr}
use Rattle.conda_sources.specs.declared.error.SourceErr.TheVariants.{BadRepodata, LongRepodata, Missing, ManyRecords, ChanFault, HostFault, Memory}

-- the fault of the texts that an error names; a device's fault and want of memory are none
abbrev pub text_fault_of : SourceErr → Option SourceErr
text_fault_of (BadRepodata path field) = Some (BadRepodata path field)
text_fault_of (LongRepodata path) = Some (LongRepodata path)
text_fault_of (Missing channel) = Some (Missing channel)
text_fault_of ManyRecords = Some ManyRecords
text_fault_of ChanFault = None
text_fault_of HostFault = None
text_fault_of Memory = None

-- no device failed
abbrev pub IsNoFault : SourceErr → Type 0
IsNoFault ChanFault = ⊥
IsNoFault HostFault = ⊥
IsNoFault error = Unit {0}

-- the handle's count of faults never falls, the handle failed only where it rose, and the host didn't
pub record HasChanCause {A : Type 0} (before now : ℕ) (result : Result A SourceErr) : Type 0 where
  pub later : before ≤ now
  pub chan : IsErrOf result ChanFault → Rose before now
  pub host : ¬ IsErrOf result HostFault

-- the most bytes of a repodata text
abbrev pub repodata_limit : ℕ
repodata_limit = 268435456

-- ---- a subdir

-- a part, or which text is refused for which field
abbrev pub of_text : List ℕ → Read Repodata RepodataField → Read (Option Repodata) SourceErr
of_text path (Ok part) = Ok (Some part)
of_text path (Err field) = Err (BadRepodata path field)

-- the part of a subdir; there is none where it has no text
abbrev pub part_read : List ℕ → List ℕ → Option (List ℕ) → Read (Option Repodata) SourceErr
part_read channel subdir None = Ok None
part_read channel subdir (Some text) =
    if nat_le (length text) repodata_limit then of_text (printed_path channel subdir) (repodata_read text channel subdir)
    else Err (LongRepodata (printed_path channel subdir))

-- ---- channels

-- the parts of both subdirs
abbrev pub parts_read : Found → Read (List Repodata) SourceErr
parts_read found = do
  first ← part_read found.channel linux_64 found.linux_64
  second ← part_read found.channel noarch found.noarch
  Ok (option_to_list first ++ option_to_list second)

-- a channel of which a subdir has a text
abbrev pub unless_missing : {A : Type 0} → List ℕ → Option A → Option A → Read (List Repodata) SourceErr → Read (List Repodata) SourceErr
unless_missing channel None None parts = Err (Missing channel)
unless_missing channel None (Some text) parts = parts
unless_missing channel (Some text) other parts = parts

-- the parts of both subdirs, behind the part of `linux-64`
abbrev pub behind_read : List ℕ → Option Repodata → Option (List ℕ) → Read (List Repodata) SourceErr
behind_read channel first text =
    part_read channel noarch text >>= (λ second. unless_missing channel first second (Ok (option_to_list first ++ option_to_list second)))

-- the parts of a channel, that of `linux-64` first; it has one at least
abbrev pub channel_read : Found → Read (List Repodata) SourceErr
channel_read found = unless_missing found.channel found.linux_64 found.noarch (parts_read found)

-- the parts of all channels, or the first fault
abbrev pub channels_read : List Found → Read (List Repodata) SourceErr
channels_read [] = Ok []
channels_read (found ∷ others) = do
  first ← channel_read found
  behind ← channels_read others
  Ok (first ++ behind)

-- ---- with the virtual packages

-- as many as an index takes
abbrev pub if_few : List Virtual → List Repodata → Read (List Repodata) SourceErr
if_few virtuals parts =
    if nat_le (length (given parts) + length virtuals) index_limit then Ok parts else Err ManyRecords

-- the parts of which, with these virtual packages, an index is made
abbrev pub sources_read : List Virtual → List Found → Read (List Repodata) SourceErr
sources_read virtuals found = channels_read found >>= if_few virtuals
