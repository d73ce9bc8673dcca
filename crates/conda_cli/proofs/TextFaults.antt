-- The faults that the texts of channels have: none is a device's, and none is want of memory.
use Rattle.std.proofs.Common.{[], ◌∷◌, ◌++◌, ◌≡◌, ℕ, List, Option, Some, None, subst, length, ◌+◌}
use Rattle.std.specs.Prelude.{Err, Ok, nat_le, true, false, if◌then◌else◌}
use Rattle.conda_base.specs.Reads.{Read, ◌>>=◌}
use Rattle.conda_repodata.specs.Reading.{repodata_read}
use Rattle.conda_repodata.specs.declared.error.RepodataField.{RepodataField}
use Rattle.conda_repodata.specs.declared.repodata.Repodata.{Repodata}
use Rattle.conda_index.specs.Pools.{given, index_limit}
use Rattle.conda_index.specs.declared.virtuals.Virtual.{Virtual}
use Rattle.conda_sources.specs.Channels.{Found, linux_64, noarch, printed_path}
use Rattle.conda_sources.specs.Reading.{channel_read, channels_read, if_few, of_text, part_read, parts_read, repodata_limit, sources_read, unless_missing}
use Rattle.conda_sources.specs.declared.error.SourceErr.{SourceErr}
use Rattle.conda_sources.specs.declared.error.SourceErr.TheVariants as sources

-- the fault is one of texts
abbrev pub IsTextFault : SourceErr → Type 0
IsTextFault sources.ChanFault = ⊥
IsTextFault sources.HostFault = ⊥
IsTextFault sources.Memory = ⊥
IsTextFault _ = Unit {0}

-- what is read has such a fault, or none
abbrev FailsByText : {A : Type 0} → Read A SourceErr → Type 0
FailsByText (Ok x) = Unit {0}
FailsByText (Err fault) = IsTextFault fault

after : {A B : Type 0} (read : Read A SourceErr) (next : A → Read B SourceErr) → FailsByText read → ((x : A) → FailsByText (next x))
    → FailsByText (read >>= next)
after (Ok x) next first behind = behind x
after (Err fault) next first behind = first

text_fails : (path : List ℕ) (read : Read Repodata RepodataField) → FailsByText (of_text path read)
text_fails path (Ok part) = tt
text_fails path (Err field) = tt

part_fails : (channel subdir : List ℕ) (text : Option (List ℕ)) → FailsByText (part_read channel subdir text)
part_fails channel subdir None = tt
part_fails channel subdir (Some text) =
    elim (nat_le (length text) repodata_limit) as (λ b. FailsByText (if b then of_text (printed_path channel subdir) (repodata_read text channel subdir) else Err (sources.LongRepodata (printed_path channel subdir)))) [
      | true ↦ text_fails (printed_path channel subdir) (repodata_read text channel subdir)
      | false ↦ tt
    ]

missing_fails : (channel : List ℕ) (first second : Option (List ℕ)) (parts : Read (List Repodata) SourceErr) → FailsByText parts
    → FailsByText (unless_missing channel first second parts)
missing_fails channel None None parts is = tt
missing_fails channel None (Some text) parts is = is
missing_fails channel (Some text) second parts is = is

channel_fails : (found : Found) → FailsByText (channel_read found)
channel_fails found =
    missing_fails found.channel found.linux_64 found.noarch (parts_read found)
    (after (part_read found.channel linux_64 found.linux_64) _ (part_fails found.channel linux_64 found.linux_64)
    (λ first. after (part_read found.channel noarch found.noarch) _ (part_fails found.channel noarch found.noarch) (λ second. tt)))

channels_fail : (found : List Found) → FailsByText (channels_read found)
channels_fail [] = tt
channels_fail (one ∷ others) =
    after (channel_read one) _ (channel_fails one) (λ first. after (channels_read others) _ (channels_fail others) (λ behind. tt))

few_fails : (virtuals : List Virtual) (parts : List Repodata) → FailsByText (if_few virtuals parts)
few_fails virtuals parts =
    elim (nat_le (length (given parts) + length virtuals) index_limit) as (λ b. FailsByText (if b then Ok parts else Err sources.ManyRecords)) [ true ↦ tt | false ↦ tt ]

-- a fault of what was found is one of its texts
pub is_text_fault : (virtuals : List Virtual) (found : List Found) (fault : SourceErr) → sources_read virtuals found ≡ Err fault → IsTextFault fault
is_text_fault virtuals found fault is =
    subst FailsByText is (after (channels_read found) (if_few virtuals) (channels_fail found) (few_fails virtuals))
