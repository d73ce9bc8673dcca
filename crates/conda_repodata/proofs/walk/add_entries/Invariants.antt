use Rattle.std.proofs.Common.{◌≡◌, ◌++◌, List, ℕ}
use Rattle.std.specs.Prelude.{flat_map}
use Rattle.serde_json.specs.View.{members_view}
use Rattle.conda_repodata.specs.Parts.{record_in, unread_in}
use Rattle.conda_repodata.specs.Reading.{records_of, unread_of}
use Rattle.conda_repodata.proofs.walk.add_entries.Given as goal

-- what is found in the entries so far, and behind it what is found in the members that are left
abbrev pub invariant-loop-file : goal.invariant-loop-file
invariant-loop-file l = record {
  records : (channel subdir : List ℕ) →
      flat_map (record_in channel subdir) l.entries.items ++ records_of channel subdir (members_view l.file-iterator)
      ≡ flat_map (record_in channel subdir) l.fn.entries.items ++ records_of channel subdir (members_view l.members.entries);
  unread : (channel subdir : List ℕ) →
      flat_map (unread_in channel subdir) l.entries.items ++ unread_of l.section channel subdir (members_view l.file-iterator)
      ≡ flat_map (unread_in channel subdir) l.fn.entries.items ++ unread_of l.section channel subdir (members_view l.members.entries);
}
