use Rattle.std.proofs.Common.{◌≡◌, ◌++◌, drop}
use Rattle.std.specs.Prelude.{flat_map}
use Rattle.conda_repodata.specs.Parts.{record_in, unread_in}
use Rattle.conda_repodata.proofs.walk.read_entries.Given as goal

-- what is found so far, and behind it what is found in the entries that are left
abbrev pub invariant-loop-entry : goal.invariant-loop-entry
invariant-loop-entry l = record {
  records : l.found.records.items ++ flat_map (record_in l.channel l.subdir) (drop l.entry-index l.entries)
      ≡ flat_map (record_in l.channel l.subdir) l.entries;
  unread : l.found.unread.items ++ flat_map (unread_in l.channel l.subdir) (drop l.entry-index l.entries)
      ≡ flat_map (unread_in l.channel l.subdir) l.entries;
}
