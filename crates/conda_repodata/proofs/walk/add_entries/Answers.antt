use Rattle.std.proofs.Common.{◌≡◌, ◌++◌, List, ℕ, sym, ap, ◌∙◌}
use Rattle.std.specs.Prelude.{flat_map}
use Rattle.serde_json.specs.View.{members_view, view}
use Rattle.conda_repodata.specs.Entries.{entry_read}
use Rattle.conda_repodata.specs.Parts.{record_in, unread_in}
use Rattle.conda_repodata.specs.Reading.{if_read, if_unread, records_of, unread_of}
use Rattle.conda_repodata.proofs.WalkLemmas.{pushed_record, pushed_unread}
use Rattle.conda_repodata.proofs.walk.add_entries.Goals as goal

pub loop-file-preserved : goal.loop-file-preserved
loop-file-preserved c =
    let before = c.loop-file.entries.items in
    let section = c.args.section in
    record {
      records = λ channel subdir.
          let found = flat_map (record_in channel subdir) before in
          let rest = records_of channel subdir (members_view c.next.new.self) in
          ap (λ items. flat_map (record_in channel subdir) items ++ rest) c.in_ok-push.ensures.items
          ∙ pushed_record channel subdir before (section, c.as_str.result, c.in-Some.value) rest
          ∙ ap (λ file. found ++ if_read (entry_read channel subdir file (view c.in-Some.value.now)) rest) c.as_str.ensures.value
          ∙ ap (λ members. found ++ records_of channel subdir (members_view members)) (sym c.in-Some.ensures.steps)
          ∙ c.loop-file.invariant.records channel subdir;
      unread = λ channel subdir.
          let found = flat_map (unread_in channel subdir) before in
          let rest = unread_of section channel subdir (members_view c.next.new.self) in
          ap (λ items. flat_map (unread_in channel subdir) items ++ rest) c.in_ok-push.ensures.items
          ∙ pushed_unread channel subdir before (section, c.as_str.result, c.in-Some.value) rest
          ∙ ap (λ file. found ++ if_unread section file (entry_read channel subdir file (view c.in-Some.value.now)) rest) c.as_str.ensures.value
          ∙ ap (λ members. found ++ unread_of section channel subdir (members_view members)) (sym c.in-Some.ensures.steps)
          ∙ c.loop-file.invariant.unread channel subdir;
    }
