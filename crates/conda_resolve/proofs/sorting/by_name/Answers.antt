use Rattle.conda_resolve.proofs.sorting.by_name.Goals as goal

pub records_of-requires-clause-decided : goal.records_of-requires-clause-decided
records_of-requires-clause-decided c = record {
  decided = c.args.decided.entries;
  are = c.requires.decided;
  moved = c.in_ok-sort_keys.ensures.reordered.0;
  sorted = c.in_ok-sort_keys.ensures.sorted;
}
