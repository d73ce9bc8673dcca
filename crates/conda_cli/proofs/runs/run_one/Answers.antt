use Rattle.conda_cli.proofs.runs.run_one.Goals as goal

pub run_search-requires-after_bounds : goal.run_search-requires-after_bounds
run_search-requires-after_bounds g c = λ _ _. c.virtual_laws.ensures c.requires.read.0 c.args.command.now c.requires.read.1

pub run_solve-requires-after_bounds : goal.run_solve-requires-after_bounds
run_solve-requires-after_bounds g c = λ _ _. c.virtual_laws.ensures c.requires.read.0 c.args.command.now c.requires.read.1
