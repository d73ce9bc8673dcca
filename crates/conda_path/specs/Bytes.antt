-- Which bytes the reader of a path or a prefix refuses.
use Rattle.std.specs.Prelude.{ℕ, Bool}
use Rattle.conda_path.specs.declared.scan.Bad.{Bad}
use Rattle.conda_path.specs.declared.scan.Bad.TheVariants.{Control, ControlOrSpace}
use Rattle.conda_path.specs.Paths.{is_control, is_control_or_space}

abbrev pub is_bad_of : Bad → ℕ → Bool
is_bad_of Control b = is_control b
is_bad_of ControlOrSpace b = is_control_or_space b
