-- What is read of paths and prefixes, and which fault an error names.
use Rattle.std.specs.Prelude.{ℕ, List, Option, Some, None}
use Rattle.conda_base.specs.Reads.{Read, unless}
use Rattle.conda_path.specs.Paths.{path_fault, prefix_fault}
use Rattle.conda_path.specs.declared.error.PathErr.{PathErr}
use Rattle.conda_path.specs.declared.error.PathErr.TheVariants.{BadPath, Memory}

-- the place that an error names
abbrev pub path_err_fault : PathErr → Option ℕ
path_err_fault (BadPath at) = Some at
path_err_fault Memory = None

-- what the text is read as: itself, or the place of its fault
abbrev pub path_read : List ℕ → Read (List ℕ) ℕ
path_read text = unless (path_fault text) text

abbrev pub prefix_read : List ℕ → Read (List ℕ) ℕ
prefix_read text = unless (prefix_fault text) text
