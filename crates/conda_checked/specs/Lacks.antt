-- What a checked handle counts, and the last file that it lacked. This project's own.
use Rattle.std.specs.Prelude.{ℕ, ◌+◌, ◌-◌, ◌^◌, List, ◌∷◌, ◌++◌, min, Option, Some, None, Result, Ok, Err}
use Rattle.conda_base.specs.Signs.{slash}
use Rattle.conda_path.specs.Slots.{slot_text}
use Rattle.conda_path.specs.declared.slot.SlotKey.{SlotKey}
use Rattle.conda_path.specs.declared.values.Digest.{Digest}
use Rattle.conda_checked.specs.declared.checked.Checked.{Checked}
use Rattle.conda_checked.specs.declared.error.CheckErr.{CheckErr}
use Rattle.conda_checked.specs.declared.error.CheckErr.TheVariants.{Failed, Absent, Mismatch, Memory}
use Rattle.conda_checked.specs.declared.lack.Lack.{Lack}
use Rattle.conda_checked.specs.declared.lack.Lacks.{Lacks}

-- what a handle counts, and its last lack
abbrev pub lacks_of : {T : Type 0} → Checked T → Lacks
lacks_of checked = checked.lacks

-- nothing was lacked yet
abbrev pub no_lacks : Lacks
no_lacks = record { absents = 0; mismatches = 0; last = None }

-- one more, or the last value of the count's type
abbrev pub one_more : ℕ → ℕ
one_more count = min (count + 1) (2 ^ 64 - 1)

-- a file was absent
abbrev pub with_absent : Lacks → Lack → Lacks
with_absent lacks lack = record { absents = one_more lacks.absents; mismatches = lacks.mismatches; last = Some lack }

-- a file had another size or digest
abbrev pub with_mismatch : Lacks → Lack → Lacks
with_mismatch lacks lack = record { absents = lacks.absents; mismatches = one_more lacks.mismatches; last = Some lack }

-- What a handle counts after a read of a path that was to have this size and digest, if any. An answer that the file is absent raises the one
-- count, and one that it differs the other; this file is then the last lack. No other answer changes anything.
abbrev pub lacks_after : {A : Type 0} → List ℕ → Option (ℕ × Digest) → Lacks → Result A CheckErr → Lacks
lacks_after path want lacks (Ok answer) = lacks
lacks_after path want lacks (Err Failed) = lacks
lacks_after path want lacks (Err Absent) = with_absent lacks (record { path = path; want = want; found = None })
lacks_after path want lacks (Err (Mismatch wanted found)) = with_mismatch lacks (record { path = path; want = want; found = Some found })
lacks_after path want lacks (Err Memory) = lacks

-- a file in a package's folder in the cache: `<channel>/<subdir>/<dist>/<path>`
abbrev pub stored_path : SlotKey → List ℕ → List ℕ
stored_path key path = slot_text key ++ slash ∷ path
