-- The object that rows of conda_json read: its fields in order.
use Rattle.std.specs.Prelude.{ℕ, List, Option, None, Some, Ok, codes}
use Rattle.serde_json.specs.Data.{Data}
use Rattle.conda_base.specs.Reads.{Read, ◌>>=◌}
use Rattle.conda_json.specs.Fields.{required, optional, required_texts}
use Rattle.conda_json.specs.Json.{text_at, number_at}
use Rattle.conda_json.specs.declared.optional.Null.{Null}
use Rattle.rows_values.specs.declared.json.Sample.{Sample}
use Rattle.rows_values.specs.declared.json.SampleErr.{SampleErr}

-- which field an error names
abbrev pub sample_fault_of : SampleErr → Option (List ℕ)
sample_fault_of (SampleErr.BadSample field) = Some field.now
sample_fault_of SampleErr.Memory = None

-- the sample that a value means, or the first field that is absent or of another kind
abbrev pub sample_meant : Data → Read Sample (List ℕ)
sample_meant value = do
  name ← required text_at (codes "name") value
  size ← required number_at (codes "size") value
  license ← optional text_at Null.Absent (codes "license") value
  depends ← required_texts (codes "depends") value
  Ok (record { name = name; size = size; license = license; depends = depends })
