-- What `search` answers: this project's own.
use Rattle.std.specs.Prelude.{◌≡◌, ◌≢◌, ℕ, List, []}
use Rattle.conda_spec.specs.Parts.{Parts}
use Rattle.conda_record.specs.declared.pkg_record.PkgRecord.{PkgRecord}
use Rattle.conda_index.specs.Search.{found}
use Rattle.conda_requests.specs.Report.{records_text}

-- the specification names no record of the index
abbrev pub NamesNone : Parts → List PkgRecord → Type 0
NamesNone spec index = found spec index ≡ []

-- the text has a line for each record that it names, of which there is one; they stand by name, those of a name in plain order
pub record IsSearchReport (spec : Parts) (index : List PkgRecord) (text : List ℕ) : Type 0 where
  pub some : found spec index ≢ []
  pub lines : text ≡ records_text (found spec index)
