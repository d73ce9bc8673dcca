-- The printed lines of faults, and the statuses that go with them. This project's own.
use Rattle.std.specs.Prelude.{ℕ, List, [], ◌∷◌, ◌++◌, codes, decimal}
use Rattle.conda_cli.specs.declared.fault.Fault.{Fault}
use Rattle.conda_cli.specs.declared.fault.Fault.TheVariants.{Usage, BadSpec, NoEnv, LongHistory, BadHistory, NoMatch, Unsat, BadRepodata, LongRepodata, ManyRecords, Missing, LongInput, BadLog, NotRefuted, ChanFault, ReadFault, EnvFault, HostFault, Memory}
use Rattle.conda_clause.specs.declared.error.SpecWhy.{SpecWhy}
use Rattle.conda_clause.specs.declared.error.SpecWhy.TheVariants as specs
use Rattle.conda_repodata.specs.declared.error.RepodataField.{RepodataField}
use Rattle.conda_repodata.specs.declared.error.RepodataField.TheVariants as repodata
use Rattle.conda_words.specs.declared.error.Why.{Why}
use Rattle.conda_words.specs.declared.error.Why.TheVariants.{Unknown, Missing, Extra, Twice, Number, Path, Channel, Nested, Limit}

-- the word for what is wrong with a word of the command line
abbrev pub why_text : Why → List ℕ
why_text Unknown = codes "unknown"
why_text Missing = codes "missing"
why_text Extra = codes "extra"
why_text Twice = codes "twice"
why_text Number = codes "number"
why_text Path = codes "path"
why_text Channel = codes "channel"
why_text Nested = codes "nested"
why_text Limit = codes "limit"

-- the word for what is wrong with a specification
abbrev pub spec_why_text : SpecWhy → List ℕ
spec_why_text specs.Key = codes "key"
spec_why_text specs.Channel = codes "channel"
spec_why_text specs.Name = codes "name"
spec_why_text specs.Glob = codes "glob"
spec_why_text specs.Words = codes "words"
spec_why_text specs.Paren = codes "paren"
spec_why_text specs.Version = codes "version"
spec_why_text specs.Build = codes "build"

-- the word for the field for which a repodata text is refused
abbrev pub field_text : RepodataField → List ℕ
field_text repodata.Json = codes "json"
field_text repodata.Packages = codes "packages"
field_text repodata.PackagesConda = codes "packages.conda"

-- the line of a fault, in a run on this prefix
abbrev pub fault_text : Fault → List ℕ → List ℕ
fault_text (Usage at why) prefix = codes "usage: " ++ (decimal at ++ 32 ∷ (why_text why ++ 10 ∷ []))
fault_text (BadSpec text at why) prefix =
    codes "bad specification " ++ (text ++ (codes ": " ++ (decimal at ++ 32 ∷ (spec_why_text why ++ 10 ∷ []))))
fault_text NoEnv prefix = codes "no environment at " ++ (prefix ++ 10 ∷ [])
fault_text LongHistory prefix = codes "too long: conda-meta/history 67108864\n"
fault_text (BadHistory line) prefix = codes "bad history: line " ++ (decimal line ++ 10 ∷ [])
fault_text NoMatch prefix = codes "no match\n"
fault_text (Unsat report) prefix = report
fault_text (BadRepodata path field) prefix = codes "bad repodata " ++ (path ++ (codes ": " ++ (field_text field ++ 10 ∷ [])))
fault_text (LongRepodata path) prefix = codes "too long: " ++ (path ++ codes " 268435456\n")
fault_text ManyRecords prefix = codes "too long: records 16777216\n"
fault_text (Missing path) prefix = codes "missing: " ++ (path ++ 10 ∷ [])
fault_text LongInput prefix = codes "too long: input 67108864\n"
fault_text (BadLog line) prefix = codes "bad log: line " ++ (decimal line ++ 10 ∷ [])
fault_text (NotRefuted step) prefix = codes "not refuted: step " ++ (decimal step ++ 10 ∷ [])
fault_text ChanFault prefix = codes "channel fault\n"
fault_text ReadFault prefix = codes "read fault\n"
fault_text EnvFault prefix = codes "environment fault\n"
fault_text HostFault prefix = codes "host fault\n"
fault_text Memory prefix = codes "out of memory\n"

-- the status with which the program then ends
abbrev pub status_of : Fault → ℕ
status_of (Usage at why) = 2
status_of (BadSpec text at why) = 2
status_of NoEnv = 1
status_of LongHistory = 2
status_of (BadHistory line) = 2
status_of NoMatch = 1
status_of (Unsat report) = 1
status_of (BadRepodata path field) = 2
status_of (LongRepodata path) = 2
status_of ManyRecords = 2
status_of (Missing path) = 3
status_of LongInput = 2
status_of (BadLog line) = 2
status_of (NotRefuted step) = 1
status_of ChanFault = 3
status_of ReadFault = 3
status_of EnvFault = 3
status_of HostFault = 3
status_of Memory = 5
