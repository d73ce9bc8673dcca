-- What `solve` answers: this project's own.
use Rattle.std.specs.Prelude.{◌≡◌, ◌↔◌, ℕ, Bool, true, not, List, [], filter, map}
use Rattle.std.specs.List.{All, Contains}
use Rattle.conda_base.specs.Texts.{Ascending}
use Rattle.conda_spec.specs.Parts.{Parts}
use Rattle.conda_record.specs.declared.pkg_record.PkgRecord.{PkgRecord}
use Rattle.conda_record.specs.declared.pool.NamePool.{NamePool}
use Rattle.conda_refute.specs.Refutation.{refuted}
use Rattle.conda_refute.specs.declared.log.Log.{Log}
use Rattle.conda_encode.specs.Clauses.{clauses}
use Rattle.conda_encode.specs.Solution.{IsSolution}
use Rattle.conda_encode.specs.declared.asked.Asked.{Asked}
use Rattle.conda_encode.specs.declared.asked.AskKind.TheVariants.{Wanted}
use Rattle.conda_index.specs.Names.{is_virtual_name}
use Rattle.conda_index.specs.Pools.{pool_of}
use Rattle.conda_index.specs.Reached.{Reaches, names_of}
use Rattle.conda_resolve.specs.Choice.{IsChoice}
use Rattle.conda_explain.specs.Report.{report_text}
use Rattle.conda_requests.specs.Report.{records_text}
use Rattle.conda_requests.specs.declared.error.RequestErr.{RequestErr}
use Rattle.conda_requests.specs.declared.error.RequestErr.TheVariants.{Unsat}

-- a specification of the words: it is wanted, and of its name the newest package
abbrev pub item_of : Parts → Asked
item_of spec = record { spec = spec; fresh = true; kind = Wanted }

abbrev pub items_of : List Parts → List Asked
items_of specs = map item_of specs

-- the pools of the names that the items can meet, each once, with what the index has of them
pub record ArePools (index : List PkgRecord) (items : List Asked) (pools : List NamePool) : Type 0 where
  pub names : (name : List ℕ) → Contains (names_of pools) name ↔ Reaches index items name
  pub ascending : Ascending (names_of pools)
  pub records : All (λ pool. pool.recs ≡ pool_of index pool.name) pools

-- those of the records that can be linked: virtual packages can't
abbrev pub linkable : List PkgRecord → List PkgRecord
linkable set = filter (λ pkg. not (is_virtual_name pkg.name)) set

-- the text is the report of the first choice, where nothing is installed, without its virtual packages
pub record IsChoiceReport (specs : List Parts) (index : List PkgRecord) (text : List ℕ) : Type 0 where
  pub pools : List NamePool
  pub are_pools : ArePools index (items_of specs) pools
  pub set : List PkgRecord
  pub choice : IsChoice pools (items_of specs) [] set
  pub lines : text ≡ records_text (linkable set)

-- there is no solution, and the text is the report of a refutation of clauses that say what a solution has to be
pub record IsUnsatReport (specs : List Parts) (index : List PkgRecord) (text : List ℕ) : Type 0 where
  pub pools : List NamePool
  pub are_pools : ArePools index (items_of specs) pools
  pub none : (set : List PkgRecord) → IsSolution set (items_of specs) pools → ⊥
  pub log : Log
  pub refuted : refuted log ≡ true
  pub inputs : All (Contains (clauses pools (items_of specs))) log.inputs
  pub lines : text ≡ report_text pools (items_of specs) log

-- the answer is "no", with such a report
abbrev pub IsNo : List Parts → List PkgRecord → RequestErr → Type 0
IsNo specs index answer = (report : List ℕ) × IsUnsatReport specs index report × (answer ≡ Unsat report)
