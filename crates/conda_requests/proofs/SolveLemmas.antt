-- The request of words, and the report where it has no solution.
use Rattle.std.specs.Prelude.{◌≡◌, ◌↔◌, ℕ, true, IfSome, List}
use Rattle.std.proofs.Common.{◌∙◌, ap, subst, sym}
use Rattle.std.proofs.lemmas.List.Elements.{All-contains, All-map, All-same}
use Rattle.std.specs.List.{All, Contains}
use Rattle.conda_base.specs.Texts.{Ascending}
use Rattle.conda_spec.specs.Parts.{Parts}
use Rattle.conda_record.specs.declared.pkg_record.PkgRecord.{PkgRecord}
use Rattle.conda_record.specs.declared.pool.NamePool.{NamePool}
use Rattle.conda_refute.specs.Refutation as refutation
use Rattle.conda_refute.specs.declared.log.Log.{Log}
use Rattle.conda_encode.specs.Clauses.{clauses}
use Rattle.conda_encode.specs.Solution.{IsSolution}
use Rattle.conda_encode.specs.Variables.{IsPlain, IsRequest}
use Rattle.conda_encode.specs.declared.asked.Asked.{Asked}
use Rattle.conda_index.specs.Pools.{pool_of}
use Rattle.conda_index.specs.Reached.{Reaches, names_of}
use Rattle.conda_resolve.specs.Answer.{log_of}
use Rattle.conda_resolve.specs.declared.error.ResolveErr.{ResolveErr}
use Rattle.conda_resolve.specs.declared.error.ResolveErr.TheVariants.{Unsat}
use Rattle.conda_explain.specs.Report.{report_text}
use Rattle.conda_requests.specs.Solving.{ArePools, IsUnsatReport, item_of, items_of}

-- no name of an item has a star
plain_items : (specs : List Parts) (items : List Asked) → items ≡ items_of specs → All IsPlain specs
    → (item : Asked) → Contains items item → IsPlain item.spec
plain_items specs items is plain item has =
    All-contains (λ (i : Asked). IsPlain i.spec) items item
    (All-same (λ (i : Asked). IsPlain i.spec) items (items_of specs) is (All-map (λ (i : Asked). IsPlain i.spec) item_of specs plain))
    has

-- so the pools and items can be written as clauses
pub request : (specs : List Parts) (items : List Asked) (given pools : List NamePool) → items ≡ items_of specs → All IsPlain specs → given ≡ pools
    → (((item : Asked) → Contains items item → IsPlain item.spec) → IsRequest pools items) → IsRequest given items
request specs items given pools is plain same can =
    subst (λ (ps : List NamePool). IsRequest ps items) (sym same) (can (plain_items specs items is plain))

-- what is said of the log that an error has
pub of_log : (error : ResolveErr) (log : Log) (P : Log → Type 0) → error ≡ Unsat log → IfSome (log_of error) P → P log
of_log error log P is h = subst (λ (e : ResolveErr). IfSome (log_of e) P) is h

pub unsat : (specs : List Parts) (index : List PkgRecord) (items : List Asked) (given pools : List NamePool) (log : Log) (text : List ℕ)
    → items ≡ items_of specs → given ≡ pools
    → ((name : List ℕ) → Contains (names_of pools) name ↔ Reaches index items name) → Ascending (names_of pools)
    → All (λ pool. pool.recs ≡ pool_of index pool.name) pools
    → ((set : List PkgRecord) → IsSolution set items given → ⊥) → refutation.refuted log ≡ true
    → All (Contains (clauses given items)) log.inputs → text ≡ report_text given items log → IsUnsatReport specs index text
unsat specs index items given pools log text is same names ascending records none refuted inputs lines =
    let of_items : ArePools index items pools = record { names = names; ascending = ascending; records = records } in
    record {
      pools = given;
      are_pools =
          subst (λ (asked : List Asked). ArePools index asked given) is (subst (λ (ps : List NamePool). ArePools index items ps) (sym same) of_items);
      none = subst (λ (asked : List Asked). (set : List PkgRecord) → IsSolution set asked given → ⊥) is none;
      log = log;
      refuted = refuted;
      inputs = subst (λ (asked : List Asked). All (Contains (clauses given asked)) log.inputs) is inputs;
      lines = lines ∙ ap (λ (asked : List Asked). report_text given asked log) is;
    }
