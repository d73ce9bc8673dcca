use Rattle.std.specs.Prelude.{◌≡◌, ℕ, List, codes, IfSome, Ok, Err}
use Rattle.std.proofs.Common.{ap, sym, ◌∙◌}
use Rattle.std.proofs.lemmas.Result.{err_from_is_err_and}
use Rattle.serde_json.specs.Data.{Data}
use Rattle.serde_json.specs.View.{view}
use Rattle.conda_base.specs.Reads.{◌>>=◌}
use Rattle.conda_path.specs.declared.values.Good.{Good}
use Rattle.conda_record.specs.declared.error.RecordField.{RecordField}
use Rattle.conda_record.specs.declared.pkg_record.PkgRecord.{PkgRecord}
use Rattle.conda_meta.specs.Reading.{field_fault_of, files_read, paths_data_read, prefix_of, record_at}
use Rattle.conda_meta.specs.declared.error.FieldErr.{FieldErr}
use Rattle.conda_meta.specs.declared.error.MetaField.{MetaField}
use Rattle.conda_meta.specs.declared.linked.Linked.{Linked}
use Rattle.conda_meta.proofs.ReadLemmas.{placed_ascend}
use Rattle.conda_meta.proofs.prefix.read_package.Goals as goal

abbrev made : PkgRecord → List Good → Linked
made rec goods = record { rec = rec; goods = goods }

files_wrong : (value : Data) (rec : PkgRecord) (e : FieldErr) → record_at (MetaField.InRecord RecordField.Fn) (codes "fn") value ≡ Ok rec
    → IfSome (field_fault_of e) (λ fault. files_read value ≡ Err fault) → IfSome (field_fault_of e) (λ fault. prefix_of value ≡ Err fault)
files_wrong value rec FieldErr.Memory is given = tt
files_wrong value rec (FieldErr.Bad field) is given =
    ap (λ r. r >>= (λ rec. files_read value >>= (λ files. paths_data_read files value >>= (λ goods. Ok (made rec goods))))) is
    ∙ ap (λ r. r >>= (λ files. paths_data_read files value >>= (λ goods. Ok (made rec goods)))) given

goods_wrong : (value : Data) (rec : PkgRecord) (files : List (List ℕ)) (e : FieldErr) → record_at (MetaField.InRecord RecordField.Fn) (codes "fn") value ≡ Ok rec
    → files_read value ≡ Ok files
    → IfSome (field_fault_of e) (λ fault. paths_data_read files value ≡ Err fault) → IfSome (field_fault_of e) (λ fault. prefix_of value ≡ Err fault)
goods_wrong value rec files FieldErr.Memory is read given = tt
goods_wrong value rec files (FieldErr.Bad field) is read given =
    ap (λ r. r >>= (λ rec. files_read value >>= (λ files. paths_data_read files value >>= (λ goods. Ok (made rec goods))))) is
    ∙ ap (λ r. r >>= (λ files. paths_data_read files value >>= (λ goods. Ok (made rec goods)))) read
    ∙ ap (λ r. r >>= (λ goods. Ok (made rec goods))) given

pub returns-in_err-files : goal.returns-in_err-files
returns-in_err-files c =
    let p = err_from_is_err_and c.from_residual-in_err-files.result c.from_residual-in_err-files.ensures.1 in
    rw (p.1, p.2) (files_wrong (view c.args.value.now) c.in_ok-rec.rec c.in_err-files.field-0.0 c.in_ok-rec.ensures c.in_err-files.ensures)

pub returns-in_err-goods : goal.returns-in_err-goods
returns-in_err-goods c =
    let p = err_from_is_err_and c.from_residual-in_err-goods.result c.from_residual-in_err-goods.ensures.1 in
    rw (p.1, p.2) (goods_wrong (view c.args.value.now) c.in_ok-rec.rec c.as_slice.result.now c.in_err-goods.field-0.0 c.in_ok-rec.ensures
    (c.in_ok-files.ensures ∙ ap Ok (sym c.as_slice.ensures.value)) c.in_err-goods.ensures)

pub sorted-requires : goal.sorted-requires
sorted-requires c =
    placed_ascend (view c.args.value.now) c.as_slice.result.now _ (c.in_ok-files.ensures ∙ ap Ok (sym c.as_slice.ensures.value)) c.in_ok-goods.ensures

pub returns-in_err-sorted : goal.returns-in_err-sorted
returns-in_err-sorted c =
    let p = err_from_is_err_and c.from_residual-in_err-sorted.result c.from_residual-in_err-sorted.ensures.1 in rw (p.1, p.2) tt
