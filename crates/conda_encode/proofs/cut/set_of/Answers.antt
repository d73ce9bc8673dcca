use Rattle.std.proofs.Common.{◌≡◌, ℕ, Bool, List, subst}
use Rattle.conda_record.specs.declared.pkg_record.PkgRecord.{PkgRecord}
use Rattle.conda_record.specs.declared.pool.NamePool.{NamePool}
use Rattle.conda_encode.specs.Models.{IsCut}
use Rattle.conda_encode.specs.Sides.{side_of}
use Rattle.conda_encode.specs.declared.asked.Asked.{Asked}
use Rattle.conda_encode.proofs.Requests.{cut_solution}
use Rattle.conda_encode.proofs.cut.set_of.Goals as goal

cut_along : (pools own : List NamePool) (items asked : List Asked) (v : ℕ → Bool) (set : List PkgRecord) → pools ≡ own → items ≡ asked → IsCut pools items v set → IsCut own asked v set
cut_along pools own items asked v set e f cut =
    let P : List NamePool → Type 0 = λ ps. IsCut ps items v set in
    let Q : List Asked → Type 0 = λ xs. IsCut own xs v set in
    subst Q f (subst P e cut)

pub returns-clause-solution : goal.returns-clause-solution
returns-clause-solution c model =
    cut_solution c.args.encoded.now.pools c.args.encoded.now.asked c.requires.request (side_of c.args.model.now) model c.in_ok-cut.field-0.items
    (cut_along c.as_slice-pools.result.now c.args.encoded.now.pools c.as_slice.result.now c.args.encoded.now.asked (side_of c.args.model.now) c.in_ok-cut.field-0.items
    c.as_slice-pools.ensures c.as_slice.ensures c.in_ok-cut.ensures)
