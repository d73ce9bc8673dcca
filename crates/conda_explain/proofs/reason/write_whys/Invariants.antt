use Rattle.std.proofs.Common.{◌≡◌, ◌++◌, Bor, map, string_bytes, take}
use Rattle.std.specs.List.{flat_map}
use Rattle.conda_record.specs.declared.pkg_record.PkgRecord.{PkgRecord}
use Rattle.conda_encode.specs.declared.encoded.Why.{Why}
use Rattle.conda_explain.specs.Report.{why_line}
use Rattle.conda_explain.proofs.reason.write_whys.Given as goal

abbrev pub invariant-loop-why : goal.invariant-loop-why
invariant-loop-why l =
    string_bytes l.text ≡ string_bytes l.initial.text ++ flat_map (why_line (map (λ (r : Bor PkgRecord). r.now) l.recs) l.asked) (map (λ (w : Bor Why). w.now) (take l.why-index l.whys))
