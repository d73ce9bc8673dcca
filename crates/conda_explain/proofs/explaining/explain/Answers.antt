use Rattle.std.proofs.Common.{◌≡◌, ◌++◌, ℕ, ℤ, Bor, List, ap, map, ◌∙◌}
use Rattle.std.specs.List.{flat_map, zip}
use Rattle.std.specs.Prelude.{codes, string_bytes}
use Rattle.conda_record.specs.declared.pkg_record.PkgRecord.{PkgRecord}
use Rattle.conda_record.specs.declared.pool.NamePool.{NamePool}
use Rattle.conda_refute.specs.LogText.{log_text}
use Rattle.conda_refute.specs.declared.log.Log.{Log}
use Rattle.conda_refute.specs.declared.log.Step.{Step}
use Rattle.conda_encode.specs.Clauses.{Reason, reasons}
use Rattle.conda_encode.specs.Variables.{records}
use Rattle.conda_encode.specs.declared.asked.Asked.{Asked}
use Rattle.conda_encode.specs.declared.encoded.Encoded.{Encoded}
use Rattle.conda_encode.specs.declared.encoded.Why.{Why}
use Rattle.conda_explain.specs.Renumbered.{renumbered, shown_log}
use Rattle.conda_explain.specs.Report.{why_line}
use Rattle.conda_explain.specs.Shown.{shown}
use Rattle.conda_explain.proofs.Firsts.{clauses_of, zip_back}
use Rattle.conda_explain.proofs.Keys.{lists}
use Rattle.conda_explain.proofs.Pieces.{three_pieces}
use Rattle.conda_explain.proofs.explaining.explain.Goals as goal

pub returns : goal.returns
returns c =
    let log : Log = c.args.log.now in
    let encoded : Encoded = c.args.encoded.now in
    let all : List Reason = reasons encoded.pools encoded.asked in
    let pairs : zip encoded.whys encoded.clauses ≡ all
    = ap (λ (e : Encoded). zip e.whys e.clauses) c.requires.encoded ∙ zip_back all in
    let kept : shown (zip encoded.whys encoded.clauses) log ≡ shown all log = ap (λ (rs : List Reason). shown rs log) pairs in
    let clauses : c.in_ok-whys.field-0.clauses ≡ clauses_of (shown all log) = c.in_ok-whys.ensures.clauses ∙ ap clauses_of kept in
    let places : lists c.in_ok-whys.field-0.places.keys ≡ clauses_of (shown all log) = c.in_ok-whys.ensures.places ∙ clauses in
    let steps : c.in_ok-renumbered.field-0 ≡ map (renumbered (clauses_of (shown all log)) log) log.steps
    = c.in_ok-renumbered.ensures ∙ ap (λ (l : List (List ℤ)). map (renumbered l log) log.steps) places in
    let lines : flat_map (why_line (map (λ (r : Bor PkgRecord). r.now) c.as_slice-2.result.now) c.as_slice-asked.result.now) (map (λ (w : Bor Why). w.now) c.as_slice-3.result.now)
    ≡ flat_map (why_line (records encoded.pools) encoded.asked) (map (λ (r : Reason). r.0) (shown all log))
    = ap (λ (rs : List (Bor PkgRecord)). flat_map (why_line (map (λ (r : Bor PkgRecord). r.now) rs) c.as_slice-asked.result.now) (map (λ (w : Bor Why). w.now) c.as_slice-3.result.now)) c.as_slice-2.ensures.value
    ∙ ap (λ (rs : List PkgRecord). flat_map (why_line rs c.as_slice-asked.result.now) (map (λ (w : Bor Why). w.now) c.as_slice-3.result.now)) c.in_ok-recs.ensures
    ∙ ap (λ (ps : List NamePool). flat_map (why_line (records ps) c.as_slice-asked.result.now) (map (λ (w : Bor Why). w.now) c.as_slice-3.result.now)) c.as_slice.ensures
    ∙ ap (λ (items : List Asked). flat_map (why_line (records encoded.pools) items) (map (λ (w : Bor Why). w.now) c.as_slice-3.result.now)) c.as_slice-asked.ensures
    ∙ ap (λ (ws : List (Bor Why)). flat_map (why_line (records encoded.pools) encoded.asked) (map (λ (w : Bor Why). w.now) ws)) c.as_slice-3.ensures.value
    ∙ ap (λ (ws : List Why). flat_map (why_line (records encoded.pools) encoded.asked) ws) (c.in_ok-whys.ensures.whys ∙ ap (map (λ (r : Reason). r.0)) kept) in
    let first : string_bytes c.write_whys.new.text ≡ codes "unsatisfiable:\n" ++ flat_map (why_line (records encoded.pools) encoded.asked) (map (λ (r : Reason). r.0) (shown all log))
    = c.in_ok-write_whys.ensures
    ∙ ap (λ (t : List ℕ). string_bytes c.in_ok-text.text ++ t) lines
    ∙ ap (λ (t : List ℕ). t ++ flat_map (why_line (records encoded.pools) encoded.asked) (map (λ (r : Reason). r.0) (shown all log))) c.in_ok-text.ensures.ok in
    let last : c.as_str.result.now ≡ log_text (shown_log all log)
    = c.as_str.ensures.value
    ∙ c.in_ok-text_of.ensures
    ∙ ap (λ (l : List (List ℤ)). log_text (record { inputs = l; steps = c.in_ok-renumbered.field-0 })) clauses
    ∙ ap (λ (l : List Step). log_text (record { inputs = clauses_of (shown all log); steps = l })) steps in
    three_pieces (codes "unsatisfiable:\n") (flat_map (why_line (records encoded.pools) encoded.asked) (map (λ (r : Reason). r.0) (shown all log)))
    (codes "refutation:\n") (log_text (shown_log all log))
    (string_bytes c.write_whys.new.text) (string_bytes c.push_str.new.self) (string_bytes c.push_str-2.new.self)
    first c.in_ok-push_str.ensures.bytes
    (c.in_ok-push_str-2.ensures.bytes ∙ ap (λ (t : List ℕ). string_bytes c.push_str.new.self ++ t) last)
