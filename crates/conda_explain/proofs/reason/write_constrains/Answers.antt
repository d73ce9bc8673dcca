use Rattle.std.proofs.Common.{◌≡◌, ◌++◌, List, ap, ◌∙◌}
use Rattle.std.specs.Prelude.{codes, string_bytes}
use Rattle.std.proofs.lemmas.Result.{on_ok_weaker}
use Rattle.conda_spec.specs.Parts.{Parts}
use Rattle.conda_explain.specs.Report.{entry_text}
use Rattle.conda_explain.proofs.Pieces.{three_pieces}
use Rattle.conda_explain.proofs.reason.write_constrains.Goals as goal

pub returns : goal.returns
returns c =
    let first : string_bytes c.push_str.new.self ≡ string_bytes c.args.text.now ++ c.args.pkg.now.dist
    = c.in_ok-push_str.ensures.bytes ∙ ap (λ l. string_bytes c.args.text.now ++ l) c.text.ensures.same in
    on_ok_weaker c.write_entry.result
    (λ (e : string_bytes c.write_entry.new.text ≡ string_bytes c.push_str-2.new.self ++ entry_text c.as_slice.result.now c.args.entry).
    three_pieces (string_bytes c.args.text.now) c.args.pkg.now.dist (codes " constrains ") (entry_text c.args.pkg.now.constrains c.args.entry)
    (string_bytes c.push_str.new.self) (string_bytes c.push_str-2.new.self) (string_bytes c.write_entry.new.text)
    first c.in_ok-push_str-2.ensures.bytes
    (e ∙ ap (λ (l : List Parts). string_bytes c.push_str-2.new.self ++ entry_text l c.args.entry) c.as_slice.ensures))
    c.write_entry.ensures
