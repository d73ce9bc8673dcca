use Rattle.std.proofs.Common.{◌≡◌, ◌+◌, ◌++◌, ◌∷◌, [], ap, ◌∙◌, arith, length, rules, length-append}
use Rattle.conda_version.specs.declared.components.Span.{Span}
use Rattle.conda_version.specs.Spans.{cut}
use Rattle.conda_version.proofs.SpanLemmas.{cut_of_push}
use Rattle.conda_version.proofs.components.Components.add.Goals as goal

pub returns-clause-ok : goal.returns-clause-ok
returns-clause-ok c =
    let more = c.args.runs.now.items in
    let old = c.self.inside in
    let span : Span = record { start = c.len-start.result; end = c.len-end.result } in
    let appended : c.append.new.self.items ≡ old.runs.items ++ more = c.in_ok-append.ensures.items in
    let starts : c.len-start.result ≡ length old.runs.items = search rules in
    let ends : c.len-end.result ≡ length old.runs.items + length more =
    omega (arith, ap length appended, length-append old.runs.items more, c.len-end.ensures) in
    let pushed = cut_of_push old.runs.items more old.spans.items span c.self.invariant starts ends in
    ap (λ runs. cut runs c.push.new.self.items) appended ∙ ap (cut (old.runs.items ++ more)) c.in_ok-push.ensures.items ∙ pushed
    ∙ ap (λ front. front ++ more ∷ []) c.self.view_is
