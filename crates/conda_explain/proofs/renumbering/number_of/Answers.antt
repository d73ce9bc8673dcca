use Rattle.std.proofs.Common.{◌≡◌, ℕ, ◌+◌, ℤ, List, Global, Option, Vec, ap, sym, unwrap_or, ◌∙◌}
use Rattle.std.specs.List.{position, position_or_len}
use Rattle.conda_explain.specs.Shown.{is_clause}
use Rattle.conda_explain.proofs.Keys.{lists, place_unwrapped, position-lists}
use Rattle.conda_explain.proofs.renumbering.number_of.Goals as goal

pub returns : goal.returns
returns c =
    let ks : List (Vec ℤ Global) = c.args.places.now.keys in
    let literals : List ℤ = c.in_ok-literals.literals.items in
    let at : c.unwrap_or-at.result ≡ position_or_len (λ (k : Vec ℤ Global). is_clause literals k.items) ks
    = c.unwrap_or-at.ensures
    ∙ ap (λ (o : Option ℕ). unwrap_or o c.len-count.result) c.get_index_of.ensures.index
    ∙ ap (λ (n : ℕ). unwrap_or (position (λ (k : Vec ℤ Global). is_clause literals k.items) ks) n) c.len-count.ensures.len
    ∙ place_unwrapped (λ (k : Vec ℤ Global). is_clause literals k.items) ks in
    let same : literals ≡ c.args.input.now = c.in_ok-literals.ensures in
    ap (λ (n : ℕ). n + 1) (at ∙ sym (position-lists ks literals) ∙ ap (λ (l : List ℤ). position_or_len (is_clause l) (lists ks)) same)
