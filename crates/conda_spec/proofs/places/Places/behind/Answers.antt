use Rattle.std.proofs.Common.{◌≡◌, ◌≤◌, ◌<◌, ◌+◌, ℕ, List, refl, length, get_or, unwrap_or, sym, ap, ◌∙◌, arith}
use Rattle.std.specs.List.{slice_get}
use Rattle.std.proofs.lemmas.Option.{slice_get_past, slice_get-get_or}
use Rattle.conda_spec.proofs.places.Places.behind.Goals as goal

-- behind the last place
past : (xs : List ℕ) (i end : ℕ) → length xs ≤ i → unwrap_or (slice_get xs i) end ≡ end
past xs i end h = rw (slice_get_past xs i h) refl

-- one of the places
within : (xs : List ℕ) (i d end : ℕ) → i < length xs → get_or xs i d ≡ unwrap_or (slice_get xs i) end
within xs i d end h = rw (slice_get-get_or xs i d h) refl

pub overflow_add-result-else-i-count : goal.overflow_add-result-else-i-count
overflow_add-result-else-i-count c =
    let places : List ℕ = c.args.self.now.places.items in
    let short : length places ≤ c.args.start + c.args.more =
    omega (arith, c.if-i-count.false, c.saturating_add-i.ensures, c.len-count.ensures, ap length c.as_slice-places.ensures.value) in
    let fits = c.args.self.now.fits (c.args.start + c.args.more) in
    omega (arith, rw (past places (c.args.start + c.args.more) c.args.self.now.end short) at fits)

pub returns-then-i-count : goal.returns-then-i-count
returns-then-i-count c =
    let same : c.saturating_add-i.result ≡ c.args.start + c.args.more =
    omega (arith, c.if-i-count.true, c.len-count.type_inv, c.saturating_add-i.ensures) in
    let places : List ℕ = c.args.self.now.places.items in
    let inside : c.args.start + c.args.more < length places = omega (arith, same, c.if-i-count.true, c.len-count.ensures) in
    ap (λ n. c.args.self.now.at + n)
    (ap (λ xs. get_or xs c.saturating_add-i.result 0) c.as_slice-places.ensures.value
    ∙ ap (λ k. get_or places k 0) same
    ∙ within places (c.args.start + c.args.more) 0 c.args.self.now.end inside)

pub returns-else-i-count : goal.returns-else-i-count
returns-else-i-count c =
    let places : List ℕ = c.args.self.now.places.items in
    let short : length places ≤ c.args.start + c.args.more =
    omega (arith, c.if-i-count.false, c.saturating_add-i.ensures, c.len-count.ensures, ap length c.as_slice-places.ensures.value) in
    sym (ap (λ n. c.args.self.now.at + n) (past places (c.args.start + c.args.more) c.args.self.now.end short))
