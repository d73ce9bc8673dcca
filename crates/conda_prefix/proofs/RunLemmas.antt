-- Lemmas on the runs of a binary file.
use Rattle.std.proofs.Common.{◌≡◌, ℕ, suc, ◌+◌, ◌-◌, ◌≤◌, ◌<◌, inl, inr, List, [], ◌∷◌, ◌++◌, length, take, drop, replicate, slice_index, refl, ap, sym, subst, ◌∙◌, append_assoc, length-append, length-drop, arith, Some, None}
use Rattle.std.proofs.Math.Seq.{drop-cons, get_or-append_seam}
use Rattle.std.proofs.lemmas.Bool.{cases_order, eq-eqb, eqb-true}
use Rattle.std.proofs.lemmas.List.{take-append-drop, length-take-le, get_or-append-add, get_or-take, get_or-drop, length-replicate}
use Rattle.memchr.specs.Find.{FindsNeedle, IsFirstByte, is_byte}
use Rattle.conda_base.specs.Signs.{nul}
use Rattle.conda_prefix.specs.Text.{CutsInto, joined, IsReplaced}
use Rattle.conda_prefix.specs.Binary.{HasRun, IsFirstRun, Run, padded, Replaces, IsReplacedBinary}

-- where no placeholder occurs no run begins
pub no_run : (placeholder bytes : List ℕ) → FindsNeedle bytes placeholder 0 None → ¬ HasRun placeholder bytes
no_run placeholder bytes none has = none has.0 (omega arith) (let fits = has.1.0.fits in omega arith) has.1.0

-- where no NUL stands behind the first placeholder no run begins
pub no_nul : (placeholder bytes : List ℕ) (start : ℕ) → FindsNeedle bytes placeholder 0 (Some start)
    → IsFirstByte (is_byte nul) (drop (length placeholder) (drop start bytes)) None → ¬ HasRun placeholder bytes
no_nul placeholder bytes start found none has =
    let first : start ≤ has.0 = elim (cases_order has.0 start) as (λ _. start ≤ has.0) [
      | inl same ↦ omega arith
      | inr other ↦ elim other as (λ _. start ≤ has.0) [
        | inl lower ↦ absurd (found.0.before has.0 (omega arith) lower has.1.0)
        | inr higher ↦ omega arith
      ]
    ] in
    let behind : has.0 + length placeholder ≤ has.1.1 = has.1.2 in
    let at : start + (length placeholder + (has.1.1 - (start + length placeholder))) ≡ has.1.1 = omega arith in
    none (has.1.1 - (start + length placeholder)) (omega arith) (omega (arith, length-drop (length placeholder) (drop start bytes), length-drop start bytes, has.1.3))
    (eq-eqb _ nul (get_or-drop (length placeholder) (drop start bytes) (has.1.1 - (start + length placeholder)) 0
    ∙ get_or-drop start bytes (length placeholder + (has.1.1 - (start + length placeholder))) 0 ∙ ap (slice_index bytes) at ∙ has.1.4))

-- bytes that begin with a NUL
from_nul : (bytes : List ℕ) → 0 < length bytes → slice_index bytes 0 ≡ nul → bytes ≡ nul ∷ drop 1 bytes
from_nul bytes some zero = drop-cons bytes 0 0 some ∙ ap (λ b. b ∷ drop 1 bytes) zero

-- the first run ends at the first NUL behind the first placeholder
pub run_at : (placeholder bytes : List ℕ) (start more : ℕ) → FindsNeedle bytes placeholder 0 (Some start)
    → IsFirstByte (is_byte nul) (drop (length placeholder) (drop start bytes)) (Some more)
    → IsFirstRun placeholder bytes (take start bytes) (take (length placeholder + more) (drop start bytes)) (drop 1 (drop (length placeholder + more) (drop start bytes)))
run_at placeholder bytes start more found ends =
    let behind = drop start bytes in
    let room : length placeholder + more < length behind = omega (arith, ends.0.high, length-drop (length placeholder) behind) in
    let wide : length (take (length placeholder + more) behind) ≡ length placeholder + more = length-take-le (length placeholder + more) behind (omega arith) in
    let same : length placeholder + more + 0 ≡ length placeholder + more = omega arith in
    let zero : slice_index (drop (length placeholder + more) behind) 0 ≡ nul =
    get_or-drop (length placeholder + more) behind 0 0 ∙ ap (slice_index behind) same ∙ sym (get_or-drop (length placeholder) behind more 0) ∙ eqb-true _ nul ends.1 in
    let end = from_nul (drop (length placeholder + more) behind) (omega (arith, length-drop (length placeholder + more) behind)) zero in
    record {
      is = sym (take-append-drop start bytes)
          ∙ ap (λ b. take start bytes ++ b) (sym (take-append-drop (length placeholder + more) behind) ∙ ap (λ e. take (length placeholder + more) behind ++ e) end);
      first = subst (λ k. FindsNeedle bytes placeholder 0 (Some k)) (sym (length-take-le start bytes (omega (arith, found.1.fits)))) found;
      whole = omega arith;
      ends = λ k low high zeroed.
          let at : length placeholder + (k - length placeholder) ≡ k = omega arith in
          ends.0.before (k - length placeholder) (omega arith) (omega arith)
          (eq-eqb _ nul (get_or-drop (length placeholder) behind (k - length placeholder) 0 ∙ ap (slice_index behind) at
          ∙ sym (get_or-take (length placeholder + more) behind k 0 (omega arith)) ∙ zeroed));
    }

-- bytes with a first run have a run
pub first_has_run : (placeholder bytes before text rest : List ℕ) → IsFirstRun placeholder bytes before text rest → HasRun placeholder bytes
first_has_run placeholder bytes before text rest run =
    let long : length bytes ≡ length before + (length text + suc (length rest)) = ap length run.is ∙ simp length-append in
    let whole : length placeholder ≤ length text = run.whole in
    let end : slice_index bytes (length before + length text) ≡ nul =
    ap (λ b. slice_index b (length before + length text)) run.is ∙ get_or-append-add before (text ++ nul ∷ rest) (length text) 0 ∙ get_or-append_seam text nul rest 0 in
    (length before, (run.first.1, length before + length text, omega arith, omega arith, end))

-- a rest is shorter
pub shorter_rest : (placeholder bytes before text rest : List ℕ) → IsFirstRun placeholder bytes before text rest → length rest < length bytes
shorter_rest placeholder bytes before text rest run = omega (arith, simp length-append at (ap length run.is))

-- ---- what is made of the runs

-- what was made so far, and what is made of what is left, is what is made of the bytes
abbrev pub GoesOn : List ℕ → List ℕ → List ℕ → List ℕ → List ℕ → Type 0
GoesOn placeholder prefix bytes made rest =
    (runs : List Run) (later : List ℕ) → Replaces placeholder prefix runs rest later
    → (all : List Run) × Replaces placeholder prefix all bytes (made ++ later)

pub goes_on : (placeholder prefix bytes : List ℕ) → GoesOn placeholder prefix bytes [] bytes
goes_on placeholder prefix bytes runs later replaces = (runs, replaces)

regroup : (made before text nuls later : List ℕ) → (((made ++ before) ++ (text ++ nuls)) ++ nul ∷ []) ++ later ≡ made ++ (before ++ ((text ++ nuls) ++ nul ∷ later))
regroup made before text nuls later = simp append_assoc

-- the same behind one more run
pub goes_on_behind : (placeholder prefix bytes made rest before text left written : List ℕ) → GoesOn placeholder prefix bytes made rest
    → IsFirstRun placeholder rest before text left → IsReplaced placeholder prefix text written
    → GoesOn placeholder prefix bytes (((made ++ before) ++ (written ++ replicate (length text - length written) nul)) ++ nul ∷ []) left
goes_on_behind placeholder prefix bytes made rest before text left written h here replaced runs later replaces =
    let run : Run = record { before = before; text = text; made = written } in
    let whole = h (run ∷ runs) (before ++ (padded run ++ nul ∷ later)) (left, later, here, replaced, refl, replaces) in
    (whole.0, subst (Replaces placeholder prefix whole.0 bytes) (sym (regroup made before written (replicate (length text - length written) nul) later)) whole.1)

-- where no run is left
pub all_replaced : (placeholder prefix bytes made rest : List ℕ) → GoesOn placeholder prefix bytes made rest → ¬ HasRun placeholder rest
    → IsReplacedBinary placeholder prefix bytes (made ++ rest)
all_replaced placeholder prefix bytes made rest h none = h [] rest (none, refl)

-- bytes without a run stay
pub none_stays : (placeholder prefix bytes : List ℕ) → ¬ HasRun placeholder bytes → IsReplacedBinary placeholder prefix bytes bytes
none_stays placeholder prefix bytes none = ([], (none, refl))

-- ---- the length

-- a prefix that isn't longer makes a text no longer
shorter : (placeholder prefix : List ℕ) (pieces : List (List ℕ)) (last bytes : List ℕ) → length prefix ≤ length placeholder
    → CutsInto placeholder pieces last bytes → length (joined prefix pieces last) ≤ length bytes
shorter placeholder prefix [] last bytes low cut = let e = ap length cut.0 in omega arith
shorter placeholder prefix (piece ∷ pieces) last bytes low cut =
    let more : length (joined prefix pieces last) ≤ length cut.0 = shorter placeholder prefix pieces last cut.0 low cut.2 in
    let whole : length bytes ≡ length piece + (length placeholder + length cut.0) = ap length cut.1.is ∙ simp length-append in
    let made : length (joined prefix (piece ∷ pieces) last) ≡ (length piece + length prefix) + length (joined prefix pieces last) =
    ap length (append_assoc (piece ++ prefix) _ last) ∙ simp length-append in
    omega arith

-- the length stays
same_length : (placeholder prefix : List ℕ) (runs : List Run) (bytes made : List ℕ) → length prefix ≤ length placeholder
    → Replaces placeholder prefix runs bytes made → length made ≡ length bytes
same_length placeholder prefix [] bytes made low replaces = ap length replaces.1
same_length placeholder prefix (run ∷ runs) bytes made low replaces =
    let more : length replaces.1 ≡ length replaces.0 = same_length placeholder prefix runs replaces.0 replaces.1 low replaces.5 in
    let fits : length run.made ≤ length run.text = subst (λ m. length m ≤ length run.text) (sym replaces.3.is)
    (shorter placeholder prefix replaces.3.pieces replaces.3.last run.text low replaces.3.cut) in
    let whole : length bytes ≡ length run.before + (length run.text + suc (length replaces.0)) = ap length replaces.2.is ∙ simp length-append in
    let now : length made ≡ length run.before + ((length run.made + (length run.text - length run.made)) + suc (length replaces.1)) =
    ap length replaces.4 ∙ simp (length-append, length-replicate) in
    omega arith

-- what is made has the length of the bytes
pub length_stays : (placeholder prefix bytes made : List ℕ) → length prefix ≤ length placeholder → IsReplacedBinary placeholder prefix bytes made
    → length made ≡ length bytes
length_stays placeholder prefix bytes made low replaced = same_length placeholder prefix replaced.0 bytes made low replaced.1
