-- One turn of the reader of lines.
use Rattle.std.proofs.Common.{◌≡◌, ℕ, ◌+◌, List, [], ◌∷◌, refl, sym, ap, ◌∙◌, subst}
use Rattle.std.specs.Prelude.{Result, Ok, Err, IfSome}
use Rattle.conda_base.specs.Reads.{Gives, Read, ◌>>=◌}
use Rattle.conda_history.specs.declared.read.Reading.{Reading}
use Rattle.conda_history.specs.declared.revision.Block.{Block}
use Rattle.conda_history.specs.declared.revision.History.{History}
use Rattle.conda_history.specs.declared.revision.HistoryErr.{HistoryErr}
use Rattle.conda_history.specs.declared.revision.HistoryErr.TheVariants.{BadHistory, Memory}
use Rattle.conda_history.specs.Faults.{history_fault_of}
use Rattle.conda_history.specs.Reading.{blocks_read, history_read, line_read, lines_read}
use Rattle.conda_history.specs.Says.{lines_of}

-- what follows a line that was read
pub goes : (k : ℕ) (r next : Reading) (text line after : List ℕ) → lines_of text ≡ line ∷ lines_of after → line_read k r line ≡ Ok next
    → lines_read k r (lines_of text) ≡ lines_read (k + 1) next (lines_of after)
goes k r next text line after cut h =
    ap (lines_read k r) cut ∙ ap (λ o. o >>= (λ n. lines_read (k + 1) n (lines_of after))) h

-- a line that isn't read is what all come to
pub stops : (e : HistoryErr) (k : ℕ) (r : Reading) (text line after : List ℕ) (all : Read Reading ℕ) → lines_of text ≡ line ∷ lines_of after
    → lines_read k r (lines_of text) ≡ all → IfSome (history_fault_of e) (λ f. line_read k r line ≡ Err f) → IfSome (history_fault_of e) (λ f. all ≡ Err f)
stops (BadHistory n) k r text line after all cut whole h =
    sym whole ∙ ap (lines_read k r) cut ∙ ap (λ o. o >>= (λ n. lines_read (k + 1) n (lines_of after))) h
stops Memory k r text line after all cut whole h = tt

same_read : (o : Read Reading ℕ) → (o >>= (λ n. (let m : Read Reading ℕ = Ok n in m))) ≡ o
same_read (Ok n) = refl
same_read (Err e) = refl

-- the last line
pub ends : (result : Result Reading HistoryErr) (k : ℕ) (r : Reading) (text : List ℕ) (all : Read Reading ℕ) → lines_of text ≡ text ∷ []
    → lines_read k r (lines_of text) ≡ all → Gives history_fault_of result (line_read k r text) → Gives history_fault_of result all
ends result k r text all cut whole h =
    subst (Gives history_fault_of result) (sym (same_read (line_read k r text)) ∙ sym (ap (lines_read k r) cut) ∙ whole) h

-- blocks as a history
pub history_ok : (bytes : List ℕ) (blocks : List Block) → blocks_read bytes ≡ Ok blocks → history_read bytes ≡ Ok (record { blocks = blocks })
history_ok bytes blocks h = ap (λ b. b >>= (λ bs. (let m : Read History ℕ = Ok (record { blocks = bs }) in m))) h
