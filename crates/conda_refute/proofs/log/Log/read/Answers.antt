use Rattle.std.proofs.lemmas.Result.{IfOk-weaker}
use Rattle.conda_refute.proofs.BadLines.{answer_bad}
use Rattle.conda_refute.proofs.ReadBack.{only_answer}
use Rattle.conda_refute.proofs.Shown.{answer_shown}
use Rattle.conda_refute.proofs.log.Log.read.Goals as goal

pub returns-clause-ok : goal.returns-clause-ok
returns-clause-ok c =
    IfOk-weaker c.read.result _ _ (λ log h. h.shows) (answer_shown c.args.text.now c.read.result (rw c.as_bytes.ensures.value at c.read.ensures))

pub returns-clause-numbers : goal.returns-clause-numbers
returns-clause-numbers c =
    IfOk-weaker c.read.result _ _ (λ log h. h.numbers) (answer_shown c.args.text.now c.read.result (rw c.as_bytes.ensures.value at c.read.ensures))

pub returns-clause-only : goal.returns-clause-only
returns-clause-only c = λ log is same.
    only_answer c.args.text.now c.read.result log (rw c.as_bytes.ensures.value at c.read.ensures) is same

pub returns-clause-bad : goal.returns-clause-bad
returns-clause-bad c = answer_bad c.args.text.now c.read.result (rw c.as_bytes.ensures.value at c.read.ensures)
