use Rattle.std.specs.Option.{ok_or}
use Rattle.std.proofs.Common.{ap, sym, ◌∙◌, true≢false}
use Rattle.conda_json.specs.declared.error.JsonErr.{JsonErr}
use Rattle.conda_json.proofs.JsonLemmas.{json_of-read, json_of-refused, read-ascends}
use Rattle.conda_json.proofs.text.parse.Goals as goal

pub returns-in-Ok-clause-read : goal.returns-in-Ok-clause-read
returns-in-Ok-clause-read c = ap (λ meant. ok_or meant JsonErr.BadJson) (json_of-read _ _ c.in-Ok.ensures.ok.0 c.in-Ok.ensures.ok.1)

pub returns-in-Ok-clause-keys_ascend : goal.returns-in-Ok-clause-keys_ascend
returns-in-Ok-clause-keys_ascend c = read-ascends c.args.bytes.now _ c.in-Ok.ensures.ok.1

pub returns-else-is_memory-clause-read : goal.returns-else-is_memory-clause-read
returns-else-is_memory-clause-read c = ap (λ meant. ok_or meant JsonErr.BadJson)
    (json_of-refused c.args.bytes.now (c.in-Err.ensures.err (λ lacks. true≢false (sym (c.is_memory.ensures.1 lacks) ∙ c.if-is_memory.false))))

pub returns-else-is_memory-clause-refused : goal.returns-else-is_memory-clause-refused
returns-else-is_memory-clause-refused c =
    λ _. json_of-refused c.args.bytes.now (c.in-Err.ensures.err (λ lacks. true≢false (sym (c.is_memory.ensures.1 lacks) ∙ c.if-is_memory.false)))
