-- What the first bytes of a history say of it.
use Rattle.std.proofs.Common.{inl, inr, ◌≡◌, ℕ, ◌+◌, ◌≤◌, ◌<◌, List, length, take, Option, Some, None, option_map, refl, sym, ap, subst, ◌∙◌, arith}
use Rattle.std.specs.Prelude.{Err, IfSome, Result, String, ◌⊎◌}
use Rattle.std.specs.declared.alloc.Global.{Global}
use Rattle.std.proofs.lemmas.List.{length-take, take_all}
use Rattle.conda_dev.specs.Hosts.{HostState}
use Rattle.conda_dev.specs.Tree.{Tree}
use Rattle.conda_history.specs.Blocks.{IsBadAt, IsHistory}
use Rattle.conda_history.specs.declared.revision.Block.{Block}
use Rattle.conda_path.specs.declared.values.Node.{Node}
use Rattle.conda_cli.specs.declared.fault.Fault.{Fault}
use Rattle.conda_cli.specs.declared.fault.Fault.TheVariants.{NoEnv, LongHistory, BadHistory, Memory}
use Rattle.conda_cli.specs.Answers.{Answer, IsCause, IsGood, IsReportAnswer, IsReported, answer_of, history_in, history_limit, refusal}

-- nothing was found of what is absent
pub absent : (n : ℕ) (text : Option (List ℕ)) → None ≡ option_map (take n) text → IsCause text NoEnv
absent n None h = refl
absent n (Some text) h = cc

-- a text of which no more than the limit was found is what was found
whole : (limit : ℕ) (bytes text : List ℕ) → bytes ≡ take (limit + 1) text → length bytes ≤ limit → text ≡ bytes
whole limit bytes text is short =
    let small : length text ≤ limit = omega (arith, ap length is, length-take (limit + 1) text) in
    sym (is ∙ take_all (limit + 1) text (omega arith))

longer : (limit : ℕ) (bytes text : List ℕ) → bytes ≡ take (limit + 1) text → limit < length bytes → limit < length text
longer limit bytes text is long = omega (arith, ap length is, length-take (limit + 1) text)

-- what is good of what was found, of a text that isn't longer than the limit
pub good_whole : (bytes : List ℕ) (text : Option (List ℕ)) (blocks : List Block)
    → Some bytes ≡ option_map (take (history_limit + 1)) text → length bytes ≤ history_limit → IsHistory bytes blocks → IsGood text blocks
good_whole bytes None blocks is short h = cc
good_whole bytes (Some text) blocks is short h =
    let e : bytes ≡ take (history_limit + 1) text = cc in
    let same : text ≡ bytes = whole history_limit bytes text e short in
    (text, refl, subst (λ t. length t ≤ history_limit) (sym same) short, subst (λ t. IsHistory t blocks) (sym same) h)

-- what is bad of it
pub bad_whole : (bytes : List ℕ) (text : Option (List ℕ)) (line : ℕ)
    → Some bytes ≡ option_map (take (history_limit + 1)) text → length bytes ≤ history_limit → IsBadAt bytes line → IsCause text (BadHistory line)
bad_whole bytes None line is short h = cc
bad_whole bytes (Some text) line is short h =
    let e : bytes ≡ take (history_limit + 1) text = cc in
    let same : text ≡ bytes = whole history_limit bytes text e short in
    inr (line, subst (λ t. length t ≤ history_limit) (sym same) short, subst (λ t. IsBadAt t line) (sym same) h, refl)

-- a text that is longer
pub long : (bytes : List ℕ) (text : Option (List ℕ)) → Some bytes ≡ option_map (take (history_limit + 1)) text
    → history_limit < length bytes → IsCause text LongHistory
long bytes None is more = cc
long bytes (Some text) is more =
    let e : bytes ≡ take (history_limit + 1) text = cc in
    inl (longer history_limit bytes text e more, refl)

-- the report of a history that is good, or want of memory
pub reported : (Is : List Block → Answer → Type 0) (prefix : List ℕ) (text : Option (List ℕ)) (blocks : List Block) (result : Result (String Global) Fault)
    → IsGood text blocks → Is blocks (answer_of result prefix) ⊎ (result ≡ Err Memory)
    → IsReported Is prefix text (answer_of result prefix) ⊎ (answer_of result prefix ≡ refusal Memory prefix)
reported Is prefix text blocks result good (inl is) = inl (inr (blocks, good, is))
reported Is prefix text blocks result good (inr memory) = inr (ap (λ r. answer_of r prefix) memory)

-- why there is none, or want of memory
pub refused : (Is : List Block → Answer → Type 0) (prefix : List ℕ) (text : Option (List ℕ)) (fault : Fault)
    → IsCause text fault ⊎ (fault ≡ Memory) → IsReported Is prefix text (refusal fault prefix) ⊎ (refusal fault prefix ≡ refusal Memory prefix)
refused Is prefix text fault (inl cause) = inl (inl (fault, cause, refl))
refused Is prefix text fault (inr memory) = inr (ap (λ f. refusal f prefix) memory)

read_text : (n : ℕ) (read : Option Node) → IfSome read (λ node. length node.bytes ≤ n)
    → option_map (λ node. node.bytes) read ≡ option_map (take n) (option_map (λ node. node.bytes) read)
read_text n None short = refl
read_text n (Some node) short = ap Some (sym (take_all n node.bytes short))

-- the answer of what was read is the tree's, where it is told, or that there was no memory
pub answer_told : (Is : List Block → Answer → Type 0) (told : Option Tree) (prefix : List ℕ) (before now : HostState) (read : Option Node) (answer : Answer)
    → before.told prefix ≡ told
    → IfSome read (λ node. length node.bytes ≤ history_limit + 1)
    → IfSome told (λ tree. option_map (λ node. node.bytes) read ≡ option_map (take (history_limit + 1)) (history_in tree))
    → ((text : Option (List ℕ)) → option_map (λ node. node.bytes) read ≡ option_map (take (history_limit + 1)) text
    → IsReported Is prefix text answer ⊎ (answer ≡ refusal Memory prefix))
    → IsReportAnswer Is prefix before now answer
answer_told Is None prefix before now read answer is short found answers =
    let text : Option (List ℕ) = option_map (λ node. node.bytes) read in
    elim (answers text (read_text (history_limit + 1) read short)) as (λ _. IsReportAnswer Is prefix before now answer) [
      | inl lists ↦ inl (text, rw is tt, lists)
      | inr memory ↦ inr (Memory, tt, memory)
    ]
answer_told Is (Some tree) prefix before now read answer is short found answers =
    elim (answers (history_in tree) found) as (λ _. IsReportAnswer Is prefix before now answer) [
      | inl lists ↦ inl (history_in tree, rw is refl, lists)
      | inr memory ↦ inr (Memory, tt, memory)
    ]
