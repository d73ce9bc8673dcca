-- What the first bytes of a history say of it.
use Rattle.std.proofs.Common.{◌≡◌, ℕ, List, Option, Some, None, option_map, take, refl, ap, ◌∙◌}
use Rattle.std.specs.Prelude.{IfSome, IfOk, Result, Ok, Err, codes}
use Rattle.std.specs.FinMap as map
use Rattle.conda_path.specs.declared.values.Node.{Node}
use Rattle.conda_dev.specs.Tree.{Tree, cut_node}
use Rattle.conda_cli.specs.Answers.{history_in}

bytes_cut : (max : ℕ) (at : Option Node)
    → option_map (λ node. node.bytes) (option_map (cut_node max) at) ≡ option_map (take max) (option_map (λ node. node.bytes) at)
bytes_cut max None = refl
bytes_cut max (Some node) = refl

-- a node that is the first part of the one at the history's path has the first bytes of the history
pub found_bytes : (told : Option Tree) (path : List ℕ) (max : ℕ) (read : Option Node) → path ≡ codes "conda-meta/history"
    → IfSome told (λ tree. read ≡ option_map (cut_node max) (map.get tree path))
    → IfSome told (λ tree. option_map (λ node. node.bytes) read ≡ option_map (take max) (history_in tree))
found_bytes None path max read is h = tt
found_bytes (Some tree) path max read is h =
    ap (option_map (λ node. node.bytes)) (h ∙ ap (λ p. option_map (cut_node max) (map.get tree p)) is)
    ∙ bytes_cut max (map.get tree (codes "conda-meta/history"))

-- the same of each answer that has one
pub found_in_all : {E : Type 0} (r : Result (Option Node) E) (told : Option Tree) (path : List ℕ) (max : ℕ)
    → path ≡ codes "conda-meta/history"
    → IfOk r (λ read. IfSome told (λ tree. read ≡ option_map (cut_node max) (map.get tree path)))
    → IfOk r (λ read. IfSome told (λ tree. option_map (λ node. node.bytes) read ≡ option_map (take max) (history_in tree)))
found_in_all (Ok read) told path max is h = found_bytes told path max read is h
found_in_all (Err e) told path max is h = tt
