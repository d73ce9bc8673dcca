-- The tree of a prefix, told or not, and what a call makes of it. This project's own.
use Rattle.std.specs.Prelude.{◌≡◌, ℕ, zero, suc, List, ◌++◌, [], ◌∷◌, take, Option, Some, None, option_map, option_and_then, IfSome, IsSome, refl}
use Rattle.std.specs.Coded.{Coded, code_by, coded×, coded_ℕ, coded_list}
use Rattle.std.specs.Ordering.{nat_cmp}
use Rattle.std.specs.Cmp.Lexicographic.{slice_cmp}
use Rattle.std.specs.FinMap as map
use Rattle.conda_path.specs.declared.values.Kind.{Kind}
use Rattle.conda_path.specs.declared.values.Kind.TheVariants.{File, Exec, Soft}
use Rattle.conda_path.specs.declared.values.Node.{Node}

-- a map from paths to nodes, in the order of the paths' bytes
abbrev pub Tree : Type 0
Tree = map.FinMap (slice_cmp nat_cmp) Node

-- the node with at most its first bytes
abbrev pub cut_node : ℕ → Node → Node
cut_node max node = record { kind = node.kind; bytes = take max node.bytes }

-- ---- what may be asked, where the tree is told

-- nothing stands at the path
abbrev pub IsFree : Option Tree → List ℕ → Type 0
IsFree told path = IfSome told (λ tree. map.get tree path ≡ None)

-- a node stands at the first path, and nothing at the second
abbrev pub CanMove : Option Tree → List ℕ → List ℕ → Type 0
CanMove told from to = IfSome told (λ tree. IsSome (map.get tree from) × (map.get tree to ≡ None))

-- ---- what a call makes of the tree, where it is told

-- the node stands at the path, whatever was there
abbrev pub with_node : Option Tree → List ℕ → Node → Option Tree
with_node told path node = option_map (λ tree. map.insert tree path node) told

-- nothing stands at the path
abbrev pub without : Option Tree → List ℕ → Option Tree
without told path = option_map (λ tree. map.remove tree path) told

-- the tree, with a node at the path if there is one
abbrev pub with_found : Tree → List ℕ → Option Node → Tree
with_found tree path None = tree
with_found tree path (Some node) = map.insert tree path node

-- what stood at the first path stands at the second
abbrev pub move : Tree → List ℕ → List ℕ → Tree
move tree from to = with_found (map.remove tree from) to (map.get tree from)

abbrev pub moved : Option Tree → List ℕ → List ℕ → Option Tree
moved told from to = option_map (λ tree. move tree from to) told

-- ---- several trees

-- two trees as one; at a path of both the first one's node
abbrev pub joined : Tree → Tree → Tree
joined first second = map.from_entries (map.entries first ++ map.entries second)

-- what several lanes tell together: all of their trees as one, where each tells its own
abbrev pub together : List (Option Tree) → Option Tree
together [] = Some map.empty
together (told ∷ []) = told
together (told ∷ next ∷ rest) =
    option_and_then (λ first. option_map (λ second. joined first second) (together (next ∷ rest))) told

-- ---- the code of a tree, for its use in a model

abbrev pub kind_number : Kind → ℕ
kind_number File = 0
kind_number Exec = 1
kind_number Soft = 2

abbrev pub number_kind : ℕ → Kind
number_kind zero = File
number_kind (suc zero) = Exec
number_kind (suc (suc n)) = Soft

abbrev pub kind_law : (kind : Kind) → number_kind (kind_number kind) ≡ kind
kind_law File = refl
kind_law Exec = refl
kind_law Soft = refl

abbrev pub coded_node : Coded Node
coded_node =
    code_by (ℕ × List ℕ) (coded× coded_ℕ (coded_list coded_ℕ)) (λ n. (kind_number n.kind, n.bytes)) (λ p. record { kind = number_kind p.0; bytes = p.1 }) (λ n i. record { kind = kind_law n.kind i; bytes = n.bytes })

abbrev pub coded_tree : Coded Tree
coded_tree = map.code (coded_list coded_ℕ) coded_node
