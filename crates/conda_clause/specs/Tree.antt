-- A version clause as a tree, what it says and how it is written: conda's version.py, in this
-- project's profile.
use Rattle.std.specs.Prelude.{◌≡◌, ◌≤◌, ℕ, Bool, ◌&&◌, ◌||◌, ◌+◌, List, [], ◌∷◌, ◌++◌, max}
use Rattle.conda_base.specs.Signs.{bar, close_paren, comma, open_paren}
use Rattle.conda_clause.specs.declared.test.Test.{Test}
use Rattle.conda_clause.specs.Tests.{IsTest, test_holds}

-- how tightly a clause holds together
pub data Rank : Type 0 where
  or : Rank
  and : Rank
  atom : Rank

-- A clause is parts joined by `|`, a part is atoms joined by `,`, and an atom is a test, or a
-- clause in parentheses.
pub data Tree : Rank → Type 0 where
  part : Tree and → Tree or
  either : Tree and → Tree or → Tree or
  single : Tree atom → Tree and
  both : Tree atom → Tree and → Tree and
  test : Test → Tree atom
  parens : Tree or → Tree atom

-- A clause holds for a version where some part of it does, a part where each of its atoms does.
abbrev pub tree_holds : {rank : Rank} → Tree rank → List ℕ → Bool
tree_holds (part p) version = tree_holds p version
tree_holds (either p more) version = tree_holds p version || tree_holds more version
tree_holds (single a) version = tree_holds a version
tree_holds (both a more) version = tree_holds a version && tree_holds more version
tree_holds (test t) version = test_holds t version
tree_holds (parens inside) version = tree_holds inside version

-- a text with this character between two others
abbrev pub Between : (List ℕ → Type 0) → ℕ → (List ℕ → Type 0) → List ℕ → Type 0
Between IsFront joint IsBack text =
    (front : List ℕ) × (back : List ℕ)
    × (text ≡ front ++ joint ∷ back) × IsFront front × IsBack back

-- The text writes the tree.
abbrev pub Writes : {rank : Rank} → Tree rank → List ℕ → Type 0
Writes (part p) text = Writes p text
Writes (either p more) text = Between (Writes p) bar (Writes more) text
Writes (single a) text = Writes a text
Writes (both a more) text = Between (Writes a) comma (Writes more) text
Writes (test t) text = IsTest text t
Writes (parens inside) text =
    (within : List ℕ) × (text ≡ open_paren ∷ within ++ close_paren ∷ []) × Writes inside within

-- how deep its parentheses are nested
abbrev pub nesting : {rank : Rank} → Tree rank → ℕ
nesting (part p) = nesting p
nesting (either p more) = max (nesting p) (nesting more)
nesting (single a) = nesting a
nesting (both a more) = max (nesting a) (nesting more)
nesting (test t) = 0
nesting (parens inside) = nesting inside + 1

-- A version clause: a tree is written so, with parentheses nested at most 32 deep.
abbrev pub IsClause : List ℕ → Type 0
IsClause text = (tree : Tree or) × Writes tree text × (nesting tree ≤ 32)

-- a part of a clause: no `|` stands outside its parentheses
abbrev pub IsPart : List ℕ → Type 0
IsPart text = (tree : Tree and) × Writes tree text × (nesting tree ≤ 32)
