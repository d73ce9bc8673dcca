use Rattle.std.proofs.Common.{◌≡◌, ◌++◌, ◌∷◌, [], List, ℕ, ap, false, refl, sym, ◌∙◌}
use Rattle.std.specs.Prelude.{◌&&◌, ◌||◌}
use Rattle.conda_base.specs.Signs.{bar, close_paren, comma, open_paren}
use Rattle.conda_clause.specs.declared.truth.Pass.TheVariants.{Read}
use Rattle.conda_clause.specs.Tree.{IsClause, IsPart, Tree, Writes, tree_holds}
use Rattle.conda_clause.specs.Tree.Rank.{or}
use Rattle.conda_clause.specs.Tree.Tree.{parens, part, single, test}
use Rattle.conda_clause.specs.Truth.{clause_holds, tokens_true}
use Rattle.conda_clause.proofs.AlikeLemmas.{clause_alike}
use Rattle.conda_clause.proofs.SpellLemmas.{writes_means}
use Rattle.conda_clause.proofs.TestLemmas.{NoDotEnd}
use Rattle.conda_clause.proofs.TruthLemmas.{both_holds, both_of, both_writes, either_holds, either_of, either_writes, tree_true}
use Rattle.conda_clause.proofs.laws.truth_laws.Goals as goal

tree : (law : NoDotEnd) (text : List ℕ) (t : Tree or) → Writes t text → (version : List ℕ)
    → clause_holds text version ≡ tree_holds t version
tree law text t written version = ap (tokens_true version false Read) (writes_means law t text written).tokens ∙ tree_true t version

either : (law : NoDotEnd) (a b version : List ℕ) → IsClause a → IsClause b
    → clause_holds (a ++ bar ∷ b) version ≡ (clause_holds a version || clause_holds b version)
either law a b version h k =
    tree law (a ++ bar ∷ b) (either_of h.0 k.0) (either_writes h.0 k.0 a b h.1 k.1) version ∙ either_holds h.0 k.0 version
    ∙ sym (ap (λ q. q || clause_holds b version) (tree law a h.0 h.1 version)
    ∙ ap (λ q. tree_holds h.0 version || q) (tree law b k.0 k.1 version))

both : (law : NoDotEnd) (a b version : List ℕ) → IsPart a → IsPart b
    → clause_holds (a ++ comma ∷ b) version ≡ (clause_holds a version && clause_holds b version)
both law a b version h k =
    tree law (a ++ comma ∷ b) (part (both_of h.0 k.0)) (both_writes h.0 k.0 a b h.1 k.1) version ∙ both_holds h.0 k.0 version
    ∙ sym (ap (λ q. q && clause_holds b version) (tree law a (part h.0) h.1 version)
    ∙ ap (λ q. tree_holds h.0 version && q) (tree law b (part k.0) k.1 version))

pub returns : goal.returns
returns c =
    let law = c.grammar_laws.ensures.end in
    record {
      tree = tree law;
      either = either law;
      both = both law;
      parens = λ a version h.
          tree law (open_paren ∷ a ++ close_paren ∷ []) (part (single (parens h.0))) (a, refl, h.1) version
          ∙ sym (tree law a h.0 h.1 version);
      alone = λ text t h version. tree law text (part (single (test t))) h version;
      alike = λ text x y h.
          clause_alike x y (record {
            order = λ w. c.order_laws.ensures.equals x y w h;
            begin = λ w. c.order_laws.ensures.alike x y w h;
          }) text;
    }
