-- Version clauses and builds as the normal form writes them behind a name.
use Rattle.std.proofs.Common.{◌≡◌, ◌≢◌, ◌==◌, ℕ, subst, true≢false, ◌-◌, Bool, true, false, length, List, [], ◌∷◌, ◌++◌, map, get_or, refl, sym, ap, ◌∙◌, arith, append-nil, Option, Some, None}
use Rattle.std.proofs.lemmas.Bool.{eqb-true}
use Rattle.std.proofs.lemmas.Bool.Decides.{nat_tests}
use Rattle.std.proofs.lemmas.Option.{slice_get-get_or}
use Rattle.std.specs.Cmp.{first_so, second_so}
use Rattle.std.specs.Prelude.{codes, IfSome, IsSome}
use Rattle.std.specs.Char.{to_ascii_lowercase}
use Rattle.std.specs.List.{list_all, slice_get}
use Rattle.std.specs.Option.{option_map_or, option_or}
use Rattle.conda_base.specs.Signs.{bar, colon, close_bracket, comma, equals, greater, less, space}
use Rattle.conda_base.specs.Texts.{IsFreeOf, begins_with, ends_with, is_byte}
use Rattle.conda_clause.specs.Clause.{beside_build, clause_fault, is_clause_char}
use Rattle.conda_clause.specs.Kept.{drops_behind, is_joint, kept, last_of}
use Rattle.conda_spec.specs.Grammar.{Follows, IsNamed, IsClauseOf, ends_here}
use Rattle.conda_spec.specs.Grammar.Follows.{end, spaced}
use Rattle.conda_spec.specs.Grammar.IsNamed.{named}
use Rattle.conda_spec.specs.Grammar.IsWords.{alone, with_build}
use Rattle.conda_clause.specs.Spaces.{is_one_of}
use Rattle.conda_spec.specs.Parts.{bars_build, ends_name, is_name_char, is_sign_or_equals, IsFreeWord, NoneOf}
use Rattle.conda_spec.specs.Text.{word_text}
use Rattle.conda_spec.proofs.LowerLaws.{Laws}
use Rattle.conda_spec.proofs.PieceLemmas.{AllOf, fewer, none_in_both, none_of_all}
use Rattle.conda_spec.proofs.KeptLemmas.{is_space, kept_word, kept_words}
use Rattle.conda_spec.proofs.EqualLemmas.{equal_moves, is_joint_or_equals}

-- a character that no version clause holds
abbrev pub bars_clause : ℕ → Bool
bars_clause b = is_one_of (codes " :[]") b

-- a version clause as the normal form writes it: no space at its ends is dropped
pub record IsClauseWord (clause : List ℕ) : Type 0 where
  pub first : ℕ
  pub others : List ℕ
  pub whole : clause ≡ first ∷ others
  pub last : ℕ
  pub ends : last_of None clause ≡ Some last
  pub stays : drops_behind last ≡ false
  pub begins : is_joint first ≡ false
  pub chars : NoneOf bars_clause clause
  pub writes : IsClauseOf clause clause

clause_char : (b : ℕ) → is_clause_char b ≡ true → bars_clause b ≡ false
clause_char b h = grind (arith, nat_tests)

all_none : (p q : ℕ → Bool) → ((b : ℕ) → p b ≡ true → q b ≡ false) → (text : List ℕ) → list_all p text ≡ true → NoneOf q text
all_none p q apart [] h = tt
all_none p q apart (b ∷ bs) h = (apart b (first_so (p b) (list_all p bs) h), all_none p q apart bs (second_so (p b) (list_all p bs) h))

-- by the laws of version clauses
clause_word : (l : Laws) (clause : List ℕ) → clause_fault clause ≡ None → map to_ascii_lowercase clause ≡ clause → IsClauseWord clause
clause_word l [] good lowered = let some = l.some [] good in absurd (omega (arith, some))
clause_word l (b ∷ bs) good lowered =
    let text : List ℕ = b ∷ bs in
    let n : ℕ = length text - 1 in
    let at : slice_get text n ≡ Some (get_or text n 0) = slice_get-get_or text n 0 (omega arith) in
    let back = l.back text good in
    record {
      first = b;
      others = bs;
      whole = refl;
      last = get_or text n 0;
      ends = ap (λ o. option_or o None) at;
      stays = rw (ends at comma back.0, ends at bar back.1, ends at less back.2, ends at greater back.3, ends at equals back.4) refl;
      begins = by (b == comma) refl (b == bar) refl;
      chars = all_none is_clause_char bars_clause clause_char text (l.chars text good);
      writes = (sym lowered, l.clause text good);
    }
  where
    ends : slice_get (b ∷ bs) (length (b ∷ bs) - 1) ≡ Some (get_or (b ∷ bs) (length (b ∷ bs) - 1) 0) → (c : ℕ)
        → ends_with c (b ∷ bs) ≡ false → (get_or (b ∷ bs) (length (b ∷ bs) - 1) 0 == c) ≡ false
    ends at c h = sym (ap (λ o. option_map_or (λ e. e == c) o false) at) ∙ h

    by : (k : Bool) → (b == comma) ≡ k → (m : Bool) → (b == bar) ≡ m → is_joint b ≡ false
    by true e m f = absurd ((l.front (b ∷ bs) good bs).0 (ap (λ c. c ∷ bs) (eqb-true b comma e)))
    by false e true f = absurd ((l.front (b ∷ bs) good bs).1 (ap (λ c. c ∷ bs) (eqb-true b bar f)))
    by false e false f = rw (e, f) refl

joint_is_sign : (c : ℕ) → is_sign_or_equals c ≡ false → is_joint_or_equals c ≡ false
joint_is_sign c h = grind (arith, nat_tests)

-- what stands beside a build isn't `=v`
beside_law : (clause : List ℕ) → clause_fault clause ≡ None → beside_build clause ≡ clause → (v : List ℕ) → NoneOf is_sign_or_equals v
    → clause ≢ equals ∷ v
beside_law clause good fixed v free e =
    equal_moves v (fewer is_sign_or_equals is_joint_or_equals joint_is_sign v free) (ap clause_fault (sym e) ∙ good)
    (ap beside_build (sym e) ∙ fixed ∙ e)

-- What may follow a name in the normal form.
unfoldable pub CanFollow : Option (List ℕ) → Option (List ℕ) → Type 0
CanFollow None None = Unit {0}
CanFollow None (Some build) = ⊥
CanFollow (Some clause) None = IsClauseWord clause
CanFollow (Some clause) (Some build) =
    IsClauseWord clause × ((v : List ℕ) → NoneOf is_sign_or_equals v → clause ≢ equals ∷ v) × IsFreeWord bars_build build

-- by the invariant of a specification
pub follows : (l : Laws) (version build : Option (List ℕ))
    → IfSome version (λ clause. (clause_fault clause ≡ None) × (map to_ascii_lowercase clause ≡ clause))
    → IfSome build (IsFreeWord bars_build) → (IsSome build → IfSome version (λ clause. beside_build clause ≡ clause) × IsSome version)
    → CanFollow version build
unfolding CanFollow
follows l None None good free together = tt
follows l None (Some build) good free together = absurd (true≢false (sym ((together refl).1)))
follows l (Some clause) None good free together = clause_word l clause good.0 good.1
follows l (Some clause) (Some build) good free together =
    (clause_word l clause good.0 good.1, beside_law clause good.0 ((together refl).0), free)

-- Which characters these hold.

pub no_space_in_build : (b : ℕ) → bars_build b ≡ false → is_space b ≡ false
no_space_in_build b h = grind (arith, nat_tests)

no_space_in_clause : (b : ℕ) → bars_clause b ≡ false → is_space b ≡ false
no_space_in_clause b h = grind (arith, nat_tests)

no_joint_in_build : (b : ℕ) → bars_build b ≡ false → is_joint b ≡ false
no_joint_in_build b h = grind (arith, nat_tests)

pub clause_spaces : (clause : List ℕ) → IsClauseWord clause → NoneOf is_space clause
clause_spaces clause h = fewer bars_clause is_space no_space_in_clause clause h.chars

kept_one : (clause : List ℕ) → IsClauseWord clause → kept (32 ∷ clause) ≡ clause
kept_one clause h =
    subst (λ c. NoneOf is_space c → kept (32 ∷ c) ≡ c) (sym h.whole) (λ spaces. kept_word h.first h.others spaces) (clause_spaces clause h)

kept_two : (clause build : List ℕ) → IsClauseWord clause → IsFreeWord bars_build build
    → kept (32 ∷ (clause ++ (32 ∷ build))) ≡ clause ++ (32 ∷ build)
kept_two clause [] h k = absurd (k.0 refl)
kept_two clause (c ∷ cs) h k =
    subst (λ t. NoneOf is_space t → last_of None t ≡ Some h.last → kept (32 ∷ (t ++ (32 ∷ (c ∷ cs)))) ≡ t ++ (32 ∷ (c ∷ cs))) (sym h.whole)
    (λ spaces ends. kept_words h.first h.others c cs h.last spaces (fewer bars_build is_space no_space_in_build (c ∷ cs) k.1) ends h.stays
    (no_joint_in_build c (k.1.0)))
    (clause_spaces clause h) h.ends

followed_by : (version build : Option (List ℕ)) → CanFollow version build
    → Follows (begins_with space (word_text version ++ word_text build)) (kept (word_text version ++ word_text build)) version build
unfolding CanFollow
followed_by None None h = end false
followed_by None (Some build) h = absurd h
followed_by (Some clause) None h =
    subst (λ t. Follows true t (Some clause) None) (sym (ap kept (append-nil (32 ∷ clause)) ∙ kept_one clause h))
    (spaced clause clause (Some clause) None (alone clause clause h.writes) (λ some. absurd (true≢false (sym some))))
followed_by (Some clause) (Some build) h =
    subst (λ t. Follows true t (Some clause) (Some build)) (sym (kept_two clause build h.0 h.2))
    (spaced clause (clause ++ 32 ∷ build) (Some clause) (Some build) (with_build clause clause build (h.0).writes h.2) (λ _. h.1))

name_char_lowered : (b : ℕ) → is_name_char b ≡ true → to_ascii_lowercase b ≡ b
name_char_lowered b h = grind (arith, nat_tests)

name_goes_on : (b : ℕ) → is_name_char b ≡ true → ends_name b ≡ false
name_goes_on b h = rw (name_char_lowered b h, h) refl

name_lowered : (name : List ℕ) → AllOf is_name_char name → map to_ascii_lowercase name ≡ name
name_lowered [] h = refl
name_lowered (b ∷ bs) h = ap (λ c. c ∷ map to_ascii_lowercase bs) (name_char_lowered b (h.0)) ∙ ap (λ cs. b ∷ cs) (name_lowered bs h.1)

stops : (version build : Option (List ℕ)) → CanFollow version build → ends_here (word_text version ++ word_text build) ≡ true
unfolding CanFollow
stops None None h = refl
stops None (Some build) h = absurd h
stops (Some clause) build h = refl

-- a name in lower case, and the words behind it
pub named_by : (name : List ℕ) (version build : Option (List ℕ)) → AllOf is_name_char name → name ≢ [] → CanFollow version build
    → IsNamed (name ++ (word_text version ++ word_text build)) name version build
named_by name version build chars some h =
    subst (λ n. IsNamed (name ++ (word_text version ++ word_text build)) n version build) (name_lowered name chars)
    (named name (word_text version ++ word_text build) version build some (none_of_all is_name_char ends_name name_goes_on name chars)
    (stops version build h) (followed_by version build h))

-- a character that stands in no name, no version clause and no build
record IsForeign (p : ℕ → Bool) : Type 0 where
  pub name : (b : ℕ) → is_name_char b ≡ true → p b ≡ false
  pub clause : (b : ℕ) → bars_clause b ≡ false → p b ≡ false
  pub build : (b : ℕ) → bars_build b ≡ false → p b ≡ false
  pub space : p 32 ≡ false

foreign_word : (p : ℕ → Bool) → IsForeign p → (version build : Option (List ℕ)) → CanFollow version build
    → NoneOf p (word_text version ++ word_text build)
unfolding CanFollow
foreign_word p f None None h = tt
foreign_word p f None (Some build) h = absurd h
foreign_word p f (Some clause) None h = none_in_both p (32 ∷ clause) [] (f.space, fewer bars_clause p f.clause clause h.chars) tt
foreign_word p f (Some clause) (Some build) h =
    none_in_both p (32 ∷ clause) (32 ∷ build) (f.space, fewer bars_clause p f.clause clause (h.0).chars)
    (f.space, fewer bars_build p f.build build h.2.1)

foreign : (p : ℕ → Bool) → IsForeign p → (name : List ℕ) (version build : Option (List ℕ)) → AllOf is_name_char name
    → CanFollow version build
    → NoneOf p (name ++ (word_text version ++ word_text build))
foreign p f name version build chars h =
    none_in_both p name (word_text version ++ word_text build) (none_of_all is_name_char p f.name name chars)
    (foreign_word p f version build h)

colon_foreign : IsForeign (is_byte colon)
colon_foreign = record {
  name = λ b h. grind (arith, nat_tests);
  clause = λ b h. grind (arith, nat_tests);
  build = λ b h. grind (arith, nat_tests);
  space = refl;
}

bracket_foreign : IsForeign (is_byte close_bracket)
bracket_foreign = record {
  name = λ b h. grind (arith, nat_tests);
  clause = λ b h. grind (arith, nat_tests);
  build = λ b h. grind (arith, nat_tests);
  space = refl;
}

-- neither `:` nor `]` stands there
pub no_colon : (name : List ℕ) (version build : Option (List ℕ)) → AllOf is_name_char name → CanFollow version build
    → IsFreeOf colon (name ++ (word_text version ++ word_text build))
no_colon name version build chars h = foreign (is_byte colon) colon_foreign name version build chars h

pub no_bracket : (name : List ℕ) (version build : Option (List ℕ)) → AllOf is_name_char name → CanFollow version build
    → IsFreeOf close_bracket (name ++ (word_text version ++ word_text build))
no_bracket name version build chars h = foreign (is_byte close_bracket) bracket_foreign name version build chars h
