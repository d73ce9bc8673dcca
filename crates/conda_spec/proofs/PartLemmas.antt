-- What the grammar says of parts is what the reader takes.
use Rattle.std.proofs.Common.{◌≡◌, ℕ, ◌-◌, Bool, true, false, cond, length, List, [], ◌∷◌, ◌++◌, codes, refl, sym, ap, subst, ◌∙◌, arith, length-append, true≢false, Option, None, Some}
use Rattle.std.proofs.lemmas.Bool.{eq-eqb, eqb-true}
use Rattle.std.specs.Option.{option_map_or, option_or}
use Rattle.std.specs.Prelude.{IfSome, slice_get, ◌==◌}
use Rattle.conda_base.specs.Signs.{space}
use Rattle.conda_base.specs.Texts.{begins_with, ends_with}
use Rattle.conda_clause.specs.Clause.{beside_build, clause_fault}
use Rattle.conda_clause.specs.Kept.{kept}
use Rattle.conda_spec.specs.declared.given.Given.{Given}
use Rattle.conda_spec.specs.Grammar.{AreParts, Follows, IsBeside, IsClauseOf, IsEqualClause, IsEqualTo, IsFront, IsItem, IsItems, IsNamed, IsWords, Wins}
use Rattle.conda_spec.specs.Grammar.IsBeside.{any, beside, no_build}
use Rattle.conda_spec.specs.Grammar.Follows.{end, equal, equal_build, signs, spaced, spaced_equal, starts, starts_build}
use Rattle.conda_spec.specs.Grammar.IsEqualTo.{bare, starred}
use Rattle.conda_spec.specs.Grammar.IsFront.{alone as front_alone, in_channel, in_subdir}
use Rattle.conda_spec.specs.Grammar.IsItem.{build as item_build, build_number as item_number, channel as item_channel, subdir as item_subdir, version as item_version}
use Rattle.conda_spec.specs.Grammar.IsItems.{last as items_last, more as items_more}
use Rattle.conda_spec.specs.Grammar.IsNamed.{named}
use Rattle.conda_spec.specs.Grammar.IsWords.{alone, with_build}
use Rattle.conda_spec.specs.Grammar.Wins.{before, inside}
use Rattle.conda_spec.specs.Parts.{Front, Parts}
use Rattle.conda_spec.specs.Reading.{equal_to, spec_parts, version_beside}
use Rattle.conda_spec.proofs.LowerLaws.{Laws}

-- ---- "equal to V"

at_end : (front : List ℕ) (b : ℕ) → slice_get (front ++ b ∷ []) (length front) ≡ Some b
at_end [] b = refl
at_end (x ∷ xs) b = at_end xs b

ends_so : (front : List ℕ) (b : ℕ) → ends_with b (front ++ b ∷ []) ≡ true
ends_so front b =
    let less : length (front ++ b ∷ []) - 1 ≡ length front = omega (arith, length-append front (b ∷ [])) in
    ap (λ n. option_map_or (λ c. c == b) (slice_get (front ++ b ∷ []) n) false) less
    ∙ ap (λ o. option_map_or (λ c. c == b) o false) (at_end front b)
    ∙ eq-eqb b b refl

last_is : (b x : ℕ) (xs : List ℕ) → option_map_or (λ c. c == b) (slice_get (x ∷ xs) (length xs)) false ≡ true
    → (front : List ℕ) × (x ∷ xs ≡ front ++ b ∷ [])
last_is b x [] h = ([], ap (λ c. c ∷ []) (eqb-true x b h))
last_is b x (y ∷ ys) h = let more = last_is b y ys h in (x ∷ more.0, ap (λ t. x ∷ t) more.1)

ends_only : (b : ℕ) (text : List ℕ) → ends_with b text ≡ true → (front : List ℕ) × (text ≡ front ++ b ∷ [])
ends_only b [] h = absurd (cc)
ends_only b (x ∷ xs) h =
    let less : length (x ∷ xs) - 1 ≡ length xs = omega arith in
    last_is b x xs (sym (ap (λ n. option_map_or (λ c. c == b) (slice_get (x ∷ xs) n) false) less) ∙ h)

-- it is written as the reader takes it
equal_text : (v text : List ℕ) → IsEqualTo v text → text ≡ equal_to v
equal_text v text (starred front) = ap (λ k. cond k (front ++ codes "*") (codes "==" ++ (front ++ codes "*"))) (sym (ends_so front 42))
equal_text v text (bare w other) = by (ends_with 42 w) refl
  where
    by : (k : Bool) → ends_with 42 w ≡ k → codes "==" ++ w ≡ cond k w (codes "==" ++ w)
    by true e = let cut = ends_only 42 w e in absurd (other cut.0 cut.1)
    by false e = refl

text_equal : (v : List ℕ) → IsEqualTo v (equal_to v)
text_equal v = by (ends_with 42 v) refl
  where
    by : (k : Bool) → ends_with 42 v ≡ k → IsEqualTo v (cond k v (codes "==" ++ v))
    by true e = let cut = ends_only 42 v e in subst (λ t. IsEqualTo t t) (sym cut.1) (starred cut.0)
    by false e = bare v (λ front f. true≢false (sym (ap (ends_with 42) f ∙ ends_so front 42) ∙ e))

pub equal_in : (v clause : List ℕ) → IsClauseOf (equal_to v) clause → IsEqualClause v clause
equal_in v clause h = (equal_to v, text_equal v, h)

pub equal_out : (v clause : List ℕ) → IsEqualClause v clause → IsClauseOf (equal_to v) clause
equal_out v clause h = subst (λ t. IsClauseOf t clause) (equal_text v h.0 h.1) h.2

-- ---- version clauses are right

abbrev pub IsRight : Option (List ℕ) → Type 0
IsRight version = IfSome version (λ clause. clause_fault clause ≡ None)

module _ (l : Laws) where
  clause_right : (text clause : List ℕ) → IsClauseOf text clause → clause_fault clause ≡ None
  clause_right text clause h = l.right clause h.1

  words_right : (word text : List ℕ) (version build : Option (List ℕ)) → IsWords word text version build → IsRight version
  words_right word text version build (alone w clause h) = clause_right w clause h
  words_right word text version build (with_build w clause b h k) = clause_right w clause h

  follows_right : (apart : Bool) (text : List ℕ) (version build : Option (List ℕ)) → Follows apart text version build → IsRight version
  follows_right apart text version build (end k) = tt
  follows_right apart text version build (starts v clause p w) = clause_right (61 ∷ v) clause w
  follows_right apart text version build (equal v clause p w) = clause_right (61 ∷ 61 ∷ v) clause w
  follows_right apart text version build (starts_build v clause b p w k) = clause_right w.0 clause w.2
  follows_right apart text version build (equal_build v clause b p w k) = clause_right (61 ∷ 61 ∷ v) clause w
  follows_right apart text version build (spaced_equal v clause b p w k) = clause_right w.0 clause w.2
  follows_right apart text version build (spaced word t v b w other) = words_right word text version build w
  follows_right apart text version build (signs word t v b w begins) = words_right word text version build w

  named_right : (text name : List ℕ) (version build : Option (List ℕ)) → IsNamed text name version build → IsRight version
  named_right text name version build (named written rest v b some free ends follows) =
      follows_right (begins_with space rest) (kept rest) version build follows

  pub front_right : (text : List ℕ) (front : Front) → IsFront text front → IsRight front.1.version
  front_right text front (front_alone t name version build none is) = named_right t name version build is
  front_right text front (in_channel channel t name version build free is) = named_right t name version build is
  front_right text front (in_subdir channel subdir t name version build free also is) = named_right t name version build is

  item_right : (given after : Given) (text : List ℕ) → IsItem given text after → IsRight given.version → IsRight after.version
  item_right given after text (item_version g written value clause new is w) h = clause_right (kept value) clause w
  item_right given after text (item_build g written value new is free) h = h
  item_right given after text (item_number g written value number new is n) h = h
  item_right given after text (item_channel g written value new is free) h = h
  item_right given after text (item_subdir g written value new is free) h = h

  pub items_right : (given after : Given) (text : List ℕ) → IsItems given text after → IsRight given.version → IsRight after.version
  items_right given after text (items_last g b item is) h = item_right g b item is h
  items_right given after text (items_more g next b item rest is later) h = items_right next b rest later (item_right g next item is h)

  -- ---- the parts

  wins_or : {A : Type 0} (given other : Option A) → Wins given other (option_or given other)
  wins_or None other = before other
  wins_or (Some x) other = inside x other

  or_wins : {A : Type 0} (given other found : Option A) → Wins given other found → found ≡ option_or given other
  or_wins given other found (inside x o) = refl
  or_wins given other found (before o) = refl

  or_right : (given other : Option (List ℕ)) → IsRight given → IsRight other → IsRight (option_or given other)
  or_right None other h k = k
  or_right (Some clause) other h k = h

  beside_is : (build version : Option (List ℕ)) → IsRight version → IsBeside build version (version_beside build version)
  beside_is None version h = no_build version
  beside_is (Some build) None h = any build
  beside_is (Some build) (Some clause) h = beside build clause (beside_build clause) ((l.beside clause (beside_build clause) h).1 refl)

  is_beside : (build version written : Option (List ℕ)) → IsRight version → IsBeside build version written
      → written ≡ version_beside build version
  is_beside build version written h (no_build v) = refl
  is_beside build version written h (any b) = refl
  is_beside build version written h (beside b clause to is) = ap Some ((l.beside clause to h).0 is)

  pub parts_are : (front : Front) (given : Given) → IsRight front.1.version → IsRight given.version
      → AreParts front given (spec_parts front given)
  parts_are front given h k = record {
    channel = wins_or given.channel front.1.channel;
    subdir = wins_or given.subdir front.1.subdir;
    name = refl;
    clause = option_or given.version front.1.version;
    version = wins_or given.version front.1.version;
    build = wins_or given.build front.1.build;
    beside = beside_is (option_or given.build front.1.build) (option_or given.version front.1.version)
        (or_right given.version front.1.version k h);
    number = refl;
  }

  pub are_parts : (front : Front) (given : Given) (parts : Parts) → IsRight front.1.version → IsRight given.version
      → AreParts front given parts → parts ≡ spec_parts front given
  are_parts front given parts h k is =
      let channel = or_wins given.channel front.1.channel parts.channel is.channel in
      let subdir = or_wins given.subdir front.1.subdir parts.subdir is.subdir in
      let clause = or_wins given.version front.1.version is.clause is.version in
      let build = or_wins given.build front.1.build parts.build is.build in
      let right : IsRight is.clause = subst IsRight (sym clause) (or_right given.version front.1.version k h) in
      let version = is_beside parts.build is.clause parts.version right is.beside ∙ ap (λ b. version_beside b is.clause) build
      ∙ ap (version_beside (option_or given.build front.1.build)) clause in
      λ i. record { channel = channel i; subdir = subdir i; name = is.name i; version = version i; build = build i; number = is.number i }
