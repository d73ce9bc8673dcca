-- The normal form of a specification is a text of the grammar, of the same parts, and has no spaces at its ends.
use Rattle.std.proofs.Common.{◌≡◌, ◌≢◌, ℕ, subst, true≢false, true, false, length, List, [], ◌∷◌, ◌++◌, refl, sym, ap, ◌∙◌, arith, append-nil, append_assoc}
use Rattle.std.proofs.lemmas.Bool.{eq-eqb}
use Rattle.std.proofs.lemmas.Bool.Decides.{nat_tests}
use Rattle.std.specs.Prelude.{None, Some, IfSome, IsSome, Ok, Option, codes}
use Rattle.conda_base.specs.Signs.{close_bracket, colon, open_bracket}
use Rattle.conda_base.specs.Texts.{IsFreeOf, is_byte}
use Rattle.conda_version.specs.Text.{trimmed}
use Rattle.conda_clause.specs.Clause.{beside_build}
use Rattle.conda_spec.specs.declared.given.Given.{Given}
use Rattle.conda_spec.specs.Grammar.{AreParts, IsFront, IsSpecText}
use Rattle.conda_spec.specs.Grammar.IsFront.{alone, in_channel}
use Rattle.conda_spec.specs.Grammar.IsSpecText.{bracketed, plain}
use Rattle.conda_spec.specs.Parts.{bars_build, bars_channel, Front, is_name_char, IsFreeWord, IsSpec, NoneOf, nothing, Parts}
use Rattle.conda_spec.specs.Reading.{spec_parts, spec_read}
use Rattle.conda_spec.specs.Text.{brackets_text, channel_text, spec_text, word_text}
use Rattle.conda_spec.proofs.LowerLaws.{Laws}
use Rattle.conda_spec.proofs.PieceLemmas.{AllOf, fewer, none_in_both, none_of_all}
use Rattle.conda_spec.proofs.KeptLemmas.{is_space}
use Rattle.conda_spec.proofs.WordLemmas.{CanFollow, IsClauseWord, clause_spaces, follows, named_by, no_bracket, no_colon, no_space_in_build}
use Rattle.conda_spec.proofs.BracketLemmas.{HasBrackets, brackets_hold, brackets_hold_no_space, inner, items_give, no_opening}
use Rattle.conda_spec.proofs.GivesLemmas.{spec_gives}
use Rattle.conda_spec.proofs.PartLemmas.{front_right, items_right, parts_are}
use Rattle.conda_spec.proofs.TrimLemmas.{BeginsBare, EndsBare, begins_with_word, ends_by, ends_by_word, trimmed_same}

-- The parts.

-- where a build is given, the version is as it is beside one
abbrev pub IsTogether : Option (List ℕ) → Option (List ℕ) → Type 0
IsTogether build version = IsSome build → IfSome version (λ clause. beside_build clause ≡ clause) × IsSome version

front_of : Option (List ℕ) → List ℕ → Option (List ℕ) → Option (List ℕ) → Front
front_of channel name version build = (name, record { channel = channel; subdir = None; version = version; build = build; number = None })

same_parts : (channel subdir : Option (List ℕ)) (name : List ℕ) (version build : Option (List ℕ)) (number : Option ℕ)
    → IsTogether build version
    → spec_parts (front_of channel name version build) (record nothing { number = number; subdir = subdir })
    ≡ record { channel = channel; subdir = subdir; name = name; version = version; build = build; number = number }
unfolding front_of
same_parts channel None name version None number h = refl
same_parts channel (Some subdir) name version None number h = refl
same_parts channel subdir name None (Some build) number h = absurd (true≢false (sym ((h refl).1)))
same_parts channel None name (Some clause) (Some build) number h =
    ap (λ (c : List ℕ). record { channel = channel; subdir = None; name = name; version = Some c; build = Some build; number = number })
    ((h refl).0)
same_parts channel (Some subdir) name (Some clause) (Some build) number h =
    ap (λ (c : List ℕ). record {
      channel = channel;
      subdir = Some subdir;
      name = name;
      version = Some c;
      build = Some build;
      number = number;
    }) ((h refl).0)

-- The whole text.

front_text : Parts → List ℕ
front_text parts = channel_text parts.channel ++ (parts.name ++ (word_text parts.version ++ word_text parts.build))

text_is : (parts : Parts) → spec_text parts ≡ front_text parts ++ brackets_text parts.number parts.subdir
unfolding front_text
text_is parts = simp append_assoc

-- a text without a byte isn't one round it
not_round : (c : ℕ) (text before rest : List ℕ) → IsFreeOf c text → text ≢ before ++ c ∷ rest
not_round c text before rest free e = stands before (subst (IsFreeOf c) e free)
  where
    stands : (before : List ℕ) → IsFreeOf c (before ++ c ∷ rest) → ⊥
    stands [] h = true≢false (sym (eq-eqb c c refl) ∙ h.0)
    stands (b ∷ bs) h = stands bs h.1

no_colon_in_channel : (b : ℕ) → bars_channel b ≡ false → is_byte close_bracket b ≡ false
no_colon_in_channel b h = grind (arith, nat_tests)

-- what stands before the brackets
front_is : (channel : Option (List ℕ)) (name : List ℕ) (version build : Option (List ℕ)) → IfSome channel (IsFreeWord bars_channel)
    → AllOf is_name_char name → name ≢ [] → CanFollow version build
    → IsFront (channel_text channel ++ (name ++ (word_text version ++ word_text build))) (front_of channel name version build)
unfolding front_of
front_is None name version build free chars some h =
    alone (name ++ (word_text version ++ word_text build)) name version build
    (λ before rest. not_round colon (name ++ (word_text version ++ word_text build)) before (colon ∷ rest)
    (no_colon name version build chars h))
    (named_by name version build chars some h)
front_is (Some channel) name version build free chars some h =
    let rest : List ℕ = name ++ (word_text version ++ word_text build) in
    let front : Front = (name, record { channel = Some channel; subdir = None; version = version; build = build; number = None }) in
    subst (λ t. IsFront t front) (sym (append_assoc channel (codes "::") rest))
    (in_channel channel rest name version build free (named_by name version build chars some h))

front_closes : (channel : Option (List ℕ)) (name : List ℕ) (version build : Option (List ℕ)) → IfSome channel (IsFreeWord bars_channel)
    → AllOf is_name_char name → CanFollow version build
    → IsFreeOf close_bracket (channel_text channel ++ (name ++ (word_text version ++ word_text build)))
front_closes None name version build free chars h = no_bracket name version build chars h
front_closes (Some channel) name version build free chars h =
    none_in_both (is_byte close_bracket) (channel ++ codes "::") (name ++ (word_text version ++ word_text build))
    (none_in_both (is_byte close_bracket) channel (codes "::")
    (fewer bars_channel (is_byte close_bracket) no_colon_in_channel channel free.1) (refl, (refl, tt)))
    (no_bracket name version build chars h)

form_is : (l : Laws) (number : Option ℕ) (subdir : Option (List ℕ)) (parts : Parts) → parts.number ≡ number → parts.subdir ≡ subdir
    → IsSpec parts → CanFollow parts.version parts.build → IsSpecText (spec_text parts) parts
unfolding front_text
form_is l number subdir parts n s h follow = subst (λ t. IsSpecText t parts) (sym (text_is parts)) (by number subdir n s)
  where
    front : Front
    front = front_of parts.channel parts.name parts.version parts.build

    text : List ℕ
    text = front_text parts

    is : IsFront (front_text parts) (front_of parts.channel parts.name parts.version parts.build)
    is = front_is parts.channel parts.name parts.version parts.build h.channel h.name.1 h.name.0 follow

    closes : IsFreeOf close_bracket (front_text parts)
    closes = front_closes parts.channel parts.name parts.version parts.build h.channel h.name.1 follow

    whole : spec_parts (front_of parts.channel parts.name parts.version parts.build)
        (record nothing { number = parts.number; subdir = parts.subdir }) ≡ parts
    whole = same_parts parts.channel parts.subdir parts.name parts.version parts.build parts.number h.together

    in_brackets : HasBrackets parts.number parts.subdir → IsSpecText (front_text parts ++ brackets_text parts.number parts.subdir) parts
    in_brackets some =
        let inside : List ℕ = inner parts.number parts.subdir in
        let given : Given = record nothing { number = parts.number; subdir = parts.subdir } in
        let at : (text ++ open_bracket ∷ inside) ++ close_bracket ∷ [] ≡ text ++ brackets_text parts.number parts.subdir =
        append_assoc text (open_bracket ∷ inside) (close_bracket ∷ [])
        ∙ ap (λ t. text ++ t) (sym (brackets_hold parts.number parts.subdir some))
        in
        let items = items_give l parts.number parts.subdir some h.number h.subdir in
        subst (λ t. IsSpecText t parts) at
        (bracketed text inside front given parts (no_opening l parts.number parts.subdir h.number h.subdir) is items
        (subst (AreParts front given) whole
        (parts_are l front given (front_right l text front is) (items_right l nothing given inside items tt))))

    by : (number : Option ℕ) (subdir : Option (List ℕ)) → parts.number ≡ number → parts.subdir ≡ subdir
        → IsSpecText (front_text parts ++ brackets_text parts.number parts.subdir) parts
    by None None n s =
        let none : brackets_text parts.number parts.subdir ≡ [] =
        ap (λ (o : Option ℕ). brackets_text o parts.subdir) n ∙ ap (brackets_text None) s in
        let same : nothing ≡ record nothing { number = parts.number; subdir = parts.subdir } =
        ap (λ (o : Option ℕ). record nothing { number = o }) (sym n)
        ∙ ap (λ (o : Option (List ℕ)). record nothing { number = parts.number; subdir = o }) (sym s)
        in
        subst (λ t. IsSpecText t parts) (sym (ap (λ t. text ++ t) none ∙ append-nil text))
        (plain text front parts (λ before inside. not_round close_bracket text (before ++ open_bracket ∷ inside) [] closes) is
        (subst (AreParts front nothing) (ap (spec_parts front) same ∙ whole) (parts_are l front nothing (front_right l text front is) tt)))
    by (Some number) subdir n s = in_brackets (subst (λ (o : Option ℕ). HasBrackets o parts.subdir) (sym n) tt)
    by None (Some subdir) n s =
        in_brackets (subst (λ (o : Option ℕ). HasBrackets o parts.subdir) (sym n) (subst (HasBrackets None) (sym s) tt))

-- No spaces stand at the ends.

no_space_in_name : (b : ℕ) → is_name_char b ≡ true → is_space b ≡ false
no_space_in_name b h = grind (arith, nat_tests)

no_space_in_channel : (b : ℕ) → bars_channel b ≡ false → is_space b ≡ false
no_space_in_channel b h = grind (arith, nat_tests)

name_spaces : (name : List ℕ) → AllOf is_name_char name → NoneOf is_space name
name_spaces name h = none_of_all is_name_char is_space no_space_in_name name h

some_more : (xs ys : List ℕ) → xs ≢ [] → xs ++ ys ≢ []
some_more [] ys some = absurd (some refl)
some_more (x ∷ xs) ys some = λ e. let none : length (x ∷ (xs ++ ys)) ≡ 0 = ap length e in absurd (omega (arith, none))

begins : (channel : Option (List ℕ)) (name rest : List ℕ) → IfSome channel (IsFreeWord bars_channel) → AllOf is_name_char name → name ≢ []
    → BeginsBare (channel_text channel ++ (name ++ rest))
begins None name rest free chars some = begins_with_word name rest (name_spaces name chars) some
begins (Some channel) name rest free chars some =
    begins_with_word (channel ++ codes "::") (name ++ rest)
    (none_in_both is_space channel (codes "::") (fewer bars_channel is_space no_space_in_channel channel free.1) (refl, (refl, tt)))
    (some_more channel (codes "::") free.0)

clause_some : (clause : List ℕ) → IsClauseWord clause → clause ≢ []
clause_some clause h e = let none : length (h.first ∷ h.others) ≡ 0 = ap length (sym h.whole ∙ e) in absurd (omega (arith, none))

ends : (front : List ℕ) (version build : Option (List ℕ)) → EndsBare front → CanFollow version build
    → EndsBare (front ++ (word_text version ++ word_text build))
unfolding CanFollow
ends front None None bare follow = ends_by front [] bare tt
ends front None (Some build) bare follow = absurd follow
ends front (Some clause) None bare follow =
    subst EndsBare (append_assoc front (32 ∷ []) clause ∙ ap (λ t. front ++ t) (sym (append-nil (32 ∷ clause))))
    (ends_by_word (front ++ (32 ∷ [])) clause (clause_spaces clause follow) (clause_some clause follow))
ends front (Some clause) (Some build) bare follow =
    subst EndsBare (append_assoc front ((32 ∷ clause) ++ (32 ∷ [])) build
    ∙ ap (λ t. front ++ t) (append_assoc (32 ∷ clause) (32 ∷ []) build))
    (ends_by_word (front ++ ((32 ∷ clause) ++ (32 ∷ []))) build (fewer bars_build is_space no_space_in_build build follow.2.1) follow.2.0)

whole_is : (parts : Parts)
    → ((channel_text parts.channel ++ parts.name) ++ (word_text parts.version ++ word_text parts.build))
    ++ brackets_text parts.number parts.subdir ≡ spec_text parts
whole_is parts = simp append_assoc

bare_text : (l : Laws) (parts : Parts) → IsSpec parts → CanFollow parts.version parts.build → trimmed (spec_text parts) ≡ spec_text parts
bare_text l parts h follow =
    let front : List ℕ = channel_text parts.channel ++ parts.name in
    trimmed_same (spec_text parts)
    (begins parts.channel parts.name
    (word_text parts.version ++ (word_text parts.build ++ brackets_text parts.number parts.subdir)) h.channel h.name.1 h.name.0)
    (subst EndsBare (whole_is parts)
    (ends_by (front ++ (word_text parts.version ++ word_text parts.build)) (brackets_text parts.number parts.subdir)
    (ends front parts.version parts.build
    (ends_by_word (channel_text parts.channel) parts.name (name_spaces parts.name h.name.1) h.name.0) follow)
    (brackets_hold_no_space l parts.number parts.subdir h.number h.subdir)))

-- the normal form is read as the specification that it was written of
pub read_again : Laws → (parts : Parts) → IsSpec parts → spec_read (trimmed (spec_text parts)) ≡ Ok parts
read_again l parts h =
    let follow : CanFollow parts.version parts.build = follows l parts.version parts.build h.version h.build h.together in
    ap spec_read (bare_text l parts h follow)
    ∙ spec_gives l (spec_text parts) parts (form_is l parts.number parts.subdir parts refl refl h follow)
