-- What `first_offence` answers is the least offence, and it answers nothing exactly where the rule holds.
use Rattle.std.proofs.Common.{◌≡◌, ℕ, ◌+◌, ◌≤◌, ◌<◌, ◌⊎◌, Bool, true, false, ◌&&◌, ◌||◌, not, cond, eqb, List, [], ◌∷◌, length, suc, zero, Option, Some, None, refl, sym, ap, ◌∙◌, arith, inl, inr, subst, ltb}
use Rattle.std.specs.Prelude.{slice_get}
use Rattle.std.specs.Cmp.{first_so, second_so}
use Rattle.std.specs.List.{AllByRecursion, before_first, slice_split}
use Rattle.std.proofs.lemmas.Bool.{eq-eqb, eqb-true, false≢true, le-ltb, ltb-false, ltb-true, true≢false}
use Rattle.std.proofs.lemmas.List.Sums.{take_while-cons}
use Rattle.std.proofs.lemmas.List.Splits.{slice_split-cons_yes, slice_split-cons_no}
use Rattle.conda_base.specs.Signs.{dot, slash}
use Rattle.conda_base.specs.Texts.{is_byte}
use Rattle.conda_path.specs.Paths.{is_control, is_control_or_space, IsPart, IsRelPath, IsPrefix, part_at, IsOffence, IsLeast, IsPathFault, IsPrefixFault, is_bad_part, first_offence, or_too_long, path_fault, prefix_fault}

some_same : (a b : ℕ) → Some a ≡ Some b → a ≡ b
some_same a b h = cc

-- ---- parts

and_false : (a b : Bool) → a && b ≡ false → a ≡ true → b ≡ false
and_false true b h e = h
and_false false b h e = absurd (false≢true e)

bad_part_is : (part : List ℕ) → is_bad_part part ≡ true → IsPart part → ⊥
bad_part_is [] h q = q.0 refl
bad_part_is (a ∷ []) h q = q.1 (ap (λ n. n ∷ []) (eqb-true a dot h))
bad_part_is (a ∷ b ∷ []) h q =
    let first : a ≡ dot = eqb-true a dot (first_so (eqb a dot) (eqb b dot) h) in
    let second : b ≡ dot = eqb-true b dot (second_so (eqb a dot) (eqb b dot) h) in
    q.2 (cc)
bad_part_is (a ∷ b ∷ c ∷ rest) h q = absurd (false≢true h)

good_part_is : (part : List ℕ) → is_bad_part part ≡ false → IsPart part
good_part_is [] h = absurd (true≢false h)
good_part_is (a ∷ []) h =
    (λ e. cc, λ e. let same : a ≡ dot = cc in true≢false (sym (eq-eqb a dot same) ∙ h), λ e. cc)
good_part_is (a ∷ b ∷ []) h = (
  λ e. cc,
  λ e. cc,
  λ e.
      let first : a ≡ dot = cc in
      let second : b ≡ dot = cc in
      true≢false (sym (eq-eqb b dot second) ∙ and_false (eqb a dot) (eqb b dot) h (eq-eqb a dot first)),
)
good_part_is (a ∷ b ∷ c ∷ rest) h = (λ e. cc, λ e. cc, λ e. cc)

-- ---- the parts of a text

later : List (List ℕ) → List (List ℕ)
later [] = []
later (part ∷ parts) = parts

-- the first part ends at the first slash
split_is : (text : List ℕ) → slice_split (is_byte slash) text ≡ before_first (is_byte slash) text ∷ later (slice_split (is_byte slash) text)
unfolding later
split_is [] = refl
split_is (b ∷ rest) = by (is_byte slash b) refl (split_is rest)
  where
    by : (v : Bool) → is_byte slash b ≡ v → slice_split (is_byte slash) rest ≡ before_first (is_byte slash) rest ∷ later (slice_split (is_byte slash) rest) → slice_split (is_byte slash) (b ∷ rest) ≡ before_first (is_byte slash) (b ∷ rest) ∷ later (slice_split (is_byte slash) (b ∷ rest))
    by true e h = rw (slice_split-cons_yes (is_byte slash) b rest e, take_while-cons (λ x. not (is_byte slash x)) b rest, e) refl
    by false e h = rw (slice_split-cons_no (is_byte slash) b rest e, take_while-cons (λ x. not (is_byte slash x)) b rest, e, h) refl

-- the parts that begin in the text, with or without the first
PartsFrom : Bool → List ℕ → Type 0
PartsFrom true text = AllByRecursion IsPart (slice_split (is_byte slash) text)
PartsFrom false text = AllByRecursion IsPart (later (slice_split (is_byte slash) text))

-- what a byte adds: the first part is a good one, if it begins here, and the others are those of the rest
parts_of : (begins : Bool) (b : ℕ) (rest : List ℕ) → (begins ≡ true → IsPart (before_first (is_byte slash) (b ∷ rest))) → PartsFrom (is_byte slash b) rest → PartsFrom begins (b ∷ rest)
unfolding PartsFrom later
parts_of begins b rest first others = by (is_byte slash b) refl begins first others
  where
    ending : (v : Bool) → is_byte slash b ≡ v → PartsFrom v rest → AllByRecursion IsPart (later (slice_split (is_byte slash) (b ∷ rest)))
    ending true e o = rw (slice_split-cons_yes (is_byte slash) b rest e) o
    ending false e o = rw (slice_split-cons_no (is_byte slash) b rest e, split_is rest) o

    by : (v : Bool) → is_byte slash b ≡ v → (w : Bool) → (w ≡ true → IsPart (before_first (is_byte slash) (b ∷ rest))) → PartsFrom (is_byte slash b) rest → PartsFrom w (b ∷ rest)
    by v e false f o = ending (is_byte slash b) refl o
    by v e true f o = rw (split_is (b ∷ rest)) (f refl, ending (is_byte slash b) refl o)

-- and back
parts_first : (b : ℕ) (rest : List ℕ) → PartsFrom true (b ∷ rest) → IsPart (before_first (is_byte slash) (b ∷ rest))
unfolding PartsFrom
parts_first b rest h = let k = rw (split_is (b ∷ rest)) at h in k.0

parts_after : (begins : Bool) (b : ℕ) (rest : List ℕ) → PartsFrom begins (b ∷ rest) → PartsFrom (is_byte slash b) rest
unfolding PartsFrom later
parts_after begins b rest h = ending (is_byte slash b) refl (rests begins h)
  where
    rests : (w : Bool) → PartsFrom w (b ∷ rest) → AllByRecursion IsPart (later (slice_split (is_byte slash) (b ∷ rest)))
    rests true h = let k = rw (split_is (b ∷ rest)) at h in k.1
    rests false h = h

    ending : (v : Bool) → is_byte slash b ≡ v → AllByRecursion IsPart (later (slice_split (is_byte slash) (b ∷ rest))) → PartsFrom v rest
    ending true e o = rw (slice_split-cons_yes (is_byte slash) b rest e) at o
    ending false e o = rw (slice_split-cons_no (is_byte slash) b rest e, split_is rest) at o

-- ---- the tests of one byte

stop_none : (begins part bad : Bool) (at : ℕ) (F : Option ℕ) → cond ((begins && part) || bad) (Some at) F ≡ None → (begins ≡ true → part ≡ false) × (bad ≡ false) × (F ≡ None)
stop_none true true bad at F h = cc
stop_none true false true at F h = cc
stop_none true false false at F h = (λ _. refl, refl, h)
stop_none false part true at F h = cc
stop_none false part false at F h = (λ e. absurd (false≢true e), refl, h)

go_none : (begins part bad : Bool) (at : ℕ) (F : Option ℕ) → (begins ≡ true → part ≡ false) → bad ≡ false → F ≡ None → cond ((begins && part) || bad) (Some at) F ≡ None
go_none true true bad at F p q h = absurd (true≢false (p refl))
go_none true false true at F p q h = absurd (true≢false q)
go_none true false false at F p q h = h
go_none false part true at F p q h = absurd (true≢false q)
go_none false part false at F p q h = h

stop_some : (begins part bad : Bool) (start : ℕ) (F : Option ℕ) (at : ℕ) → cond ((begins && part) || bad) (Some start) F ≡ Some at → ((((begins ≡ true) × (part ≡ true)) ⊎ (bad ≡ true)) × (at ≡ start)) ⊎ ((begins ≡ true → part ≡ false) × (bad ≡ false) × (F ≡ Some at))
stop_some true true bad start F at h = inl (inl (refl, refl), cc)
stop_some true false true start F at h = inl (inr refl, cc)
stop_some true false false start F at h = inr (λ _. refl, refl, h)
stop_some false part true start F at h = inl (inr refl, cc)
stop_some false part false start F at h = inr (λ e. absurd (false≢true e), refl, h)

-- ---- nothing is answered exactly where the rule holds

Plain : (ℕ → Bool) → List ℕ → Type 0
Plain is_bad text = AllByRecursion (λ b. is_bad b ≡ false) text

none_rule : (is_bad : ℕ → Bool) (begins : Bool) (at : ℕ) (text : List ℕ) → first_offence is_bad begins at text ≡ None → Plain is_bad text × PartsFrom begins text
unfolding Plain PartsFrom later
none_rule is_bad true at [] h = cc
none_rule is_bad false at [] h = (tt, tt)
none_rule is_bad begins at (b ∷ rest) h =
    let s = stop_none begins (is_bad_part (before_first (is_byte slash) (b ∷ rest))) (is_bad b) at (first_offence is_bad (is_byte slash b) (at + 1) rest) h in
    let r = none_rule is_bad (is_byte slash b) (at + 1) rest s.2 in
    ((s.1, r.0), parts_of begins b rest (λ e. good_part_is (before_first (is_byte slash) (b ∷ rest)) (s.0 e)) r.1)

rule_none : (is_bad : ℕ → Bool) (begins : Bool) (at : ℕ) (text : List ℕ) → Plain is_bad text → PartsFrom begins text → first_offence is_bad begins at text ≡ None
unfolding Plain PartsFrom later
rule_none is_bad true at [] p q = absurd (q.0.0 refl)
rule_none is_bad false at [] p q = refl
rule_none is_bad begins at (b ∷ rest) p q =
    go_none begins (is_bad_part (before_first (is_byte slash) (b ∷ rest))) (is_bad b) at (first_offence is_bad (is_byte slash b) (at + 1) rest)
    (λ e. by (is_bad_part (before_first (is_byte slash) (b ∷ rest))) refl (parts_first b rest (let P : Bool → Type 0 = λ w. PartsFrom w (b ∷ rest) in subst P e q)))
    p.0 (rule_none is_bad (is_byte slash b) (at + 1) rest p.1 (parts_after begins b rest q))
  where
    by : (v : Bool) → is_bad_part (before_first (is_byte slash) (b ∷ rest)) ≡ v → IsPart (before_first (is_byte slash) (b ∷ rest)) → v ≡ false
    by true e f = absurd (bad_part_is (before_first (is_byte slash) (b ∷ rest)) e f)
    by false e f = refl

-- ---- the offset is that of the least offence

-- a part begins behind each slash, and at the front where one does
BeginsFrom : Bool → List ℕ → ℕ → Type 0
BeginsFrom begins text at = ((at ≡ 0) × (begins ≡ true)) ⊎ ((before : ℕ) × (at ≡ before + 1) × (slice_get text before ≡ Some slash))

OffenceFrom : (ℕ → Bool) → Bool → List ℕ → ℕ → Type 0
OffenceFrom is_bad begins text at =
    (BeginsFrom begins text at × (IsPart (part_at text at) → ⊥)) ⊎ ((b : ℕ) × (slice_get text at ≡ Some b) × (is_bad b ≡ true))

offence_up : (is_bad : ℕ → Bool) (begins : Bool) (b : ℕ) (rest : List ℕ) (at : ℕ) → OffenceFrom is_bad (is_byte slash b) rest at → OffenceFrom is_bad begins (b ∷ rest) (suc at)
unfolding OffenceFrom BeginsFrom
offence_up is_bad begins b rest at (inl h) = inl (by h.0, h.1)
  where
    by : BeginsFrom (is_byte slash b) rest at → BeginsFrom begins (b ∷ rest) (suc at)
    by (inl g) = inr (0, ap suc g.0 ∙ refl, ap Some (eqb-true b slash g.1))
    by (inr g) = inr (suc g.0, omega (arith, g.1), g.2)
offence_up is_bad begins b rest at (inr h) = inr h

offence_down : (is_bad : ℕ → Bool) (begins : Bool) (b : ℕ) (rest : List ℕ) (at : ℕ) → OffenceFrom is_bad begins (b ∷ rest) (suc at) → OffenceFrom is_bad (is_byte slash b) rest at
unfolding OffenceFrom BeginsFrom
offence_down is_bad begins b rest at (inl h) = inl (by h.0, h.1)
  where
    behind : (before : ℕ) → suc at ≡ before + 1 → slice_get (b ∷ rest) before ≡ Some slash → BeginsFrom (is_byte slash b) rest at
    behind zero e g = inl (omega arith, let same : b ≡ slash = cc in eq-eqb b slash same)
    behind (suc before) e g = inr (before, omega arith, g)

    by : BeginsFrom begins (b ∷ rest) (suc at) → BeginsFrom (is_byte slash b) rest at
    by (inl g) = absurd (omega (arith, g.0))
    by (inr g) = behind g.0 g.1 g.2
offence_down is_bad begins b rest at (inr h) = inr h

-- no offence at the front of what passed its tests
front_clear : (is_bad : ℕ → Bool) (begins : Bool) (b : ℕ) (rest : List ℕ) → (begins ≡ true → is_bad_part (before_first (is_byte slash) (b ∷ rest)) ≡ false) → is_bad b ≡ false → OffenceFrom is_bad begins (b ∷ rest) 0 → ⊥
unfolding OffenceFrom BeginsFrom
front_clear is_bad begins b rest p q (inl h) = by h.0
  where
    by : BeginsFrom begins (b ∷ rest) 0 → ⊥
    by (inl g) = h.1 (good_part_is (before_first (is_byte slash) (b ∷ rest)) (p g.1))
    by (inr g) = absurd (omega (arith, g.1))
front_clear is_bad begins b rest p q (inr h) =
    let same : b ≡ h.0 = cc in
    true≢false (sym h.2 ∙ ap is_bad (sym same) ∙ q)

some_least : (is_bad : ℕ → Bool) (begins : Bool) (start : ℕ) (text : List ℕ) (at : ℕ) → first_offence is_bad begins start text ≡ Some at → (offset : ℕ) × (at ≡ start + offset) × IsLeast (OffenceFrom is_bad begins text) offset
unfolding OffenceFrom BeginsFrom
some_least is_bad true start [] at h =
    let e : at ≡ start + 0 = omega (arith, some_same start at h) in
    (0, e, (inl (inl (refl, refl), λ q. q.0 refl), λ other o. omega arith))
some_least is_bad false start [] at h = cc
some_least is_bad begins start (b ∷ rest) at h =
    by (stop_some begins (is_bad_part (before_first (is_byte slash) (b ∷ rest))) (is_bad b) start (first_offence is_bad (is_byte slash b) (start + 1) rest) at h)
    (λ e. some_least is_bad (is_byte slash b) (start + 1) rest at e)
  where
    here : (((begins ≡ true) × (is_bad_part (before_first (is_byte slash) (b ∷ rest)) ≡ true)) ⊎ (is_bad b ≡ true)) → OffenceFrom is_bad begins (b ∷ rest) 0
    here (inl g) = inl (inl (refl, g.0), bad_part_is (before_first (is_byte slash) (b ∷ rest)) g.1)
    here (inr g) = inr (b, refl, g)

    least : (begins ≡ true → is_bad_part (before_first (is_byte slash) (b ∷ rest)) ≡ false) → is_bad b ≡ false → (offset : ℕ) → ((other : ℕ) → OffenceFrom is_bad (is_byte slash b) rest other → offset ≤ other) → (other : ℕ) → OffenceFrom is_bad begins (b ∷ rest) other → suc offset ≤ other
    least p q offset f zero o = absurd (front_clear is_bad begins b rest p q o)
    least p q offset f (suc other) o = omega (arith, f other (offence_down is_bad begins b rest other o))

    by : ((((begins ≡ true) × (is_bad_part (before_first (is_byte slash) (b ∷ rest)) ≡ true)) ⊎ (is_bad b ≡ true)) × (at ≡ start)) ⊎ ((begins ≡ true → is_bad_part (before_first (is_byte slash) (b ∷ rest)) ≡ false) × (is_bad b ≡ false) × (first_offence is_bad (is_byte slash b) (start + 1) rest ≡ Some at)) → (first_offence is_bad (is_byte slash b) (start + 1) rest ≡ Some at → (offset : ℕ) × (at ≡ (start + 1) + offset) × IsLeast (OffenceFrom is_bad (is_byte slash b) rest) offset) → (offset : ℕ) × (at ≡ start + offset) × IsLeast (OffenceFrom is_bad begins (b ∷ rest)) offset
    by (inl g) f = (0, omega (arith, g.1), (here g.0, λ other o. omega arith))
    by (inr g) f =
        let r = f g.2 in
        (suc r.0, omega (arith, r.1), (offence_up is_bad begins b rest r.0 r.2.0, least g.0 g.1 r.0 r.2.1))

none_clear : (is_bad : ℕ → Bool) (begins : Bool) (start : ℕ) (text : List ℕ) → first_offence is_bad begins start text ≡ None → (other : ℕ) → OffenceFrom is_bad begins text other → ⊥
unfolding OffenceFrom BeginsFrom
none_clear is_bad true start [] h other o = cc
none_clear is_bad false start [] h other (inl o) = by o.0
  where
    by : BeginsFrom false [] other → ⊥
    by (inl g) = false≢true g.1
    by (inr g) = absurd (let no : None ≡ Some slash = g.2 in cc)
none_clear is_bad false start [] h other (inr o) = absurd (let no : None ≡ Some o.0 = o.1 in cc)
none_clear is_bad begins start (b ∷ rest) h zero o =
    let s = stop_none begins (is_bad_part (before_first (is_byte slash) (b ∷ rest))) (is_bad b) start (first_offence is_bad (is_byte slash b) (start + 1) rest) h in
    front_clear is_bad begins b rest s.0 s.1 o
none_clear is_bad begins start (b ∷ rest) h (suc other) o =
    let s = stop_none begins (is_bad_part (before_first (is_byte slash) (b ∷ rest))) (is_bad b) start (first_offence is_bad (is_byte slash b) (start + 1) rest) h in
    none_clear is_bad (is_byte slash b) (start + 1) rest s.2 other (offence_down is_bad begins b rest other o)

-- ---- whole texts

whole_up : (is_bad : ℕ → Bool) (text : List ℕ) (at : ℕ) → IsOffence is_bad text at → OffenceFrom is_bad true text at
unfolding OffenceFrom BeginsFrom
whole_up is_bad text at (inl (inl g, h)) = inl (inl (g, refl), h)
whole_up is_bad text at (inl (inr g, h)) = inl (inr g, h)
whole_up is_bad text at (inr h) = inr h

whole_down : (is_bad : ℕ → Bool) (text : List ℕ) (at : ℕ) → OffenceFrom is_bad true text at → IsOffence is_bad text at
unfolding OffenceFrom BeginsFrom
whole_down is_bad text at (inl (inl g, h)) = inl (inl g.0, h)
whole_down is_bad text at (inl (inr g, h)) = inl (inr g, h)
whole_down is_bad text at (inr h) = inr h

least_whole : (is_bad : ℕ → Bool) (text : List ℕ) (at : ℕ) → IsLeast (OffenceFrom is_bad true text) at → IsLeast (IsOffence is_bad text) at
least_whole is_bad text at h = (whole_down is_bad text at h.0, λ other o. h.1 other (whole_up is_bad text other o))

-- what the answer with a limit says
limited_none : (limit : ℕ) (text : List ℕ) (o : Option ℕ) → or_too_long limit text o ≡ None → (o ≡ None) × (length text ≤ limit)
limited_none limit text (Some at) h = cc
limited_none limit text None h = (refl, by (ltb limit (length text)) refl h)
  where
    by : (v : Bool) → ltb limit (length text) ≡ v → cond v (Some limit) None ≡ None → length text ≤ limit
    by true e g = cc
    by false e g = ltb-false limit (length text) e

limited_some : (limit : ℕ) (text : List ℕ) (o : Option ℕ) (at : ℕ) → or_too_long limit text o ≡ Some at → (o ≡ Some at) ⊎ ((o ≡ None) × (at ≡ limit) × (limit < length text))
limited_some limit text (Some n) at h = inl h
limited_some limit text None at h = by (ltb limit (length text)) refl h
  where
    by : (v : Bool) → ltb limit (length text) ≡ v → cond v (Some limit) None ≡ Some at → (let o : Option ℕ = None in o ≡ Some at) ⊎ ((let o : Option ℕ = None in o ≡ None) × (at ≡ limit) × (limit < length text))
    by true e g = inr (refl, sym (some_same limit at g), ltb-true limit (length text) e)
    by false e g = cc

within_limit : (limit : ℕ) (text : List ℕ) (o : Option ℕ) → o ≡ None → length text ≤ limit → or_too_long limit text o ≡ None
within_limit limit text (Some at) e h = e
within_limit limit text None e h = rw (le-ltb limit (length text) h) refl

pub path_rule : (text : List ℕ) → path_fault text ≡ None → IsRelPath text
unfolding Plain PartsFrom
path_rule text h =
    let l = limited_none 1024 text (first_offence is_control true 0 text) h in
    let r = none_rule is_control true 0 text l.0 in
    record { short = l.1; bytes = r.0; parts = r.1 }

pub path_none : (text : List ℕ) → IsRelPath text → path_fault text ≡ None
unfolding Plain PartsFrom
path_none text r =
    within_limit 1024 text (first_offence is_control true 0 text) (rule_none is_control true 0 text r.bytes r.parts) r.short

pub path_place : (text : List ℕ) (at : ℕ) → path_fault text ≡ Some at → IsPathFault text at
path_place text at h = by (limited_some 1024 text (first_offence is_control true 0 text) at h)
  where
    by : (first_offence is_control true 0 text ≡ Some at) ⊎ ((first_offence is_control true 0 text ≡ None) × (at ≡ 1024) × (1024 < length text)) → IsPathFault text at
    by (inl g) =
        let l = some_least is_control true 0 text at g in
        let e : l.0 ≡ at = omega (arith, l.1) in
        inl (subst (IsLeast (IsOffence is_control text)) e (least_whole is_control text l.0 l.2))
    by (inr g) = inr (g.1, g.2, λ other o. none_clear is_control true 0 text g.0 other (whole_up is_control text other o))

pub prefix_rule : (text : List ℕ) → prefix_fault text ≡ None → IsPrefix text
unfolding Plain PartsFrom
prefix_rule [] h = cc
prefix_rule (b ∷ path) h = by (eqb b slash) refl h
  where
    by : (v : Bool) → eqb b slash ≡ v → cond v (or_too_long 512 (b ∷ path) (first_offence is_control_or_space true 1 path)) (Some 0) ≡ None → IsPrefix (b ∷ path)
    by true e g =
        let l = limited_none 512 (b ∷ path) (first_offence is_control_or_space true 1 path) g in
        let r = none_rule is_control_or_space true 1 path l.0 in
        (path, ap (λ x. x ∷ path) (eqb-true b slash e), record { short = omega (arith, l.1); bytes = r.0; parts = r.1 })
    by false e g = cc

pub prefix_none : (text : List ℕ) → IsPrefix text → prefix_fault text ≡ None
unfolding Plain PartsFrom
prefix_none text r =
    let s = r.2 in
    rw (r.1) (within_limit 512 (slash ∷ r.0) (first_offence is_control_or_space true 1 r.0) (rule_none is_control_or_space true 1 r.0 s.bytes s.parts) (omega (arith, s.short)))

pub prefix_place : (text : List ℕ) (at : ℕ) → prefix_fault text ≡ Some at → IsPrefixFault text at
prefix_place [] at h = sym (some_same 0 at h)
prefix_place (b ∷ path) at h = by (eqb b slash) refl h
  where
    inner : b ≡ slash → (first_offence is_control_or_space true 1 path ≡ Some at) ⊎ ((first_offence is_control_or_space true 1 path ≡ None) × (at ≡ 512) × (512 < length (b ∷ path))) → IsPrefixFault (b ∷ path) at
    inner e (inl g) =
        let l = some_least is_control_or_space true 1 path at g in
        inr (inl (e, l.0, omega (arith, l.1), least_whole is_control_or_space path l.0 l.2))
    inner e (inr g) =
        inr (inr (e, g.1, omega (arith, g.2), λ other o. none_clear is_control_or_space true 1 path g.0 other (whole_up is_control_or_space path other o)))

    by : (v : Bool) → eqb b slash ≡ v → cond v (or_too_long 512 (b ∷ path) (first_offence is_control_or_space true 1 path)) (Some 0) ≡ Some at → IsPrefixFault (b ∷ path) at
    by true e g = inner (eqb-true b slash e) (limited_some 512 (b ∷ path) (first_offence is_control_or_space true 1 path) at g)
    by false e g = inl (λ q. true≢false (sym (eq-eqb b slash q) ∙ e), sym (some_same 0 at g))
