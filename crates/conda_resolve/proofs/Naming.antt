-- Names that are decided, and the one that is next.
use Rattle.std.proofs.Common.{◌≡◌, ℕ, Bool, true, false, not, cond, List, [], ◌∷◌, ◌++◌, Option, None, Some, filter, find, map, refl, sym, ap, ◌∙◌, subst, ◌⊎◌, inl, inr, true≢false}
use Rattle.std.proofs.lemmas.Bool.Decides.{Decides-eqb}
use Rattle.std.proofs.lemmas.List.{append_assoc}
use Rattle.std.proofs.lemmas.List.Concat.{flat_map-append}
use Rattle.std.proofs.lemmas.Slice.Eq.{slice_eq-Decides}
use Rattle.std.specs.Bool.{Decides}
use Rattle.conda_base.specs.Texts.{is_text}
use Rattle.conda_spec.specs.Parts.{Parts}
use Rattle.conda_record.specs.declared.pkg_record.PkgRecord.{PkgRecord}
use Rattle.conda_encode.specs.Matching.{lowered}
use Rattle.conda_encode.specs.Solution.{Wants}
use Rattle.conda_encode.specs.declared.asked.Asked.{Asked}
use Rattle.conda_encode.specs.declared.asked.AskKind.{AskKind}
use Rattle.conda_encode.specs.declared.asked.AskKind.TheVariants.{Pinned, Wanted}
use Rattle.conda_encode.proofs.Members.{In, any_at, any_from, from_contains, in_either, in_filter, in_flat_map, in_left, in_map, in_right, of_filter, of_flat_map, of_map, to_contains}
use Rattle.conda_encode.proofs.Sides.{Numbered}
use Rattle.conda_resolve.specs.Choice.{has_name, is_decided, is_wanted, names_needed, names_wanted, needs_of, next_name}

-- numbered records: their variables, and the records without these
abbrev pub numbers : List Numbered → List ℕ
numbers xs = map (λ x. x.0) xs

abbrev pub plain : List Numbered → List PkgRecord
plain xs = map (λ x. x.1) xs

-- the name of a record, its letters lowered
abbrev pub name_of : PkgRecord → List ℕ
name_of pkg = lowered pkg.name

same_text : (a b : List ℕ) → Decides (is_text a b) (a ≡ b)
same_text a b = slice_eq-Decides Decides-eqb a b (is_text a b) refl

pub has_is : (name : List ℕ) (pkg : PkgRecord) → has_name name pkg ≡ true → name ≡ name_of pkg
has_is name pkg = (same_text name (name_of pkg)).0

pub is_has : (name : List ℕ) (pkg : PkgRecord) → name ≡ name_of pkg → has_name name pkg ≡ true
is_has name pkg = (same_text name (name_of pkg)).1

-- ---- what is decided

pub decided_by : (decided : List PkgRecord) (name : List ℕ) → is_decided decided name ≡ true → (m : PkgRecord) × In m decided × (name ≡ name_of m)
decided_by decided name h =
    let w : (m : PkgRecord) × In m decided × (has_name name m ≡ true) = any_at (has_name name) decided h in
    (w.0, w.1, has_is name w.0 w.2)

pub decided_from : (decided : List PkgRecord) (name : List ℕ) (m : PkgRecord) → In m decided → name ≡ name_of m → is_decided decided name ≡ true
decided_from decided name m i e = any_from (has_name name) decided m i (is_has name m e)

-- a record of a name that isn't decided has another name than all that are
pub other_name : (decided : List PkgRecord) (name : List ℕ) (m : PkgRecord) → is_decided decided name ≡ false → In m decided → name ≡ name_of m → ⊥
other_name decided name m free i e = true≢false (sym (decided_from decided name m i e) ∙ free)

-- ---- the names that come up

abbrev pub pending : List Asked → List PkgRecord → List (List ℕ)
pending items decided = names_wanted items ++ names_needed decided

-- a specification of the name is wanted, or a decided record needs it
abbrev pub IsCalled : List Asked → List PkgRecord → List ℕ → Type 0
IsCalled items decided name =
    ((spec : Parts) × Wants items spec × (spec.name ≡ name))
    ⊎ ((n : PkgRecord) × (spec : Parts) × In n decided × In spec n.depends × (spec.name ≡ name))

wanted_kind : (kind : AskKind) → is_wanted kind ≡ true → kind ≡ Wanted
wanted_kind Wanted h = refl
wanted_kind Pinned h = absurd (true≢false (sym h))

kind_wanted : (kind : AskKind) → kind ≡ Wanted → is_wanted kind ≡ true
kind_wanted kind e = ap is_wanted e

pub called_by : (items : List Asked) (decided : List PkgRecord) (name : List ℕ) → In name (pending items decided) → IsCalled items decided name
called_by items decided name i =
    elim (in_either (names_wanted items) (names_needed decided) name i) [
      | inl h ↦
          let w : (item : Asked) × In item (filter (λ (item : Asked). is_wanted item.kind) items) × (item.spec.name ≡ name)
          = of_map (λ (item : Asked). item.spec.name) (filter (λ (item : Asked). is_wanted item.kind) items) name h in
          let f = of_filter (λ (item : Asked). is_wanted item.kind) items w.0 w.1 in
          inl (w.0.spec, (w.0, to_contains items w.0 f.0, wanted_kind w.0.kind f.1, refl), w.2)
      | inr h ↦
          let n : (n : PkgRecord) × In n decided × In name (needs_of n) = of_flat_map needs_of decided name h in
          let s : (spec : Parts) × In spec n.0.depends × (spec.name ≡ name) = of_map (λ (spec : Parts). spec.name) n.0.depends name n.2 in
          inr (n.0, s.0, n.1, s.1, s.2)
    ]

pub wanted_comes : (items : List Asked) (decided : List PkgRecord) (spec : Parts) → Wants items spec → In spec.name (pending items decided)
wanted_comes items decided spec (item, c, kind, same) =
    let kept : In item (filter (λ (item : Asked). is_wanted item.kind) items)
    = in_filter (λ (item : Asked). is_wanted item.kind) items item (from_contains items item c) (kind_wanted item.kind kind) in
    let P : Parts → Type 0 = λ s. In s.name (names_wanted items) in
    in_left (names_wanted items) (names_needed decided) spec.name
    (subst P same (in_map (λ (item : Asked). item.spec.name) (filter (λ (item : Asked). is_wanted item.kind) items) item kept))

pub needed_comes : (items : List Asked) (decided : List PkgRecord) (n : PkgRecord) (spec : Parts) → In n decided → In spec n.depends → In spec.name (pending items decided)
needed_comes items decided n spec i d =
    in_right (names_wanted items) (names_needed decided) spec.name
    (in_flat_map needs_of decided n spec.name i (in_map (λ (need : Parts). need.name) n.depends spec d))

-- one more record brings what it needs
pub pending_more : (items : List Asked) (decided : List PkgRecord) (pkg : PkgRecord) → pending items (decided ++ pkg ∷ []) ≡ pending items decided ++ names_needed (pkg ∷ [])
pending_more items decided pkg =
    ap (λ ns. names_wanted items ++ ns) (flat_map-append needs_of decided (pkg ∷ []))
    ∙ sym (append_assoc (names_wanted items) (names_needed decided) (names_needed (pkg ∷ [])))

-- ---- the first that passes a test

found_cond : {A : Type 0} (p : A → Bool) (b : Bool) (y x : A) (rest : Option A) → p y ≡ b → cond b (Some y) rest ≡ Some x → ((y ≡ x) × (p x ≡ true)) ⊎ (rest ≡ Some x)
found_cond p true y x rest e h = let same : y ≡ x = cc in inl (same, ap p (sym same) ∙ e)
found_cond p false y x rest e h = inr h

pub find_some : {A : Type 0} (p : A → Bool) (xs : List A) (x : A) → find p xs ≡ Some x → In x xs × (p x ≡ true)
find_some p [] x h = cc
find_some p (y ∷ ys) x h =
    elim (found_cond p (p y) y x (find p ys) refl h) [
      | inl f ↦ (inl f.0, f.1)
      | inr f ↦ (inr (find_some p ys x f).0, (find_some p ys x f).1)
    ]

none_cond : {A : Type 0} (b : Bool) (y : A) (rest : Option A) → cond b (Some y) rest ≡ None → (b ≡ false) × (rest ≡ None)
none_cond true y rest h = cc
none_cond false y rest h = (refl, h)

pub find_none : {A : Type 0} (p : A → Bool) (xs : List A) (x : A) → find p xs ≡ None → In x xs → p x ≡ false
find_none p [] x h i = absurd i
find_none p (y ∷ ys) x h (inl e) = ap p (sym e) ∙ (none_cond (p y) y (find p ys) h).0
find_none p (y ∷ ys) x h (inr i) = find_none p ys x (none_cond (p y) y (find p ys) h).1 i

pub find_here : {A : Type 0} (p : A → Bool) (xs : List A) (x : A) (ys : List A) → ((y : A) → In y xs → p y ≡ false) → p x ≡ true → find p (xs ++ x ∷ ys) ≡ Some x
find_here p [] x ys none h = ap (λ b. cond b (Some x) (find p ys)) h
find_here p (y ∷ xs) x ys none h =
    ap (λ b. cond b (Some y) (find p (xs ++ x ∷ ys))) (none y (inl refl)) ∙ find_here p xs x ys (λ z i. none z (inr i)) h

pub find_nowhere : {A : Type 0} (p : A → Bool) (xs : List A) → ((y : A) → In y xs → p y ≡ false) → find p xs ≡ None
find_nowhere p [] none = refl
find_nowhere p (y ∷ ys) none =
    ap (λ b. cond b (Some y) (find p ys)) (none y (inl refl)) ∙ find_nowhere p ys (λ z i. none z (inr i))

not_false : (b : Bool) → not b ≡ false → b ≡ true
not_false true h = refl
not_false false h = sym h

not_true : (b : Bool) → not b ≡ true → b ≡ false
not_true true h = sym h
not_true false h = refl

-- ---- the next name

pub next_is : (items : List Asked) (decided : List PkgRecord) (name : List ℕ) → next_name items decided ≡ Some name → In name (pending items decided) × (is_decided decided name ≡ false)
next_is items decided name h =
    let f = find_some (λ name. not (is_decided decided name)) (pending items decided) name h in
    (f.0, not_true (is_decided decided name) f.1)

pub none_next : (items : List Asked) (decided : List PkgRecord) → next_name items decided ≡ None → (name : List ℕ) → In name (pending items decided) → is_decided decided name ≡ true
none_next items decided h name i =
    not_false (is_decided decided name) (find_none (λ name. not (is_decided decided name)) (pending items decided) name h i)

pub next_here : (items : List Asked) (decided : List PkgRecord) (before behind : List (List ℕ)) (name : List ℕ) → pending items decided ≡ before ++ name ∷ behind →
    ((other : List ℕ) → In other before → is_decided decided other ≡ true) → is_decided decided name ≡ false → next_name items decided ≡ Some name
next_here items decided before behind name e all free =
    ap (find (λ name. not (is_decided decided name))) e
    ∙ find_here (λ name. not (is_decided decided name)) before name behind (λ other i. ap not (all other i)) (ap not free)

pub next_nowhere : (items : List Asked) (decided : List PkgRecord) → ((other : List ℕ) → In other (pending items decided) → is_decided decided other ≡ true) → next_name items decided ≡ None
next_nowhere items decided all =
    find_nowhere (λ name. not (is_decided decided name)) (pending items decided) (λ other i. ap not (all other i))

-- an option is none, or some value
pub by_option : {A : Type 0} (o : Option A) → (o ≡ None) ⊎ ((x : A) × (o ≡ Some x))
by_option None = inl refl
by_option (Some x) = inr (x, refl)
