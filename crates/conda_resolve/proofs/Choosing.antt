-- What is decided in the end: there is one such list at most, it is a solution, and there is one where there is a solution.
use Rattle.std.proofs.Common.{◌≡◌, ◌↔◌, ℕ, zero, suc, ◌≤◌, ◌<◌, ℤ, Bool, true, false, cond, List, [], ◌∷◌, ◌++◌, Option, None, Some, filter, find, map, refl, sym, ap, ◌∙◌, subst, ◌⊎◌, inl, inr, true≢false, arith}
use Rattle.std.proofs.lemmas.Bool.{and_from, and_parts}
use Rattle.std.specs.List.{Contains, list_all}
use Rattle.conda_refute.specs.Literals.{clause_true}
use Rattle.conda_record.specs.declared.pkg_record.PkgRecord.{PkgRecord}
use Rattle.conda_record.specs.declared.pool.NamePool.{NamePool}
use Rattle.conda_encode.specs.Clauses.{clauses, on}
use Rattle.conda_encode.specs.Models.{IsModel}
use Rattle.conda_encode.specs.Solution.{IsSolution}
use Rattle.conda_encode.specs.Variables.{IsRequest, records, variables}
use Rattle.conda_encode.specs.declared.asked.Asked.{Asked}
use Rattle.conda_encode.proofs.Literals.{on_from, on_true, one_literal, only_literal}
use Rattle.conda_encode.proofs.Meaning.{low_of}
use Rattle.conda_encode.proofs.Members.{In, all_at, all_from, from_contains, in_either, in_filter, in_map, number_of, numbered_in, of_filter, of_map, to_contains}
use Rattle.conda_encode.proofs.Requests.{model_sides, solution_model}
use Rattle.conda_encode.proofs.Sides.{Numbered}
use Rattle.conda_resolve.specs.Choice.{CanStand, IsChoice, IsFirst, IsPicked, LeadsTo, has_name, in_front, installed_one, is_decided, is_fresh, is_installed, next_name, ranked}
use Rattle.conda_resolve.specs.Choice.LeadsTo.{done, step}
use Rattle.conda_resolve.proofs.Completing.{can_stand, closed_solves, falls, left}
use Rattle.conda_resolve.proofs.Naming.{by_option, find_some, has_is, is_has, name_of, next_is, none_next, other_name, pending, plain, wanted_comes}
use Rattle.conda_resolve.proofs.Satisfying.{Decided, satisfied_or_not}
use Rattle.conda_resolve.proofs.Sorted.{by_name, one_way, solves_so}
use Rattle.conda_resolve.proofs.Swapping.{stands_in_model}
use Rattle.conda_resolve.proofs.Walk.{AllTrue, IsSound, all_fewer, answers, all_more, differ_more, in_plain, nothing_sound, one_more, plain_more}

-- ---- the records of a name

front_in : (items : List Asked) (installed recs : List PkgRecord) (name : List ℕ) (b : Bool) (pkg : PkgRecord) →
    cond b None (find (is_installed (filter (has_name name) installed)) recs) ≡ Some pkg → In pkg recs
front_in items installed recs name true pkg h = cc
front_in items installed recs name false pkg h = (find_some (is_installed (filter (has_name name) installed)) recs pkg h).0

of_front : (o : Option PkgRecord) (recs : List PkgRecord) (pkg : PkgRecord) → ((m : PkgRecord) → o ≡ Some m → In m recs) → In pkg (in_front o recs) → In pkg recs
of_front None recs pkg here i = i
of_front (Some m) recs pkg here (inl e) = (let P : PkgRecord → Type 0 = λ r. In r recs in subst P e (here m refl))
of_front (Some m) recs pkg here (inr i) = i

to_front : (o : Option PkgRecord) (recs : List PkgRecord) (pkg : PkgRecord) → In pkg recs → In pkg (in_front o recs)
to_front None recs pkg i = i
to_front (Some m) recs pkg i = inr i

-- what is ranked is a record of the name
pub of_ranked : (pools : List NamePool) (items : List Asked) (installed : List PkgRecord) (name : List ℕ) (pkg : PkgRecord) → In pkg (ranked pools items installed name) →
    (x : Numbered) × In x (variables pools) × (x.1 ≡ pkg) × (name ≡ name_of x.1)
of_ranked pools items installed name pkg i =
    let recs = filter (has_name name) (records pools) in
    let j : In pkg recs = of_front (installed_one items installed name recs) recs pkg (front_in items installed recs name (is_fresh items name)) i in
    let f = of_filter (has_name name) (records pools) pkg j in
    let n : (n : ℕ) × In (n, pkg) (variables pools) = number_of 1 (records pools) pkg f.0 in
    ((n.0, pkg), n.1, refl, has_is name pkg f.1)

pub to_ranked : (pools : List NamePool) (items : List Asked) (installed : List PkgRecord) (name : List ℕ) (x : Numbered) → In x (variables pools) → name ≡ name_of x.1 →
    In x.1 (ranked pools items installed name)
to_ranked pools items installed name x i own =
    let recs = filter (has_name name) (records pools) in
    to_front (installed_one items installed name recs) recs x.1
    (in_filter (has_name name) (records pools) x.1 (numbered_in 1 (records pools) x i) (is_has name x.1 own))

-- ---- the first that can stand

pub first_of : {A : Type 0} (P : A → Type 0) (xs : List A) (x : A) → IsFirst P xs x → In x xs × P x
first_of P [] x h = absurd h
first_of P (y ∷ ys) x (inl h) = (inl h.0, h.1)
first_of P (y ∷ ys) x (inr h) = (inr (first_of P ys x h.1).0, (first_of P ys x h.1).1)

first_once : {A : Type 0} (P : A → Type 0) (xs : List A) (x y : A) → IsFirst P xs x → IsFirst P xs y → x ≡ y
first_once P [] x y h k = absurd h
first_once P (z ∷ zs) x y (inl h) (inl k) = sym h.0 ∙ k.0
first_once P (z ∷ zs) x y (inl h) (inr k) = absurd (k.0 (subst P (sym h.0) h.1))
first_once P (z ∷ zs) x y (inr h) (inl k) = absurd (h.0 (subst P (sym k.0) k.1))
first_once P (z ∷ zs) x y (inr h) (inr k) = first_once P zs x y h.1 k.1

first_exists : {A : Type 0} (P : A → Type 0) (xs : List A) (x : A) → ((y : A) → In y xs → Decided (P y)) → In x xs → P x → (y : A) × IsFirst P xs y
first_exists P [] x answer i h = absurd i
first_exists {A} P (y ∷ ys) x answer i h =
    elim (answer y (inl refl)) [
      | inl p ↦ (y, inl (refl, p))
      | inr free ↦ elim i as (λ _. (z : A) × IsFirst P (y ∷ ys) z) [
        | inl e ↦ absurd (free (subst P (sym e) h))
        | inr j ↦ let f : (z : A) × IsFirst P ys z = first_exists P ys x (λ z k. answer z (inr k)) j h in (f.0, inr (free, f.1))
      ]
    ]

-- ---- whether a record can stand

-- a record of a next name stands in a solution with what is decided, so that its variable and theirs are true in a model
pub record Standing (pools : List NamePool) (items : List Asked) (xs : List Numbered) (x : Numbered) : Type 0 where
  pub v : ℕ → Bool
  pub model : IsModel pools items v
  pub all : AllTrue pools v (xs ++ x ∷ [])

abbrev pub IsNext : List Asked → List Numbered → List ℕ → Type 0
IsNext items xs name = In name (pending items (plain xs)) × (is_decided (plain xs) name ≡ false)

pub standing : (pools : List NamePool) (items : List Asked) (xs : List Numbered) (name : List ℕ) (x : Numbered) → IsRequest pools items → IsSound pools items xs → IsNext items xs name →
    In x (variables pools) → name ≡ name_of x.1 → CanStand pools items (plain xs) x.1 → Standing pools items xs x
standing pools items xs name x request sound next i own (set, solution, c, each) =
    let vars : (y : Numbered) → In y (xs ++ x ∷ []) → In y (variables pools) = λ y j. elim (in_either xs (x ∷ []) y j) [
      | inl h ↦ sound.numbered y h
      | inr (inl e) ↦ (let S : Numbered → Type 0 = λ u. In u (variables pools) in subst S e i)
      | inr (inr h) ↦ absurd h
    ] in
    let members : (y : Numbered) → In y (xs ++ x ∷ []) → Contains set y.1 = λ y j. elim (in_either xs (x ∷ []) y j) [
      | inl h ↦ each y.1 (to_contains (plain xs) y.1 (in_plain xs y h))
      | inr (inl e) ↦ (let S : Numbered → Type 0 = λ u. Contains set u.1 in subst S e c)
      | inr (inr h) ↦ absurd h
    ] in
    let differ = differ_more xs x sound.differ (λ y j e. other_name (plain xs) name y.1 next.1 (in_plain xs y j) (own ∙ sym e)) in
    let m = stands_in_model pools items set (xs ++ x ∷ []) request solution vars differ members in
    record { v = m.0; model = m.1; all = m.2 }

-- such a model makes it sound to decide the record, and the record can stand
pub grown : (pools : List NamePool) (items : List Asked) (xs : List Numbered) (name : List ℕ) (x : Numbered) → IsRequest pools items → IsSound pools items xs → IsNext items xs name →
    name ≡ name_of x.1 → (v : ℕ → Bool) → IsModel pools items v → AllTrue pools v (xs ++ x ∷ []) → IsSound pools items (xs ++ x ∷ [])
grown pools items xs name x request sound next own v model all =
    let f = all_fewer pools v xs x all in
    one_more pools items v xs name x request (model_sides pools items v request model) f.0 sound next.0 next.1 f.1 own

pub stands_so : (pools : List NamePool) (items : List Asked) (xs : List Numbered) (name : List ℕ) (x : Numbered) → IsRequest pools items → IsSound pools items xs → IsNext items xs name →
    name ≡ name_of x.1 → (v : ℕ → Bool) → IsModel pools items v → AllTrue pools v (xs ++ x ∷ []) → CanStand pools items (plain xs) x.1
stands_so pools items xs name x request sound next own v model all =
    can_stand pools items v xs x request (model_sides pools items v request model) all (grown pools items xs name x request sound next own v model all)

-- clauses that say that these variables are true
abbrev units : List Numbered → List (List ℤ)
units xs = map (λ x. on x.0 ∷ []) xs

both_all : {A : Type 0} (p : A → Bool) (xs ys : List A) → list_all p (xs ++ ys) ≡ true → (list_all p xs ≡ true) × (list_all p ys ≡ true)
both_all p [] ys h = (refl, h)
both_all p (x ∷ xs) ys h =
    let parts = and_parts (p x) (list_all p (xs ++ ys)) h in
    let rest = both_all p xs ys parts.1 in
    (and_from (p x) (list_all p xs) parts.0 rest.0, rest.1)

all_both : {A : Type 0} (p : A → Bool) (xs ys : List A) → list_all p xs ≡ true → list_all p ys ≡ true → list_all p (xs ++ ys) ≡ true
all_both p [] ys h k = k
all_both p (x ∷ xs) ys h k =
    let parts = and_parts (p x) (list_all p xs) h in
    and_from (p x) (list_all p (xs ++ ys)) parts.0 (all_both p xs ys parts.1 k)

units_true : (pools : List NamePool) (v : ℕ → Bool) (xs : List Numbered) → AllTrue pools v xs → list_all (clause_true v) (units xs) ≡ true
units_true pools v xs all =
    all_from (clause_true v) (units xs) (λ c i.
    let w : (x : Numbered) × In x xs × (on x.0 ∷ [] ≡ c) = of_map (λ (x : Numbered). on x.0 ∷ []) xs c i in
    let t = all w.0 w.1 in
    ap (clause_true v) (sym w.2) ∙ one_literal v (on w.0.0) (on_from v w.0.0 (low_of pools w.0 t.0) t.1))

true_units : (pools : List NamePool) (v : ℕ → Bool) (xs : List Numbered) → ((x : Numbered) → In x xs → In x (variables pools)) → list_all (clause_true v) (units xs) ≡ true → AllTrue pools v xs
true_units pools v xs vars h x i =
    (vars x i, on_true v x.0 (only_literal v (on x.0) (all_at (clause_true v) (units xs) (on x.0 ∷ []) h (in_map (λ (x : Numbered). on x.0 ∷ []) xs x i))))

stands_or_not : (pools : List NamePool) (items : List Asked) (xs : List Numbered) (name : List ℕ) (x : Numbered) → IsRequest pools items → IsSound pools items xs → IsNext items xs name →
    In x (variables pools) → name ≡ name_of x.1 → Decided (CanStand pools items (plain xs) x.1)
stands_or_not pools items xs name x request sound next i own =
    let all = xs ++ x ∷ [] in
    let vars : (y : Numbered) → In y all → In y (variables pools) = λ y j. elim (in_either xs (x ∷ []) y j) [
      | inl h ↦ sound.numbered y h
      | inr (inl e) ↦ (let S : Numbered → Type 0 = λ u. In u (variables pools) in subst S e i)
      | inr (inr h) ↦ absurd h
    ] in
    elim (satisfied_or_not (clauses pools items ++ units all)) [
      | inl s ↦
          let parts = both_all (clause_true s.0) (clauses pools items) (units all) s.1 in
          inl (stands_so pools items xs name x request sound next own s.0 parts.0 (true_units pools s.0 all vars parts.1))
      | inr none ↦ inr (λ can.
          let s = standing pools items xs name x request sound next i own can in
          none s.v (all_both (clause_true s.v) (clauses pools items) (units all) s.model (units_true pools s.v all s.all)))
    ]

-- ---- one at most

none_some : {A : Type 0} (o : Option A) (x : A) → o ≡ None → o ≡ Some x → ⊥
none_some o x h k = cc

some_once : {A : Type 0} (o : Option A) (x y : A) → o ≡ Some x → o ≡ Some y → x ≡ y
some_once o x y h k = cc

pub leads_once : (pools : List NamePool) (items : List Asked) (installed decided end other : List PkgRecord) → LeadsTo pools items installed decided end → LeadsTo pools items installed decided other → end ≡ other
leads_once pools items installed decided _ _ (done _ none) (done _ _) = refl
leads_once pools items installed decided _ other (done _ none) (step _ _ name pkg next picked rest) = absurd (none_some (next_name items decided) name none next)
leads_once pools items installed decided end _ (step _ _ name pkg next picked rest) (done _ none) = absurd (none_some (next_name items decided) name none next)
leads_once pools items installed decided end other (step _ _ name pkg next picked rest) (step _ _ name' pkg' next' picked' rest') =
    let same_name : name' ≡ name = some_once (next_name items decided) name' name next' next in
    let P : List ℕ → Type 0 = λ n. IsPicked pools items installed decided n pkg' in
    let same : pkg' ≡ pkg = first_once (CanStand pools items decided) (ranked pools items installed name) pkg' pkg (subst P same_name picked') picked in
    let Q : PkgRecord → Type 0 = λ r. LeadsTo pools items installed (decided ++ r ∷ []) other in
    leads_once pools items installed (decided ++ pkg ∷ []) end other rest (subst Q same rest')

-- ---- it is a solution

-- what is decided is true in some model, or nothing is decided
abbrev MayStand : List NamePool → List Asked → List Numbered → Type 0
MayStand pools items xs = ((v : ℕ → Bool) × IsModel pools items v × AllTrue pools v xs) ⊎ (xs ≡ [])

nothing_solves : (pools : List NamePool) (items : List Asked) → next_name items [] ≡ None → IsSolution [] items pools
nothing_solves pools items none = record {
  of_pools = λ m c. absurd (from_contains [] m c);
  apart = λ i j d lt far. absurd (omega arith);
  wanted = λ spec wants. absurd (true≢false (sym (none_next items [] none spec.name (wanted_comes items [] spec wants))));
  depends = λ m c. absurd (from_contains [] m c);
  pinned = λ spec pins m c. absurd (from_contains [] m c);
  constrains = λ m n c. absurd (from_contains [] m c);
  reached = λ m c. absurd (from_contains [] m c);
}

done_solves : (pools : List NamePool) (items : List Asked) (xs : List Numbered) → IsRequest pools items → IsSound pools items xs → MayStand pools items xs → next_name items (plain xs) ≡ None →
    IsSolution (plain xs) items pools
done_solves pools items xs request sound (inl s) none = closed_solves pools items s.0 xs request (model_sides pools items s.0 request s.1) s.2 sound none
done_solves pools items xs request sound (inr e) none =
    let P : List Numbered → Type 0 = λ ys. IsSolution (plain ys) items pools in
    let Q : List Numbered → Type 0 = λ ys. next_name items (plain ys) ≡ None in
    subst P (sym e) (nothing_solves pools items (subst Q e none))

pub leads_solves : (pools : List NamePool) (items : List Asked) (installed decided end : List PkgRecord) → IsRequest pools items → LeadsTo pools items installed decided end →
    (xs : List Numbered) → plain xs ≡ decided → IsSound pools items xs → MayStand pools items xs → IsSolution end items pools
leads_solves pools items installed decided _ request (done _ none) xs e sound may =
    let P : List PkgRecord → Type 0 = λ ds. IsSolution ds items pools in
    let Q : List PkgRecord → Type 0 = λ ds. next_name items ds ≡ None in
    subst P e (done_solves pools items xs request sound may (subst Q (sym e) none))
leads_solves pools items installed decided end request (step _ _ name pkg next picked rest) xs e sound may =
    let f = first_of (CanStand pools items decided) (ranked pools items installed name) pkg picked in
    let x = of_ranked pools items installed name pkg f.0 in
    let Q : List PkgRecord → Type 0 = λ ds. next_name items ds ≡ Some name in
    let n : IsNext items xs name = next_is items (plain xs) name (subst Q (sym e) next) in
    let P : List PkgRecord → Type 0 = λ ds. CanStand pools items ds pkg in
    let R : PkgRecord → Type 0 = λ r. CanStand pools items (plain xs) r in
    let can : CanStand pools items (plain xs) x.0.1 = subst R (sym x.2) (subst P (sym e) f.1) in
    let s = standing pools items xs name x.0 request sound n x.1 x.3 can in
    leads_solves pools items installed (decided ++ pkg ∷ []) end request rest (xs ++ x.0 ∷ [])
    (plain_more xs x.0 ∙ ap (λ ds. ds ++ x.0.1 ∷ []) e ∙ ap (λ r. decided ++ r ∷ []) x.2)
    (grown pools items xs name x.0 request sound n x.3 s.v s.model s.all)
    (inl (s.v, s.model, s.all))

-- ---- there is one

-- what is picked for the next name, and a model in which it is true with all that was decided
record Picked (pools : List NamePool) (items : List Asked) (installed : List PkgRecord) (xs : List Numbered) (name : List ℕ) : Type 0 where
  pub x : Numbered
  pub picked : IsPicked pools items installed (plain xs) name x.1
  pub v : ℕ → Bool
  pub model : IsModel pools items v
  pub all : AllTrue pools v (xs ++ x ∷ [])
  pub sound : IsSound pools items (xs ++ x ∷ [])
  pub falls : left (plain (xs ++ x ∷ [])) (records pools) < left (plain xs) (records pools)

pick : (pools : List NamePool) (items : List Asked) (installed : List PkgRecord) (xs : List Numbered) (name : List ℕ) → IsRequest pools items → IsSound pools items xs → (v : ℕ → Bool) →
    IsModel pools items v → AllTrue pools v xs → IsNext items xs name → Picked pools items installed xs name
pick pools items installed xs name request sound v model all next =
    let a = answers pools items v xs name request (model_sides pools items v request model) all next.0 in
    let can : CanStand pools items (plain xs) a.found.1
    = stands_so pools items xs name a.found request sound next a.named v model (all_more pools v xs a.found all a.is_true) in
    let rs = ranked pools items installed name in
    let answer : (r : PkgRecord) → In r rs → Decided (CanStand pools items (plain xs) r) = λ r i.
    let x = of_ranked pools items installed name r i in
    let P : PkgRecord → Type 0 = λ r. Decided (CanStand pools items (plain xs) r) in
    subst P x.2 (stands_or_not pools items xs name x.0 request sound next x.1 x.3) in
    let f : (r : PkgRecord) × IsFirst (CanStand pools items (plain xs)) rs r
    = first_exists (CanStand pools items (plain xs)) rs a.found.1 answer (to_ranked pools items installed name a.found a.is_true.0 a.named) can in
    let g = first_of (CanStand pools items (plain xs)) rs f.0 f.1 in
    let x = of_ranked pools items installed name f.0 g.0 in
    let Q : PkgRecord → Type 0 = λ r. CanStand pools items (plain xs) r in
    let R : PkgRecord → Type 0 = λ r. IsFirst (CanStand pools items (plain xs)) rs r in
    let s = standing pools items xs name x.0 request sound next x.1 x.3 (subst Q (sym x.2) g.1) in
    record {
      x = x.0;
      picked = subst R (sym x.2) f.1;
      v = s.v;
      model = s.model;
      all = s.all;
      sound = grown pools items xs name x.0 request sound next x.3 s.v s.model s.all;
      falls = falls pools xs name x.0 x.1 next.1 x.3;
    }

walk : (k : ℕ) (pools : List NamePool) (items : List Asked) (installed : List PkgRecord) (xs : List Numbered) → left (plain xs) (records pools) ≤ k → IsRequest pools items → IsSound pools items xs →
    (v : ℕ → Bool) → IsModel pools items v → AllTrue pools v xs → (end : List PkgRecord) × LeadsTo pools items installed (plain xs) end
walk zero pools items installed xs le request sound v model all =
    elim (by_option (next_name items (plain xs))) [
      | inl none ↦ (plain xs, done (plain xs) none)
      | inr some ↦
          let p = pick pools items installed xs some.0 request sound v model all (next_is items (plain xs) some.0 some.1) in
          absurd (omega (arith, p.falls))
    ]
walk (suc k) pools items installed xs le request sound v model all =
    elim (by_option (next_name items (plain xs))) [
      | inl none ↦ (plain xs, done (plain xs) none)
      | inr some ↦
          let p = pick pools items installed xs some.0 request sound v model all (next_is items (plain xs) some.0 some.1) in
          let rest : (end : List PkgRecord) × LeadsTo pools items installed (plain (xs ++ p.x ∷ [])) end
          = walk k pools items installed (xs ++ p.x ∷ []) (omega (arith, p.falls)) request p.sound p.v p.model p.all in
          let P : List PkgRecord → Type 0 = λ ds. LeadsTo pools items installed ds rest.0 in
          (rest.0, step (plain xs) rest.0 some.0 p.x.1 some.1 p.picked (subst P (plain_more xs p.x) rest.1))
    ]

-- ---- the laws

pub choice_solution : (pools : List NamePool) (items : List Asked) → IsRequest pools items → (installed set : List PkgRecord) → IsChoice pools items installed set → IsSolution set items pools
choice_solution pools items request installed set choice =
    solves_so pools items choice.decided set choice.same choice.by_name
    (leads_solves pools items installed [] choice.decided request choice.leads [] refl (nothing_sound pools items) (inr refl))

pub choice_one : (pools : List NamePool) (items : List Asked) (installed set other : List PkgRecord) → IsChoice pools items installed set → IsChoice pools items installed other → set ≡ other
choice_one pools items installed set other a b =
    let same : a.decided ≡ b.decided = leads_once pools items installed [] a.decided b.decided a.leads b.leads in
    let P : List PkgRecord → Type 0 = λ ds. (m : PkgRecord) → Contains ds m ↔ Contains set m in
    let members : (m : PkgRecord) → Contains b.decided m ↔ Contains set m = subst P same a.same in
    one_way set other a.by_name b.by_name
    (λ k i. from_contains other k ((b.same k).0 ((members k).1 (to_contains set k i))))
    (λ k i. from_contains set k ((members k).0 ((b.same k).1 (to_contains other k i))))

pub choice_from : (pools : List NamePool) (items : List Asked) → IsRequest pools items → (installed : List PkgRecord) → (set : List PkgRecord) × IsSolution set items pools →
    (set : List PkgRecord) × IsChoice pools items installed set
choice_from pools items request installed (set, solution) =
    let m = solution_model pools items request set solution in
    let w : (end : List PkgRecord) × LeadsTo pools items installed [] end
    = walk (left [] (records pools)) pools items installed [] (omega arith) request (nothing_sound pools items) m.0 m.1 (λ x i. absurd i) in
    let solves = leads_solves pools items installed [] w.0 request w.1 [] refl (nothing_sound pools items) (inr refl) in
    let s = by_name w.0 solves.apart in (
      s.set,
      record {
        decided = w.0;
        leads = w.1;
        same = λ m. (λ c. to_contains s.set m (s.into m (from_contains w.0 m c)), λ c. to_contains w.0 m (s.from m (from_contains s.set m c)));
        by_name = s.ascends;
      },
    )
