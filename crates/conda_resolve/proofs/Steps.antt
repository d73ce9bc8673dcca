-- How names are decided, one after another.
use Rattle.std.proofs.Common.{◌≡◌, ℕ, zero, suc, ◌+◌, ◌<◌, ◌≤◌, ℤ, Bool, true, false, cond, ◌||◌, List, [], ◌∷◌, ◌++◌, Option, Some, drop, is_some, length, map, take, get_or, refl, sym, ap, ◌∙◌, subst, inl, inr, arith}
use Rattle.std.proofs.lemmas.List.{append-nil, map-append, take-append-le, take_more}
use Rattle.std.specs.List.{Contains, list_all}
use Rattle.std.specs.Map.{lookup}
use Rattle.conda_base.specs.Texts.{is_text}
use Rattle.conda_refute.specs.Literals.{literal_true}
use Rattle.conda_record.specs.declared.pkg_record.PkgRecord.{PkgRecord}
use Rattle.conda_record.specs.declared.pool.NamePool.{NamePool}
use Rattle.conda_encode.specs.Clauses.{clauses, on}
use Rattle.conda_encode.specs.Sides.{is_within, side_of}
use Rattle.conda_encode.specs.Variables.{IsRequest, records, variables, vars_of}
use Rattle.conda_encode.specs.declared.asked.Asked.{Asked}
use Rattle.conda_encode.proofs.Literals.{on_from, on_true}
use Rattle.conda_encode.proofs.Meaning.{low_of}
use Rattle.conda_encode.proofs.Members.{In, all_at, all_from, from_contains, in_either, in_map, number_high, number_once, of_map, to_contains}
use Rattle.conda_encode.proofs.Requests.{model_sides}
use Rattle.conda_encode.proofs.Sides.{Numbered}
use Rattle.conda_resolve.specs.Asking.{AreDecided, AreWithin, IsFound, IsModelWith, IsOpen, NoneOpen, ranked_variables}
use Rattle.conda_resolve.specs.Choice.{CanStand, IsFirst, IsPicked, LeadsTo, is_decided, needs_of, next_name}
use Rattle.conda_resolve.specs.Choice.LeadsTo.{done, step}
use Rattle.conda_resolve.proofs.Choosing.{IsNext, grown, standing, stands_so}
use Rattle.conda_resolve.proofs.Completing.{more_decided, last_in}
use Rattle.conda_resolve.proofs.Naming.{decided_from, name_of, next_here, next_nowhere, numbers, pending, pending_more, plain}
use Rattle.conda_resolve.proofs.Ranks.{in_at, of_rank, plain-ranked, to_rank}
use Rattle.conda_resolve.proofs.Walk.{AllTrue, IsSound, all_more, answers, nothing_sound, plain_more}

-- the literals of these variables
abbrev pub literals : List Numbered → List ℤ
literals xs = map (λ x. on x.0) xs

abbrev pub pair_of : Numbered → List ℕ × ℕ
pair_of x = (name_of x.1, x.0)

-- what is decided so far, by the list of names that came up, of which so many are done
pub record IsWalk (pools : List NamePool) (items : List Asked) (installed : List PkgRecord) (called : List (List ℕ)) (at : ℕ) (entries : List (List ℕ × ℕ)) (assumed : List ℤ) (sides : List Bool) : Type 0 where
  pub xs : List Numbered
  pub named : entries ≡ map pair_of xs
  pub literals_are : assumed ≡ literals xs
  pub sound : IsSound pools items xs
  pub leads : (end : List PkgRecord) → LeadsTo pools items installed (plain xs) end → LeadsTo pools items installed [] end
  pub called_are : called ≡ pending items (plain xs)
  pub seen : (name : List ℕ) → In name (take at called) → is_decided (plain xs) name ≡ true
  pub within : AreWithin (vars_of pools) assumed
  pub model : IsModelWith (vars_of pools) (clauses pools items) assumed sides

-- ---- at first and in the end

pub starts : (pools : List NamePool) (items : List Asked) (installed : List PkgRecord) (called : List (List ℕ)) (entries : List (List ℕ × ℕ)) (assumed : List ℤ) (sides : List Bool) →
    called ≡ pending items [] → entries ≡ [] → assumed ≡ [] → IsModelWith (vars_of pools) (clauses pools items) [] sides → IsWalk pools items installed called 0 entries assumed sides
starts pools items installed called entries assumed sides e none nothing model =
    let P : List ℤ → Type 0 = λ ls. IsModelWith (vars_of pools) (clauses pools items) ls sides in
    record {
      xs = [];
      named = none;
      literals_are = nothing;
      sound = nothing_sound pools items;
      leads = λ end l. l;
      called_are = e;
      seen = λ name i. absurd i;
      within = ap (λ ls. list_all (is_within (vars_of pools)) ls) nothing;
      model = subst P (sym nothing) model;
    }

pub ends : (pools : List NamePool) (items : List Asked) (installed : List PkgRecord) (called : List (List ℕ)) (at : ℕ) (entries : List (List ℕ × ℕ)) (assumed : List ℤ) (sides : List Bool) →
    take at called ≡ called → IsWalk pools items installed called at entries assumed sides → AreDecided pools items installed entries
ends pools items installed called at entries assumed sides all w =
    let P : List (List ℕ) → Type 0 = λ names. (name : List ℕ) → In name names → is_decided (plain w.xs) name ≡ true in
    let every : (name : List ℕ) → In name (pending items (plain w.xs)) → is_decided (plain w.xs) name ≡ true = subst P (all ∙ w.called_are) w.seen in
    record {
      xs = w.xs;
      named = w.named;
      numbered = λ x c. to_contains (variables pools) x (w.sound.numbered x (from_contains w.xs x c));
      leads = w.leads (plain w.xs) (done (plain w.xs) (next_nowhere items (plain w.xs) every));
    }

-- ---- a name that is decided

looked_cond : (b : Bool) (n : ℕ) (o : Option ℕ) (rest : Bool) → is_some o ≡ rest → is_some (cond b (Some n) o) ≡ (b || rest)
looked_cond true n o rest e = refl
looked_cond false n o rest e = e

-- the map has a name where it's decided
looked : (xs : List Numbered) (name : List ℕ) → is_some (lookup (is_text name) (map pair_of xs)) ≡ is_decided (plain xs) name
looked [] name = refl
looked (x ∷ xs) name = looked_cond (is_text name (name_of x.1)) x.0 (lookup (is_text name) (map pair_of xs)) (is_decided (plain xs) name) (looked xs name)

pub known : (pools : List NamePool) (items : List Asked) (installed : List PkgRecord) (called : List (List ℕ)) (at : ℕ) (entries : List (List ℕ × ℕ)) (assumed : List ℤ) (sides : List Bool) →
    (w : IsWalk pools items installed called at entries assumed sides) → (name : List ℕ) → is_some (lookup (is_text name) entries) ≡ is_decided (plain w.xs) name
known pools items installed called at entries assumed sides w name = ap (λ es. is_some (lookup (is_text name) es)) w.named ∙ looked w.xs name

take_next : (called : List (List ℕ)) (at : ℕ) (name : List ℕ) → at < length called → get_or called at name ≡ name → take (at + 1) called ≡ take at called ++ name ∷ []
take_next called at name lt e = take_more called at name lt ∙ ap (λ n. take at called ++ n ∷ []) e

split_here : (called : List (List ℕ)) (at : ℕ) (name : List ℕ) → at < length called → get_or called at name ≡ name → called ≡ take at called ++ name ∷ drop (suc at) called
split_here [] at name lt e = absurd (omega arith)
split_here (c ∷ cs) zero name lt e = ap (λ n. n ∷ cs) e
split_here (c ∷ cs) (suc at) name lt e = ap (λ ns. c ∷ ns) (split_here cs at name (omega arith) e)

seen_next : (called : List (List ℕ)) (at : ℕ) (name : List ℕ) (P : List ℕ → Type 0) → at < length called → get_or called at name ≡ name → ((other : List ℕ) → In other (take at called) → P other) → P name →
    (other : List ℕ) → In other (take (at + 1) called) → P other
seen_next called at name P lt e before here other i =
    let Q : List (List ℕ) → Type 0 = λ ns. In other ns in
    elim (in_either (take at called) (name ∷ []) other (subst Q (take_next called at name lt e) i)) [
      | inl j ↦ before other j
      | inr (inl f) ↦ subst P f here
      | inr (inr j) ↦ absurd j
    ]

-- the name is decided already
pub passed : (pools : List NamePool) (items : List Asked) (installed : List PkgRecord) (called : List (List ℕ)) (at : ℕ) (entries : List (List ℕ × ℕ)) (assumed : List ℤ) (sides : List Bool) (name : List ℕ) →
    IsWalk pools items installed called at entries assumed sides → at < length called → get_or called at name ≡ name → is_some (lookup (is_text name) entries) ≡ true →
    IsWalk pools items installed called (at + 1) entries assumed sides
passed pools items installed called at entries assumed sides name w lt e h =
    record {
      xs = w.xs;
      named = w.named;
      literals_are = w.literals_are;
      sound = w.sound;
      leads = w.leads;
      called_are = w.called_are;
      seen = seen_next called at name (λ n. is_decided (plain w.xs) n ≡ true) lt e w.seen (sym (known pools items installed called at entries assumed sides w name) ∙ h);
      within = w.within;
      model = w.model;
    }

-- ---- literals that are true

pub literals_true : (pools : List NamePool) (v : ℕ → Bool) (xs : List Numbered) → AllTrue pools v xs → list_all (literal_true v) (literals xs) ≡ true
literals_true pools v xs all =
    all_from (literal_true v) (literals xs) (λ l i.
    let w : (x : Numbered) × In x xs × (on x.0 ≡ l) = of_map (λ (x : Numbered). on x.0) xs l i in
    let t = all w.0 w.1 in
    ap (literal_true v) (sym w.2) ∙ on_from v w.0.0 (low_of pools w.0 t.0) t.1)

pub true_literals : (pools : List NamePool) (v : ℕ → Bool) (xs : List Numbered) → ((x : Numbered) → In x xs → In x (variables pools)) → list_all (literal_true v) (literals xs) ≡ true → AllTrue pools v xs
true_literals pools v xs vars h x i =
    (vars x i, on_true v x.0 (all_at (literal_true v) (literals xs) (on x.0) h (in_map (λ (x : Numbered). on x.0) xs x i)))

literals_more : (xs : List Numbered) (x : Numbered) → literals (xs ++ x ∷ []) ≡ literals xs ++ on x.0 ∷ []
literals_more xs x = map-append (λ (x : Numbered). on x.0) xs (x ∷ [])

with_one : (pools : List NamePool) (xs : List Numbered) (x : Numbered) → ((y : Numbered) → In y xs → In y (variables pools)) → In x (variables pools) → (y : Numbered) → In y (xs ++ x ∷ []) → In y (variables pools)
with_one pools xs x vars i y j =
    elim (in_either xs (x ∷ []) y j) [
      | inl h ↦ vars y h
      | inr (inl e) ↦ (let S : Numbered → Type 0 = λ u. In u (variables pools) in subst S e i)
      | inr (inr h) ↦ absurd h
    ]

-- ---- variables that can be true, and records that can stand

-- from what is decided, the variable of a record of the next name can be true exactly where the record can stand
open_stands : (pools : List NamePool) (items : List Asked) (xs : List Numbered) (name : List ℕ) (x : Numbered) → IsRequest pools items → IsSound pools items xs → IsNext items xs name →
    In x (variables pools) → name ≡ name_of x.1 → IsOpen (clauses pools items) (literals xs) x.0 → CanStand pools items (plain xs) x.1
open_stands pools items xs name x request sound next i own (v, model, h) =
    let P : List ℤ → Type 0 = λ ls. list_all (literal_true v) ls ≡ true in
    stands_so pools items xs name x request sound next own v model
    (true_literals pools v (xs ++ x ∷ []) (with_one pools xs x sound.numbered i) (subst P (sym (literals_more xs x)) h))

stands_open : (pools : List NamePool) (items : List Asked) (xs : List Numbered) (name : List ℕ) (x : Numbered) → IsRequest pools items → IsSound pools items xs → IsNext items xs name →
    In x (variables pools) → name ≡ name_of x.1 → CanStand pools items (plain xs) x.1 → IsOpen (clauses pools items) (literals xs) x.0
stands_open pools items xs name x request sound next i own can =
    let s = standing pools items xs name x request sound next i own can in
    (s.v, s.model, sym (ap (list_all (literal_true s.v)) (literals_more xs x)) ∙ literals_true pools s.v (xs ++ x ∷ []) s.all)

record Found (P : PkgRecord → Type 0) (ys : List Numbered) (n : ℕ) : Type 0 where
  pub x : Numbered
  pub among : In x ys
  pub number : x.0 ≡ n
  pub first : IsFirst P (plain ys) x.1

first_record : (Q : ℕ → Type 0) (P : PkgRecord → Type 0) (ys : List Numbered) (n : ℕ) → ((y : Numbered) → In y ys → Q y.0 → P y.1) → ((y : Numbered) → In y ys → P y.1 → Q y.0) →
    IsFirst Q (numbers ys) n → Found P ys n
first_record Q P [] n to back h = absurd h
first_record Q P (y ∷ ys) n to back (inl h) = record {
  x = y;
  among = inl refl;
  number = h.0;
  first = inl (refl, to y (inl refl) (subst Q (sym h.0) h.1));
}
first_record Q P (y ∷ ys) n to back (inr h) =
    let f = first_record Q P ys n (λ z i. to z (inr i)) (λ z i. back z (inr i)) h.1 in
    record { x = f.x; among = inr f.among; number = f.number; first = inr (λ p. h.0 (back y (inl refl) p), f.first) }

-- ---- a name that is next

pub is_next : (pools : List NamePool) (items : List Asked) (installed : List PkgRecord) (called : List (List ℕ)) (at : ℕ) (entries : List (List ℕ × ℕ)) (assumed : List ℤ) (sides : List Bool) (name : List ℕ) →
    (w : IsWalk pools items installed called at entries assumed sides) → at < length called → get_or called at name ≡ name → is_some (lookup (is_text name) entries) ≡ false →
    IsNext items w.xs name
is_next pools items installed called at entries assumed sides name w lt e free =
    let P : List (List ℕ) → Type 0 = λ ns. In name ns in
    let Q : List ℕ → Type 0 = λ n. In n called in
    (subst P w.called_are (subst Q e (in_at called at name lt)), sym (known pools items installed called at entries assumed sides w name) ∙ free)

pub model_of : (pools : List NamePool) (items : List Asked) (installed : List PkgRecord) (called : List (List ℕ)) (at : ℕ) (entries : List (List ℕ × ℕ)) (assumed : List ℤ) (sides : List Bool) →
    (w : IsWalk pools items installed called at entries assumed sides) → AllTrue pools (side_of sides) w.xs
model_of pools items installed called at entries assumed sides w =
    let P : List ℤ → Type 0 = λ ls. list_all (literal_true (side_of sides)) ls ≡ true in
    true_literals pools (side_of sides) w.xs w.sound.numbered (subst P w.literals_are w.model.assumed_true)

-- one of the variables of a next name is true in the model at hand
pub never_none : (pools : List NamePool) (items : List Asked) (installed : List PkgRecord) (called : List (List ℕ)) (at : ℕ) (entries : List (List ℕ × ℕ)) (assumed : List ℤ) (sides : List Bool) (name : List ℕ)
    (candidates : List ℕ) → IsRequest pools items → (w : IsWalk pools items installed called at entries assumed sides) → at < length called → get_or called at name ≡ name →
    is_some (lookup (is_text name) entries) ≡ false → candidates ≡ numbers (ranked_variables pools items installed name) → NoneOpen (clauses pools items) assumed candidates → ⊥
never_none pools items installed called at entries assumed sides name candidates request w lt e free are none =
    let next = is_next pools items installed called at entries assumed sides name w lt e free in
    let all = model_of pools items installed called at entries assumed sides w in
    let v = side_of sides in
    let a = answers pools items v w.xs name request (model_sides pools items v request w.model.clauses_true) all next.0 in
    let rv = ranked_variables pools items installed name in
    let P : List ℕ → Type 0 = λ ns. In a.found.0 ns in
    let i : In a.found.0 candidates = subst P (sym are) (in_map (λ (x : Numbered). x.0) rv a.found (to_rank pools items installed name a.found a.is_true.0 a.named)) in
    none a.found.0 (to_contains candidates a.found.0 i) (
      v,
      w.model.clauses_true,
      ap (λ ls. list_all (literal_true v) (ls ++ on a.found.0 ∷ [])) w.literals_are
          ∙ sym (ap (list_all (literal_true v)) (literals_more w.xs a.found)) ∙ literals_true pools v (w.xs ++ a.found ∷ []) (all_more pools v w.xs a.found all a.is_true),
    )

-- the record of the variable that was found is decided
pub further : (pools : List NamePool) (items : List Asked) (installed : List PkgRecord) (called more : List (List ℕ)) (at : ℕ) (entries entries' : List (List ℕ × ℕ)) (assumed assumed' : List ℤ) (sides sides' : List Bool)
    (name : List ℕ) (candidates : List ℕ) (n : ℕ) (pkg : PkgRecord) → IsRequest pools items → IsWalk pools items installed called at entries assumed sides → at < length called →
    get_or called at name ≡ name → is_some (lookup (is_text name) entries) ≡ false → candidates ≡ numbers (ranked_variables pools items installed name) →
    IsFound (vars_of pools) (clauses pools items) assumed assumed' sides' candidates n → In (n, pkg) (variables pools) → more ≡ called ++ needs_of pkg → entries' ≡ entries ++ (name, n) ∷ [] →
    IsWalk pools items installed more (at + 1) entries' assumed' sides'
further pools items installed called more at entries entries' assumed assumed' sides sides' name candidates n pkg request w lt e free are found at_n longer put =
    let next = is_next pools items installed called at entries assumed sides name w lt e free in
    let rv = ranked_variables pools items installed name in
    let xs = w.xs in
    let Q : ℕ → Type 0 = λ k. IsOpen (clauses pools items) (literals xs) k in
    let P : PkgRecord → Type 0 = λ r. CanStand pools items (plain xs) r in
    let S : List ℕ → Type 0 = λ ns. IsFirst Q ns n in
    let T : List ℤ → Type 0 = λ ls. IsFirst (λ k. IsOpen (clauses pools items) ls k) candidates n in
    let here : IsFirst Q (numbers rv) n = subst S are (subst T w.literals_are found.first) in
    let f = first_record Q P rv n
    (λ y i. let r = of_rank pools items installed name y i in open_stands pools items xs name y request w.sound next r.0 r.1)
    (λ y i. let r = of_rank pools items installed name y i in stands_open pools items xs name y request w.sound next r.0 r.1)
    here in
    let x = f.x in
    let r = of_rank pools items installed name x f.among in
    let same : x.1 ≡ pkg = number_once 1 (records pools) x (n, pkg) r.0 at_n f.number in
    let all_literals : assumed' ≡ literals (xs ++ x ∷ []) =
    found.more ∙ ap (λ ls. ls ++ on n ∷ []) w.literals_are ∙ ap (λ k. literals xs ++ on k ∷ []) (sym f.number) ∙ sym (literals_more xs x) in
    let v = side_of sides' in
    let L : List ℤ → Type 0 = λ ls. list_all (literal_true v) ls ≡ true in
    let all : AllTrue pools v (xs ++ x ∷ []) = true_literals pools v (xs ++ x ∷ []) (with_one pools xs x w.sound.numbered r.0) (subst L all_literals found.model.assumed_true) in
    let picked : IsPicked pools items installed (plain xs) name x.1 = (let R : List PkgRecord → Type 0 = λ rs. IsFirst P rs x.1 in subst R (plain-ranked pools items installed name) f.first) in
    let D : List PkgRecord → Type 0 = λ ds. (end : List PkgRecord) → LeadsTo pools items installed ds end → LeadsTo pools items installed [] end in
    let nexts : next_name items (plain xs) ≡ Some name = next_here items (plain xs) (take at called) (drop (suc at) called) name
    (sym w.called_are ∙ split_here called at name lt e) w.seen next.1 in
    let leads : (end : List PkgRecord) → LeadsTo pools items installed (plain xs ++ x.1 ∷ []) end → LeadsTo pools items installed [] end =
    λ end l. w.leads end (step (plain xs) end name x.1 nexts picked l) in
    let N : List PkgRecord → Type 0 = λ ds. (other : List ℕ) → In other (take at called ++ name ∷ []) → is_decided ds other ≡ true in
    let decided_now : N (plain xs ++ x.1 ∷ []) = λ other i. elim (in_either (take at called) (name ∷ []) other i) [
      | inl j ↦ more_decided (plain xs) x.1 other (w.seen other j)
      | inr (inl g) ↦ decided_from (plain xs ++ x.1 ∷ []) other x.1 (last_in (plain xs) x.1) (sym g ∙ r.1)
      | inr (inr j) ↦ absurd j
    ] in
    let U : List (List ℕ) → Type 0 = λ ns. (other : List ℕ) → In other ns → is_decided (plain (xs ++ x ∷ [])) other ≡ true in
    record {
      xs = xs ++ x ∷ [];
      named = put ∙ ap (λ es. es ++ (name, n) ∷ []) w.named ∙ ap (λ m. map pair_of xs ++ (m, n) ∷ []) r.1 ∙ ap (λ k. map pair_of xs ++ (name_of x.1, k) ∷ []) (sym f.number)
          ∙ sym (map-append pair_of xs (x ∷ []));
      literals_are = all_literals;
      sound = grown pools items xs name x request w.sound next r.1 v found.model.clauses_true all;
      leads = subst D (sym (plain_more xs x)) leads;
      called_are = longer ∙ ap (λ ns. ns ++ needs_of pkg) w.called_are ∙ ap (λ q. pending items (plain xs) ++ needs_of q) (sym same)
          ∙ ap (λ ns. pending items (plain xs) ++ ns) (sym (append-nil (needs_of x.1))) ∙ sym (pending_more items (plain xs) x.1) ∙ ap (pending items) (sym (plain_more xs x));
      seen = subst U (sym (ap (take (at + 1)) longer ∙ take-append-le (at + 1) called (needs_of pkg) (omega arith) ∙ take_next called at name lt e)) (subst N (sym (plain_more xs x)) decided_now);
      within = found.within;
      model = found.model;
    }

-- each candidate is a variable
pub candidates_fit : (pools : List NamePool) (items : List Asked) (installed : List PkgRecord) (name : List ℕ) (candidates : List ℕ) → candidates ≡ numbers (ranked_variables pools items installed name) →
    (n : ℕ) → Contains candidates n → (1 ≤ n) × (n ≤ length (records pools))
candidates_fit pools items installed name candidates are n c =
    let rv = ranked_variables pools items installed name in
    let P : List ℕ → Type 0 = λ ns. In n ns in
    let w : (x : Numbered) × In x rv × (x.0 ≡ n) = of_map (λ (x : Numbered). x.0) rv n (subst P are (from_contains candidates n c)) in
    let r = of_rank pools items installed name w.0 w.1 in
    let low : 1 ≤ w.0.0 = low_of pools w.0 r.0 in
    let high : w.0.0 < 1 + length (records pools) = number_high 1 (records pools) w.0 r.0 in
    let e : w.0.0 ≡ n = w.2 in
    (omega arith, omega arith)
