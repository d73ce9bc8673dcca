-- The lists of the code that decides names, one after another.
use Rattle.std.proofs.Common.{◌≡◌, ℕ, zero, suc, ◌+◌, ◌-◌, ◌<◌, ◌≤◌, ◌^◌, ℤ, Bool, true, false, List, [], ◌∷◌, ◌++◌, Bor, MatchOption, Option, None, Some, cond, if◌then◌else◌, is_some, length, map, get_or, refl, sym, ap, ◌∙◌, subst, inl, inr, true≢false, arith}
use Rattle.std.proofs.lemmas.List.{get_or-map, length-map, take_all}
use Rattle.std.specs.List.{Contains, sum_by}
use Rattle.std.specs.Map.{lookup}
use Rattle.std.specs.Slice.{IsItemAt}
use Rattle.indexmap.specs.IndexMap.{insert_entry}
use Rattle.conda_base.specs.Texts.{is_text}
use Rattle.conda_spec.specs.Parts.{Parts}
use Rattle.conda_record.specs.declared.pkg_record.PkgRecord.{PkgRecord}
use Rattle.conda_record.specs.declared.pool.NamePool.{NamePool}
use Rattle.conda_encode.specs.Clauses.{clauses}
use Rattle.conda_encode.specs.Variables.{IsRequest, helpers_of, numbered, records, variables, vars_of}
use Rattle.conda_encode.specs.declared.asked.Asked.{Asked}
use Rattle.conda_encode.proofs.Bounds.{helpers_le}
use Rattle.conda_encode.proofs.Members.{In}
use Rattle.conda_resolve.specs.Asking.{AreDecided, IsFound, IsOpen, NoneOpen, ranked_variables}
use Rattle.conda_resolve.specs.Choice.{needs_of}
use Rattle.conda_resolve.proofs.Asks.{first_in}
use Rattle.conda_resolve.proofs.Naming.{numbers}
use Rattle.conda_resolve.proofs.Steps.{IsWalk, candidates_fit, ends, further, never_none}

-- the names of these specifications
abbrev pub called_of : List (Bor Parts) → List (List ℕ)
called_of specs = map (λ (s : Bor Parts). s.now.name) specs

pub called_here : (specs : List (Bor Parts)) (at : ℕ) (spec : Bor Parts) (name : List ℕ) → at < length specs → spec ≡ get_or specs at spec → name ≡ spec.now.name →
    (at < length (called_of specs)) × (get_or (called_of specs) at name ≡ name)
called_here specs at spec name lt e f =
    let long : length (called_of specs) ≡ length specs = length-map specs (λ (s : Bor Parts). s.now.name) in
    (omega arith, get_or-map (λ (s : Bor Parts). s.now.name) specs at spec name lt ∙ ap (λ (s : Bor Parts). s.now.name) (sym e) ∙ sym f)

pub ends_so : (pools : List NamePool) (items : List Asked) (installed : List PkgRecord) (specs : List (Bor Parts)) (at : ℕ) (entries : List (List ℕ × ℕ)) (assumed : List ℤ) (sides : List Bool) →
    length specs ≤ at → IsWalk pools items installed (called_of specs) at entries assumed sides → AreDecided pools items installed entries
ends_so pools items installed specs at entries assumed sides le w =
    let long : length (called_of specs) ≡ length specs = length-map specs (λ (s : Bor Parts). s.now.name) in
    ends pools items installed (called_of specs) at entries assumed sides (take_all at (called_of specs) (omega arith)) w

-- ---- variables

pub few_vars : (pools : List NamePool) (items : List Asked) (vars : ℕ) → IsRequest pools items → vars ≡ vars_of pools → (vars < 2 ^ 31) × (length (records pools) ≤ vars)
few_vars pools items vars request e =
    let few : length (records pools) < 2 ^ 28 = request.few in
    let same : vars ≡ length (records pools) + sum_by helpers_of pools = e in
    let le : sum_by helpers_of pools ≤ length (records pools) = helpers_le pools in
    (omega arith, omega arith)

pub fits : (pools : List NamePool) (items : List Asked) (installed : List PkgRecord) (name : List ℕ) (candidates : List ℕ) (vars : ℕ) → IsRequest pools items → vars ≡ vars_of pools →
    candidates ≡ numbers (ranked_variables pools items installed name) → (n : ℕ) → Contains candidates n → (1 ≤ n) × (n ≤ vars)
fits pools items installed name candidates vars request e are n c =
    let f = candidates_fit pools items installed name candidates are n c in
    let low : 1 ≤ n = f.0 in
    let high : n ≤ length (records pools) = f.1 in
    let more : length (records pools) ≤ vars = (few_vars pools items vars request e).1 in
    (low, omega arith)

number_at : {A : Type 0} (s : ℕ) (xs : List A) (i : ℕ) (d : A) → i < length xs → In (s + i, get_or xs i d) (numbered s xs)
number_at s [] i d lt = absurd (omega arith)
number_at {A} s (x ∷ xs) zero d lt = let e : s ≡ s + 0 = omega arith in inl (ap (λ (k : ℕ). (k, x)) e)
number_at {A} s (x ∷ xs) (suc i) d lt =
    let e : s + 1 + i ≡ s + suc i = omega arith in
    let P : ℕ → Type 0 = λ k. In (k, get_or xs i d) (numbered (s + 1) xs) in
    inr (subst P e (number_at (s + 1) xs i d (omega arith)))

-- the record of a variable
pub record_at : (pools : List NamePool) (recs : List (Bor PkgRecord)) (n : ℕ) (r : Bor PkgRecord) → map (λ (r : Bor PkgRecord). r.now) recs ≡ records pools → 1 ≤ n → n ≤ length (records pools) →
    r ≡ get_or recs (n - 1) r → In (n, r.now) (variables pools)
record_at pools recs n r same low high e =
    let long : length (map (λ (r : Bor PkgRecord). r.now) recs) ≡ length recs = length-map recs (λ (r : Bor PkgRecord). r.now) in
    let long' : length (map (λ (r : Bor PkgRecord). r.now) recs) ≡ length (records pools) = ap length same in
    let k : 1 + (n - 1) ≡ n = omega arith in
    let here : get_or (records pools) (n - 1) r.now ≡ r.now =
    ap (λ rs. get_or rs (n - 1) r.now) (sym same) ∙ get_or-map (λ (r : Bor PkgRecord). r.now) recs (n - 1) r r.now (omega arith) ∙ ap (λ (r : Bor PkgRecord). r.now) (sym e) in
    let P : ℕ → Type 0 = λ m. In (m, get_or (records pools) (n - 1) r.now) (variables pools) in
    let Q : PkgRecord → Type 0 = λ q. In (n, q) (variables pools) in
    subst Q here (subst P k (number_at 1 (records pools) (n - 1) r.now (omega arith)))

-- ---- what was found

pub none_of : (o : Option ℕ) → is_some o ≡ false → o ≡ None
none_of None h = refl
none_of (Some n) h = absurd (true≢false h)

pub none_found : (vars : ℕ) (cs : List (List ℤ)) (before after : List ℤ) (sides : List Bool) (candidates : List ℕ) (found : Option ℕ) → found ≡ None →
    MatchOption found (NoneOpen cs before candidates) (IsFound vars cs before after sides candidates) → NoneOpen cs before candidates
none_found vars cs before after sides candidates None e p = p
none_found vars cs before after sides candidates (Some n) e p = cc

pub one_found : (vars : ℕ) (cs : List (List ℤ)) (before after : List ℤ) (sides : List Bool) (candidates : List ℕ) (found : Option ℕ) (n : ℕ) → found ≡ Some n →
    MatchOption found (NoneOpen cs before candidates) (IsFound vars cs before after sides candidates) → IsFound vars cs before after sides candidates n
one_found vars cs before after sides candidates None n e p = cc
one_found vars cs before after sides candidates (Some m) n e p =
    let P : ℕ → Type 0 = λ k. IsFound vars cs before after sides candidates k in
    let same : m ≡ n = cc in
    subst P same p

pub found_fits : (pools : List NamePool) (items : List Asked) (installed : List PkgRecord) (name : List ℕ) (vars : ℕ) (cs : List (List ℤ)) (before after : List ℤ) (sides : List Bool) (candidates : List ℕ) (n : ℕ) →
    candidates ≡ numbers (ranked_variables pools items installed name) → IsFound vars cs before after sides candidates n → (1 ≤ n) × (n ≤ length (records pools))
found_fits pools items installed name vars cs before after sides candidates n are found =
    candidates_fit pools items installed name candidates are n (first_in (IsOpen cs before) candidates n found.first)

pub never : (pools : List NamePool) (items : List Asked) (installed : List PkgRecord) (called : List (List ℕ)) (at : ℕ) (entries : List (List ℕ × ℕ)) (assumed : List ℤ) (sides : List Bool) (name : List ℕ)
    (candidates : List ℕ) (cs : List (List ℤ)) → IsRequest pools items → IsWalk pools items installed called at entries assumed sides → (at < length called) × (get_or called at name ≡ name) →
    is_some (lookup (is_text name) entries) ≡ false → candidates ≡ numbers (ranked_variables pools items installed name) → cs ≡ clauses pools items → NoneOpen cs assumed candidates → ⊥
never pools items installed called at entries assumed sides name candidates cs request w here free are same none =
    let P : List (List ℤ) → Type 0 = λ c. NoneOpen c assumed candidates in
    never_none pools items installed called at entries assumed sides name candidates request w here.0 here.1 free are (subst P same none)

pub decides : (pools : List NamePool) (items : List Asked) (installed : List PkgRecord) (called more : List (List ℕ)) (at : ℕ) (entries entries' : List (List ℕ × ℕ)) (assumed assumed' : List ℤ) (sides sides' : List Bool)
    (name : List ℕ) (candidates : List ℕ) (n : ℕ) (r : Bor PkgRecord) (recs : List (Bor PkgRecord)) (vars : ℕ) (cs : List (List ℤ)) → IsRequest pools items →
    IsWalk pools items installed called at entries assumed sides → (at < length called) × (get_or called at name ≡ name) → is_some (lookup (is_text name) entries) ≡ false →
    candidates ≡ numbers (ranked_variables pools items installed name) → vars ≡ vars_of pools → cs ≡ clauses pools items → IsFound vars cs assumed assumed' sides' candidates n →
    map (λ (r : Bor PkgRecord). r.now) recs ≡ records pools → r ≡ get_or recs (n - 1) r → more ≡ called ++ needs_of r.now → entries' ≡ entries ++ (name, n) ∷ [] →
    IsWalk pools items installed more (at + 1) entries' assumed' sides'
decides pools items installed called more at entries entries' assumed assumed' sides sides' name candidates n r recs vars cs request w here free are e f found listed own longer put =
    let fit = found_fits pools items installed name vars cs assumed assumed' sides' candidates n are found in
    let P : ℕ → Type 0 = λ v. IsFound v cs assumed assumed' sides' candidates n in
    let Q : List (List ℤ) → Type 0 = λ c. IsFound (vars_of pools) c assumed assumed' sides' candidates n in
    further pools items installed called more at entries entries' assumed assumed' sides sides' name candidates n r.now request w here.0 here.1 free are (subst Q f (subst P e found))
    (record_at pools recs n r listed fit.0 fit.1 own) longer put

-- ---- what a step leaves

pub at_spec : (xs specs : List (Bor Parts)) (at : ℕ) (spec : Bor (Bor Parts)) (name : List ℕ) → xs ≡ specs → IsItemAt xs at (Some spec) → name ≡ spec.now.now.name →
    (at < length (called_of specs)) × (get_or (called_of specs) at name ≡ name)
at_spec xs specs at spec name e h f =
    let P : List (Bor Parts) → Type 0 = λ ys. (at < length ys) × (spec.now ≡ get_or ys at spec.now) in
    let g : (at < length specs) × (spec.now ≡ get_or specs at spec.now) = subst P e (h.3.0, h.1) in
    called_here specs at spec.now name g.0 g.1 f

put_cond : (b : Bool) (e : List ℕ × ℕ) (es : List (List ℕ × ℕ)) (name : List ℕ) (n : ℕ) → is_some (cond b (Some e.1) (lookup (is_text name) es)) ≡ false →
    (is_some (lookup (is_text name) es) ≡ false → insert_entry is_text es name n ≡ es ++ (name, n) ∷ []) →
    (if b then (e.0, n) ∷ es else e ∷ insert_entry is_text es name n) ≡ e ∷ es ++ (name, n) ∷ []
put_cond true e es name n free rest = absurd (true≢false free)
put_cond false e es name n free rest = ap (λ fs. e ∷ fs) (rest free)

pub put_so : (entries : List (List ℕ × ℕ)) (name : List ℕ) (n : ℕ) → is_some (lookup (is_text name) entries) ≡ false → insert_entry is_text entries name n ≡ entries ++ (name, n) ∷ []
put_so [] name n free = refl
put_so (e ∷ es) name n free = put_cond (is_text name e.0) e es name n free (put_so es name n)

pub walk_so : (pools : List NamePool) (items : List Asked) (installed : List PkgRecord) (at : ℕ) (specs specs' : List (Bor Parts)) (entries entries' : List (List ℕ × ℕ)) (assumed assumed' : List ℤ)
    (sides sides' : List Bool) → specs' ≡ specs → entries' ≡ entries → assumed' ≡ assumed → sides' ≡ sides → IsWalk pools items installed (called_of specs) at entries assumed sides →
    IsWalk pools items installed (called_of specs') at entries' assumed' sides'
walk_so pools items installed at specs specs' entries entries' assumed assumed' sides sides' e f g h w =
    let P : List (Bor Parts) → Type 0 = λ x. IsWalk pools items installed (called_of x) at entries assumed sides in
    let Q : List (List ℕ × ℕ) → Type 0 = λ x. IsWalk pools items installed (called_of specs') at x assumed sides in
    let R : List ℤ → Type 0 = λ x. IsWalk pools items installed (called_of specs') at entries' x sides in
    let S : List Bool → Type 0 = λ x. IsWalk pools items installed (called_of specs') at entries' assumed' x in
    subst S (sym h) (subst R (sym g) (subst Q (sym f) (subst P (sym e) w)))
