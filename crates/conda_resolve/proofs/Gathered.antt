-- The decided records, gathered by name.
use Rattle.std.proofs.Common.{◌≡◌, ℕ, zero, suc, ◌+◌, ◌-◌, ◌<◌, ◌≤◌, false, List, [], ◌∷◌, ◌++◌, None, Some, Bor, length, map, take, get_or, slice_get, refl, sym, ap, ◌∙◌, subst, inl, inr, true≢false, arith}
use Rattle.std.proofs.lemmas.Cmp.{nat_list_cmp_total}
use Rattle.std.proofs.lemmas.List.{get_or-map, length-map, take_all, take_more}
use Rattle.std.proofs.lemmas.List.Sorted.{Contains-permutation, IsPermutation-sym}
use Rattle.std.proofs.lemmas.Option.{get_or_from_slice_get, slice_get-get_or, slice_get_within}
use Rattle.std.specs.Cmp.Lexicographic.{pointwise, slice_cmp, texts_ties}
use Rattle.std.specs.List.{Contains, IsDistinct}
use Rattle.std.specs.List.Sorted.{IsPermutation, IsSorted}
use Rattle.std.specs.Map.{keys_of}
use Rattle.std.specs.Ordering.{is_eq, is_lt, nat_cmp, ordering_reverse}
use Rattle.std.specs.Prelude.{nat_eq}
use Rattle.std.specs.declared.cmp.Ordering.{Ordering}
use Rattle.std.specs.declared.cmp.Ordering.TheVariants.{Less, Equal, Greater}
use Rattle.conda_base.specs.Texts.{Ascending}
use Rattle.conda_record.specs.declared.pkg_record.PkgRecord.{PkgRecord}
use Rattle.conda_record.specs.declared.pool.NamePool.{NamePool}
use Rattle.conda_encode.specs.Variables.{numbered, records, variables}
use Rattle.conda_encode.specs.declared.asked.Asked.{Asked}
use Rattle.conda_encode.proofs.Members.{In, from_contains, in_map, number_high, number_low, number_once, of_map, to_contains}
use Rattle.conda_encode.proofs.Sides.{Numbered}
use Rattle.conda_resolve.specs.Asking.{AreDecided}
use Rattle.conda_resolve.specs.Choice.{IsChoice}
use Rattle.conda_resolve.proofs.Naming.{name_of, plain}
use Rattle.conda_resolve.proofs.Ranks.{in_at}
use Rattle.conda_resolve.proofs.Sorted.{names_of}
use Rattle.conda_resolve.proofs.Steps.{pair_of}
use Rattle.conda_resolve.proofs.Walk.{in_plain, of_plain}

-- ---- a sorted list of different texts ascends

ascends_pair : (x y : List ℕ) → is_lt (slice_cmp nat_cmp y x) ≡ false → pointwise nat_eq x y ≡ false → slice_cmp nat_cmp x y ≡ Less
ascends_pair x y h k = by (slice_cmp nat_cmp x y) refl
  where
    by : (o : Ordering) → slice_cmp nat_cmp x y ≡ o → slice_cmp nat_cmp x y ≡ Less
    by Less e = e
    by Equal e = absurd (true≢false (sym (texts_ties x y ∙ ap is_eq e) ∙ k))
    by Greater e = absurd (true≢false (sym (ap is_lt (nat_list_cmp_total.antisymm y x ∙ ap ordering_reverse e)) ∙ h))

ascends : (ks : List (List ℕ)) → IsSorted (slice_cmp nat_cmp) ks → IsDistinct (pointwise nat_eq) ks → Ascending ks
unfolding IsDistinct
ascends [] s d = tt
ascends (x ∷ []) s d = (tt, tt)
ascends (x ∷ y ∷ rest) s d = (
  ascends_pair x y (s 0 x (omega arith) (omega arith)) d.0.0,
  ascends (y ∷ rest)
      (λ k e low high.
      let next : suc (k + 1) ≡ suc k + 1 = omega arith in
      ap (λ i. is_lt (slice_cmp nat_cmp (get_or (x ∷ y ∷ rest) i e) (get_or (y ∷ rest) k e))) next ∙ s (suc k) e (omega arith) (omega arith))
      d.1,
)

-- ---- a record for each entry

-- a name and a variable
abbrev pub Entry : Type 0
Entry = List ℕ × ℕ

-- the records are those of the variables, each in its place
abbrev pub Match : List NamePool → List Entry → List PkgRecord → Type 0
Match pools [] [] = Unit {0}
Match pools [] (m ∷ ms) = ⊥
Match pools (e ∷ es) [] = ⊥
Match pools (e ∷ es) (m ∷ ms) = In (e.1, m) (variables pools) × Match pools es ms

match_push : (pools : List NamePool) (es : List Entry) (ms : List PkgRecord) (e : Entry) (m : PkgRecord) → Match pools es ms → In (e.1, m) (variables pools) → Match pools (es ++ e ∷ []) (ms ++ m ∷ [])
match_push pools [] [] e m match i = (i, tt)
match_push pools [] (k ∷ ks) e m match i = absurd match
match_push pools (d ∷ ds) [] e m match i = absurd match
match_push pools (d ∷ ds) (k ∷ ks) e m match i = (match.0, match_push pools ds ks e m match.1 i)

pub match_more : (pools : List NamePool) (es : List Entry) (i : ℕ) (e : Entry) (ms more : List PkgRecord) (m : PkgRecord) → i < length es → get_or es i e ≡ e → Match pools (take i es) ms →
    In (e.1, m) (variables pools) → more ≡ ms ++ m ∷ [] → Match pools (take (i + 1) es) more
match_more pools es i e ms more m lt at match j put =
    let P : List Entry → Type 0 = λ ds. Match pools ds more in
    let Q : List PkgRecord → Type 0 = λ ks. Match pools (take i es ++ e ∷ []) ks in
    subst P (sym (take_more es i e lt ∙ ap (λ d. take i es ++ d ∷ []) at)) (subst Q (sym put) (match_push pools (take i es) ms e m match j))

pub match_all : (pools : List NamePool) (es : List Entry) (i : ℕ) (ms : List PkgRecord) → length es ≤ i → Match pools (take i es) ms → Match pools es ms
match_all pools es i ms le match =
    let P : List Entry → Type 0 = λ ds. Match pools ds ms in
    subst P (take_all i es le) match

match_of : (pools : List NamePool) (es : List Entry) (ms : List PkgRecord) → Match pools es ms → (m : PkgRecord) → In m ms → (e : Entry) × In e es × In (e.1, m) (variables pools)
match_of pools [] [] match m i = absurd i
match_of pools [] (k ∷ ks) match m i = absurd match
match_of pools (e ∷ es) [] match m i = absurd i
match_of pools (e ∷ es) (k ∷ ks) match m (inl h) = (let P : PkgRecord → Type 0 = λ r. In (e.1, r) (variables pools) in (e, inl refl, subst P h match.0))
match_of pools (e ∷ es) (k ∷ ks) match m (inr i) =
    let w : (d : Entry) × In d es × In (d.1, m) (variables pools) = match_of pools es ks match.1 m i in
    (w.0, inr w.1, w.2)

match_in : (pools : List NamePool) (es : List Entry) (ms : List PkgRecord) → Match pools es ms → (e : Entry) → In e es → (m : PkgRecord) × In m ms × In (e.1, m) (variables pools)
match_in pools [] ms match e i = absurd i
match_in pools (d ∷ ds) [] match e i = absurd match
match_in pools (d ∷ ds) (k ∷ ks) match e (inl h) = (let P : Entry → Type 0 = λ u. In (u.1, k) (variables pools) in (k, inl refl, subst P h match.0))
match_in pools (d ∷ ds) (k ∷ ks) match e (inr i) =
    let w : (m : PkgRecord) × In m ks × In (e.1, m) (variables pools) = match_in pools ds ks match.1 e i in
    (w.0, inr w.1, w.2)

-- ---- each entry is that of a decided record

pub entry_of : (pools : List NamePool) (items : List Asked) (installed : List PkgRecord) (old new : List Entry) → (d : AreDecided pools items installed old) → IsPermutation old new → (e : Entry) → In e new →
    (x : Numbered) × In x d.xs × In x (variables pools) × (pair_of x ≡ e)
entry_of pools items installed old new d moved e i =
    let P : List Entry → Type 0 = λ es. In e es in
    let c = Contains-permutation new old e (IsPermutation-sym old new moved) (to_contains new e i) in
    let w : (x : Numbered) × In x d.xs × (pair_of x ≡ e) = of_map pair_of d.xs e (subst P d.named (from_contains old e c)) in
    (w.0, w.1, from_contains (variables pools) w.0 (d.numbered w.0 (to_contains d.xs w.0 w.1)), w.2)

names_match : (pools : List NamePool) (es : List Entry) (ms : List PkgRecord) → Match pools es ms → ((e : Entry) → In e es → (x : Numbered) × In x (variables pools) × (pair_of x ≡ e)) → names_of ms ≡ keys_of es
names_match pools [] [] match each = refl
names_match pools [] (m ∷ ms) match each = absurd match
names_match pools (e ∷ es) [] match each = absurd match
names_match pools (e ∷ es) (m ∷ ms) match each =
    let x = each e (inl refl) in
    let n : x.0.0 ≡ e.1 = ap (λ (u : Entry). u.1) x.2 in
    let same : x.0.1 ≡ m = number_once 1 (records pools) x.0 (e.1, m) x.1 match.0 n in
    let name : name_of m ≡ e.0 = ap name_of (sym same) ∙ ap (λ (u : Entry). u.0) x.2 in
    ap (λ k. k ∷ names_of ms) name ∙ ap (λ ks. e.0 ∷ ks) (names_match pools es ms match.1 (λ d i. each d (inr i)))

pub gathered : (pools : List NamePool) (items : List Asked) (installed : List PkgRecord) (old new : List Entry) (set : List PkgRecord) → AreDecided pools items installed old → IsPermutation old new →
    IsSorted (slice_cmp nat_cmp) (keys_of new) → IsDistinct (pointwise nat_eq) (keys_of new) → Match pools new set → IsChoice pools items installed set
gathered pools items installed old new set d moved order distinct match =
    let each = entry_of pools items installed old new d moved in
    let names : names_of set ≡ keys_of new = names_match pools new set match (λ e i. let w = each e i in (w.0, w.2, w.3)) in
    record {
      decided = plain d.xs;
      leads = d.leads;
      same = λ m. (
        λ c.
            let x = of_plain d.xs m (from_contains (plain d.xs) m c) in
            let P : List Entry → Type 0 = λ es. In (pair_of x.0) es in
            let i : In (pair_of x.0) old = subst P (sym d.named) (in_map pair_of d.xs x.0 x.1) in
            let j = Contains-permutation old new (pair_of x.0) moved (to_contains old (pair_of x.0) i) in
            let k = match_in pools new set match (pair_of x.0) (from_contains new (pair_of x.0) j) in
            let same : x.0.1 ≡ k.0
            = number_once 1 (records pools) x.0 (x.0.0, k.0) (from_contains (variables pools) x.0 (d.numbered x.0 (to_contains d.xs x.0 x.1))) k.2 refl in
            let Q : PkgRecord → Type 0 = λ r. Contains set r in
            subst Q (sym same ∙ x.2) (to_contains set k.0 k.1),
        λ c.
            let e = match_of pools new set match m (from_contains set m c) in
            let x = each e.0 e.1 in
            let same : x.0.1 ≡ m = number_once 1 (records pools) x.0 (e.0.1, m) x.2 e.2 (ap (λ (u : Entry). u.1) x.3) in
            let Q : PkgRecord → Type 0 = λ r. Contains (plain d.xs) r in
            subst Q same (to_contains (plain d.xs) x.0.1 (in_plain d.xs x.0 x.1)),
      );
      by_name = (let P : List (List ℕ) → Type 0 = λ ks. Ascending ks in subst P (sym names) (ascends (keys_of new) order distinct));
    }

-- ---- the record of an entry, behind references

lent_length : (recs : List (Bor PkgRecord)) (xs : List PkgRecord) → map (λ (b : Bor PkgRecord). b.now) recs ≡ xs → length xs ≡ length recs
lent_length recs xs e = ap length (sym e) ∙ length-map recs (λ (b : Bor PkgRecord). b.now)

in_numbered : (s : ℕ) (rs : List PkgRecord) (i : ℕ) (d : PkgRecord) → i < length rs → In (s + i, get_or rs i d) (numbered s rs)
in_numbered s [] i d lt = absurd (omega arith)
in_numbered s (r ∷ rs) zero d lt = (let e : s ≡ s + 0 = omega arith in inl (ap (λ n. (n, r)) e))
in_numbered s (r ∷ rs) (suc i) d lt =
    let e : s + 1 + i ≡ s + suc i = omega arith in
    let P : ℕ → Type 0 = λ n. In (n, get_or rs i d) (numbered (s + 1) rs) in
    inr (subst P e (in_numbered (s + 1) rs i d (omega arith)))

record_there : (pools : List NamePool) (recs : List (Bor PkgRecord)) (n : ℕ) (r : Bor PkgRecord) → map (λ (b : Bor PkgRecord). b.now) recs ≡ records pools → 1 ≤ n → n ≤ length recs →
    r ≡ get_or recs (n - 1) r → In (n, r.now) (variables pools)
record_there pools recs n r lent low high is =
    let count = lent_length recs (records pools) lent in
    let at : get_or (records pools) (n - 1) r.now ≡ r.now =
    ap (λ ls. get_or ls (n - 1) r.now) (sym lent) ∙ get_or-map (λ (b : Bor PkgRecord). b.now) recs (n - 1) r r.now (omega (arith, low, high)) ∙ ap (λ (b : Bor PkgRecord). b.now) (sym is) in
    let here : In (1 + (n - 1), get_or (records pools) (n - 1) r.now) (variables pools) = in_numbered 1 (records pools) (n - 1) r.now (omega (arith, low, high, count)) in
    let e : 1 + (n - 1) ≡ n = omega (arith, low) in
    let P : ℕ → Type 0 = λ k. In (k, get_or (records pools) (n - 1) r.now) (variables pools) in
    let Q : PkgRecord → Type 0 = λ m. In (n, m) (variables pools) in
    subst Q at (subst P e here)

pub entry_fits : (pools : List NamePool) (items : List Asked) (installed : List PkgRecord) (old new : List Entry) (recs : List (Bor PkgRecord)) (at : ℕ) (e : Entry) →
    AreDecided pools items installed old → IsPermutation old new → map (λ (b : Bor PkgRecord). b.now) recs ≡ records pools → slice_get new at ≡ Some e → (1 ≤ e.1) × (e.1 ≤ length recs)
entry_fits pools items installed old new recs at e d moved lent here =
    let P : Entry → Type 0 = λ u. In u new in
    let i : In e new = subst P (get_or_from_slice_get new at e e here) (in_at new at e (slice_get_within new at e here)) in
    let x = entry_of pools items installed old new d moved e i in
    let n : x.0.0 ≡ e.1 = ap (λ (u : Entry). u.1) x.3 in
    let low = number_low 1 (records pools) x.0 x.2 in
    let high = number_high 1 (records pools) x.0 x.2 in
    let count = lent_length recs (records pools) lent in
    (omega (arith, n, low), omega (arith, n, high, count))

pub match_step : (pools : List NamePool) (items : List Asked) (installed : List PkgRecord) (old new : List Entry) (recs : List (Bor PkgRecord)) (at : ℕ) (e : Entry) (r : Bor PkgRecord) (m : PkgRecord)
    (ms more : List PkgRecord) → AreDecided pools items installed old → IsPermutation old new → map (λ (b : Bor PkgRecord). b.now) recs ≡ records pools → slice_get new at ≡ Some e →
    r ≡ get_or recs (e.1 - 1) r → m ≡ r.now → Match pools (take at new) ms → more ≡ ms ++ m ∷ [] → Match pools (take (at + 1) new) more
match_step pools items installed old new recs at e r m ms more d moved lent here is same match put =
    let fits = entry_fits pools items installed old new recs at e d moved lent here in
    let P : PkgRecord → Type 0 = λ k. In (e.1, k) (variables pools) in
    match_more pools new at e ms more m (slice_get_within new at e here) (get_or_from_slice_get new at e e here) match
    (subst P (sym same) (record_there pools recs e.1 r lent fits.0 fits.1 is)) put

pub match_start : (pools : List NamePool) (es : List Entry) (ms : List PkgRecord) → ms ≡ [] → Match pools (take 0 es) ms
match_start pools es ms e = (let P : List PkgRecord → Type 0 = λ ks. Match pools [] ks in subst P (sym e) tt)

pub none_past : (es : List Entry) (i : ℕ) → i < length es → slice_get es i ≡ None → ⊥
none_past es i lt none = (let e = sym none ∙ slice_get-get_or es i ([], 0) lt in cc)
