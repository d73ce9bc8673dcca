-- The order in which the records of a name are tried, by their variables.
use Rattle.std.proofs.Common.{◌≡◌, ◌≢◌, ℕ, zero, suc, ◌+◌, ◌^◌, ◌<◌, Bool, true, false, cond, List, [], ◌∷◌, ◌++◌, Option, None, Some, filter, find, length, position, take, get_or, refl, sym, ap, ◌∙◌, subst, inl, inr, arith}
use Rattle.std.proofs.lemmas.Bool.{lt-ltb}
use Rattle.std.proofs.lemmas.List.{append-nil, append_assoc, length-append}
use Rattle.std.proofs.lemmas.List.Elements.{filter-append}
use Rattle.std.proofs.lemmas.List.Folds.{length-flat_map-take}
use Rattle.std.proofs.lemmas.List.Quantifiers.{position-Some}
use Rattle.std.proofs.lemmas.List.Sums.{fails_before_first}
use Rattle.std.specs.List.{All, position_or_len}
use Rattle.std.specs.Option.{option_map, option_map_or}
use Rattle.conda_record.specs.declared.pkg_record.PkgRecord.{PkgRecord}
use Rattle.conda_record.specs.declared.pool.NamePool.{NamePool}
use Rattle.conda_encode.specs.Known.{starts_of}
use Rattle.conda_encode.specs.Variables.{IsRequest, numbered, records, variables}
use Rattle.conda_encode.specs.declared.asked.Asked.{Asked}
use Rattle.conda_encode.proofs.Literals.{by_side}
use Rattle.conda_encode.proofs.Members.{In, in_filter, numbered_in, of_filter, of_flat_map, to_contains}
use Rattle.conda_encode.proofs.Ones.{Own, first_pair, numbered-append, rest_own, same_or_less}
use Rattle.conda_encode.proofs.Sides.{Numbered}
use Rattle.conda_encode.proofs.Starts.{start_at}
use Rattle.conda_resolve.specs.Asking.{in_front_of, installed_variable, ranked_variables}
use Rattle.conda_resolve.specs.Choice.{has_name, in_front, installed_one, is_fresh, is_installed, ranked}
use Rattle.conda_resolve.proofs.Naming.{find_nowhere, find_some, has_is, is_has, name_of, numbers, plain}

-- ---- the records of the ranked variables are the ranked records

over_cond : (b : Bool) (n : ℕ) (r : PkgRecord) (xs : List Numbered) (rs : List PkgRecord) → plain xs ≡ rs → plain (cond b ((n, r) ∷ xs) xs) ≡ cond b (r ∷ rs) rs
over_cond true n r xs rs e = ap (λ zs. r ∷ zs) e
over_cond false n r xs rs e = e

plain-filter : (p : PkgRecord → Bool) (n : ℕ) (recs : List PkgRecord) → plain (filter (λ x. p x.1) (numbered n recs)) ≡ filter p recs
plain-filter p n [] = refl
plain-filter p n (r ∷ rs) = over_cond (p r) n r (filter (λ x. p x.1) (numbered (n + 1) rs)) (filter p rs) (plain-filter p (n + 1) rs)

found_cond : (b : Bool) (x : Numbered) (o : Option Numbered) (q : Option PkgRecord) → option_map (λ (u : Numbered). u.1) o ≡ q →
    option_map (λ (u : Numbered). u.1) (cond b (Some x) o) ≡ cond b (Some x.1) q
found_cond true x o q e = refl
found_cond false x o q e = e

plain-find : (p : PkgRecord → Bool) (xs : List Numbered) → option_map (λ (u : Numbered). u.1) (find (λ x. p x.1) xs) ≡ find p (plain xs)
plain-find p [] = refl
plain-find p (x ∷ xs) = found_cond (p x.1) x (find (λ x. p x.1) xs) (find p (plain xs)) (plain-find p xs)

unless : (b : Bool) (o : Option Numbered) (q : Option PkgRecord) → option_map (λ (u : Numbered). u.1) o ≡ q → option_map (λ (u : Numbered). u.1) (cond b None o) ≡ cond b None q
unless true o q e = refl
unless false o q e = e

plain-in_front : (o : Option Numbered) (xs : List Numbered) → plain (in_front_of o xs) ≡ in_front (option_map (λ (u : Numbered). u.1) o) (plain xs)
plain-in_front None xs = refl
plain-in_front (Some x) xs = refl

pub plain-ranked : (pools : List NamePool) (items : List Asked) (installed : List PkgRecord) (name : List ℕ) →
    plain (ranked_variables pools items installed name) ≡ ranked pools items installed name
plain-ranked pools items installed name =
    let xs : List Numbered = filter (λ x. has_name name x.1) (variables pools) in
    let recs = filter (has_name name) (records pools) in
    let q = is_installed (filter (has_name name) installed) in
    let same : plain xs ≡ recs = plain-filter (has_name name) 1 (records pools) in
    let first : option_map (λ (u : Numbered). u.1) (installed_variable items installed name xs) ≡ installed_one items installed name (plain xs)
    = unless (is_fresh items name) (find (λ x. q x.1) xs) (find q (plain xs)) (plain-find q xs) in
    plain-in_front (installed_variable items installed name xs) xs
    ∙ ap (λ o. in_front o (plain xs)) first
    ∙ ap (λ rs. in_front (installed_one items installed name rs) rs) same

-- ---- the variables of a name are those of its pool

filter_all : {A : Type 0} (p : A → Bool) (xs : List A) → ((x : A) → In x xs → p x ≡ true) → filter p xs ≡ xs
filter_all p [] all = refl
filter_all p (x ∷ xs) all =
    ap (λ b. cond b (x ∷ filter p xs) (filter p xs)) (all x (inl refl)) ∙ ap (λ zs. x ∷ zs) (filter_all p xs (λ y i. all y (inr i)))

filter_none : {A : Type 0} (p : A → Bool) (xs : List A) → ((x : A) → In x xs → p x ≡ true → ⊥) → filter p xs ≡ []
filter_none p [] none = refl
filter_none p (x ∷ xs) none =
    elim (by_side (p x)) [
      | inl e ↦ absurd (none x (inl refl) e)
      | inr e ↦ ap (λ b. cond b (x ∷ filter p xs) (filter p xs)) e ∙ filter_none p xs (λ y i. none y (inr i))
    ]

pub in_at : {A : Type 0} (xs : List A) (i : ℕ) (d : A) → i < length xs → In (get_or xs i d) xs
in_at [] i d lt = absurd (omega arith)
in_at (x ∷ xs) zero d lt = inl refl
in_at (x ∷ xs) (suc i) d lt = inr (in_at xs i d (omega arith))

abbrev pub of_name : List ℕ → ℕ → List PkgRecord → List Numbered
of_name name n recs = filter (λ x. has_name name x.1) (numbered n recs)

of_name-append : (name : List ℕ) (n : ℕ) (xs ys : List PkgRecord) → of_name name n (xs ++ ys) ≡ of_name name n xs ++ of_name name (n + length xs) ys
of_name-append name n xs ys =
    ap (filter (λ (x : Numbered). has_name name x.1)) (numbered-append n xs ys)
    ∙ filter-append (λ (x : Numbered). has_name name x.1) (numbered n xs) (numbered (n + length xs) ys)

pub nowhere : (name : List ℕ) (n : ℕ) (pools : List NamePool) → Own pools → ((pool : NamePool) → In pool pools → pool.name ≡ name → ⊥) → of_name name n (records pools) ≡ []
nowhere name n pools o none =
    filter_none (λ (x : Numbered). has_name name x.1) (numbered n (records pools)) (λ x i h.
    let w : (pool : NamePool) × In pool pools × In x.1 pool.recs = of_flat_map (λ (q : NamePool). q.recs) pools x.1 (numbered_in n (records pools) x i) in
    none w.0 w.1 (sym (o.own w.0 w.1 x.1 w.2) ∙ sym (has_is name x.1 h)))

pub at_place : (name : List ℕ) (n : ℕ) (pools : List NamePool) (at : ℕ) (d : NamePool) → Own pools → at < length pools → (get_or pools at d).name ≡ name →
    of_name name n (records pools) ≡ numbered (n + length (records (take at pools))) (get_or pools at d).recs
at_place name n [] at d o lt e = absurd (omega arith)
at_place name n (pool ∷ rest) zero d o lt e =
    let none : of_name name (n + length pool.recs) (records rest) ≡ []
    = nowhere name (n + length pool.recs) rest (rest_own pool rest o)
    (λ q i same. first_pair (λ (a b : NamePool). a.name ≢ b.name) pool q rest o.apart i (e ∙ sym same)) in
    let all : of_name name n pool.recs ≡ numbered n pool.recs
    = filter_all (λ (x : Numbered). has_name name x.1) (numbered n pool.recs)
    (λ x i. is_has name x.1 (sym e ∙ sym (o.own pool (inl refl) x.1 (numbered_in n pool.recs x i)))) in
    let z : n ≡ n + 0 = omega arith in
    of_name-append name n pool.recs (records rest) ∙ ap (λ zs. of_name name n pool.recs ++ zs) none ∙ append-nil (of_name name n pool.recs) ∙ all ∙ ap (λ k. numbered k pool.recs) z
at_place name n (pool ∷ rest) (suc at) d o lt e =
    let none : of_name name n pool.recs ≡ []
    = filter_none (λ (x : Numbered). has_name name x.1) (numbered n pool.recs)
    (λ x i h. first_pair (λ (a b : NamePool). a.name ≢ b.name) pool (get_or rest at d) rest o.apart (in_at rest at d (omega arith))
    (sym (o.own pool (inl refl) x.1 (numbered_in n pool.recs x i)) ∙ sym (has_is name x.1 h) ∙ sym e)) in
    let ih = at_place name (n + length pool.recs) rest at d (rest_own pool rest o) (omega arith) e in
    let z : n + length pool.recs + length (records (take at rest)) ≡ n + length (pool.recs ++ records (take at rest)) = omega (arith, length-append pool.recs (records (take at rest))) in
    of_name-append name n pool.recs (records rest) ∙ ap (λ zs. zs ++ of_name name (n + length pool.recs) (records rest)) none ∙ ih ∙ ap (λ k. numbered k (get_or rest at d).recs) z

-- ---- the installed one among them

find_place : (q : PkgRecord → Bool) (n : ℕ) (recs : List PkgRecord) (k : ℕ) (d : PkgRecord) → k < length recs → q (get_or recs k d) ≡ true → ((j : ℕ) → j < k → q (get_or recs j d) ≡ false) →
    find (λ (x : Numbered). q x.1) (numbered n recs) ≡ Some (n + k, get_or recs k d)
find_place q n [] k d lt h none = absurd (omega arith)
find_place q n (r ∷ rs) zero d lt h none =
    let e : n ≡ n + 0 = omega arith in
    ap (λ b. cond b (Some (n, r)) (find (λ (x : Numbered). q x.1) (numbered (n + 1) rs))) h ∙ ap (λ m. Some (m, r)) e
find_place q n (r ∷ rs) (suc k) d lt h none =
    let e : n + 1 + k ≡ n + suc k = omega arith in
    ap (λ b. cond b (Some (n, r)) (find (λ (x : Numbered). q x.1) (numbered (n + 1) rs))) (none zero (omega arith))
    ∙ find_place q (n + 1) rs k d (omega arith) h (λ j less. none (suc j) (omega arith))
    ∙ ap (λ m. Some (m, get_or rs k d)) e

place_none : (q : PkgRecord → Bool) (recs : List PkgRecord) → position q recs ≡ None → (r : PkgRecord) → In r recs → q r ≡ false
place_none q recs none r i =
    let c = to_contains recs r i in
    let p = position_or_len q recs in
    let far : p < length recs → ⊥ = λ lt. let e : Some p ≡ None = sym (ap (λ b. cond b (Some p) None) (lt-ltb p (length recs) lt)) ∙ none in cc in
    let before : c.0 < p = elim (same_or_less p (length recs)) [
      | inl e ↦ omega (arith, c.1)
      | inr (inl lt) ↦ absurd (far lt)
      | inr (inr gt) ↦ omega (arith, c.1)
    ] in
    sym (ap q c.2) ∙ fails_before_first q recs c.0 r before

pub front_none : (q : PkgRecord → Bool) (n : ℕ) (recs : List PkgRecord) → position q recs ≡ None → find (λ (x : Numbered). q x.1) (numbered n recs) ≡ None
front_none q n recs none = find_nowhere (λ (x : Numbered). q x.1) (numbered n recs) (λ x i. place_none q recs none x.1 (numbered_in n recs x i))

pub front_some : (q : PkgRecord → Bool) (n : ℕ) (recs : List PkgRecord) (k : ℕ) (d : PkgRecord) → position q recs ≡ Some k →
    find (λ (x : Numbered). q x.1) (numbered n recs) ≡ Some (n + k, get_or recs k d)
front_some q n recs k d some =
    let p = position-Some q recs k d some in
    find_place q n recs k d p.0 p.1 p.2

-- ---- what is ranked is of the name

rank_cond : (q : Numbered → Bool) (xs : List Numbered) (b : Bool) (x : Numbered) → cond b None (find q xs) ≡ Some x → In x xs
rank_cond q xs true x h = cc
rank_cond q xs false x h = (find_some q xs x h).0

in_front_or : (o : Option Numbered) (xs : List Numbered) (x : Numbered) → ((y : Numbered) → o ≡ Some y → In y xs) → In x (in_front_of o xs) → In x xs
in_front_or None xs x here i = i
in_front_or (Some y) xs x here (inl e) = (let P : Numbered → Type 0 = λ u. In u xs in subst P e (here y refl))
in_front_or (Some y) xs x here (inr i) = i

behind_front : (o : Option Numbered) (xs : List Numbered) (x : Numbered) → In x xs → In x (in_front_of o xs)
behind_front None xs x i = i
behind_front (Some y) xs x i = inr i

pub of_rank : (pools : List NamePool) (items : List Asked) (installed : List PkgRecord) (name : List ℕ) (x : Numbered) → In x (ranked_variables pools items installed name) →
    In x (variables pools) × (name ≡ name_of x.1)
of_rank pools items installed name x i =
    let xs : List Numbered = of_name name 1 (records pools) in
    let j : In x xs = in_front_or (installed_variable items installed name xs) xs x
    (rank_cond (λ y. is_installed (filter (has_name name) installed) y.1) xs (is_fresh items name)) i in
    let f = of_filter (λ (y : Numbered). has_name name y.1) (variables pools) x j in
    (f.0, has_is name x.1 f.1)

pub to_rank : (pools : List NamePool) (items : List Asked) (installed : List PkgRecord) (name : List ℕ) (x : Numbered) → In x (variables pools) → name ≡ name_of x.1 →
    In x (ranked_variables pools items installed name)
to_rank pools items installed name x i own =
    let xs : List Numbered = of_name name 1 (records pools) in
    behind_front (installed_variable items installed name xs) xs x
    (in_filter (λ (y : Numbered). has_name name y.1) (variables pools) x i (is_has name x.1 own))

-- ---- the variables that the code lists

pub numbers_more : (n : ℕ) (recs : List PkgRecord) (i : ℕ) → i < length recs → numbers (numbered n (take (i + 1) recs)) ≡ numbers (numbered n (take i recs)) ++ (n + i) ∷ []
numbers_more n [] i lt = absurd (omega arith)
numbers_more n (r ∷ rs) zero lt = let e : n ≡ n + 0 = omega arith in ap (λ k. k ∷ []) e
numbers_more n (r ∷ rs) (suc i) lt =
    let e : suc i + 1 ≡ suc (i + 1) = omega arith in
    let f : n + 1 + i ≡ n + suc i = omega arith in
    ap (λ k. numbers (numbered n (take k (r ∷ rs)))) e ∙ ap (λ ns. n ∷ ns) (numbers_more (n + 1) rs i (omega arith) ∙ ap (λ k. numbers (numbered (n + 1) (take i rs)) ++ k ∷ []) f)

pub pushed_number : (n : ℕ) (recs : List PkgRecord) (i : ℕ) (old now next : List ℕ) → i < length recs → now ≡ old ++ numbers (numbered n (take i recs)) → next ≡ now ++ (n + i) ∷ [] →
    next ≡ old ++ numbers (numbered n (take (i + 1) recs))
pushed_number n recs i old now next lt e f =
    f ∙ ap (λ ns. ns ++ (n + i) ∷ []) e ∙ append_assoc old (numbers (numbered n (take i recs))) ((n + i) ∷ []) ∙ ap (λ ns. old ++ ns) (sym (numbers_more n recs i lt))

own_of : (pools : List NamePool) (items : List Asked) → IsRequest pools items → Own pools
own_of pools items request = record {
  own = λ pool i pkg j. request.own pool (to_contains pools pool i) pkg (to_contains pool.recs pkg j);
  apart = request.apart;
}

nothing_first : (items : List Asked) (installed : List PkgRecord) (name : List ℕ) (b : Bool) → in_front_of (cond b None None) [] ≡ []
nothing_first items installed name true = refl
nothing_first items installed name false = refl

pub ranked_nowhere : (pools : List NamePool) (items : List Asked) (installed : List PkgRecord) (name : List ℕ) → IsRequest pools items → All (λ (pool : NamePool). pool.name ≡ name → ⊥) pools →
    numbers (ranked_variables pools items installed name) ≡ []
ranked_nowhere pools items installed name request none =
    let e : of_name name 1 (records pools) ≡ [] = nowhere name 1 pools (own_of pools items request) (λ pool i same.
    let c = to_contains pools pool i in
    none c.0 pool c.1 (ap (λ (p : NamePool). p.name) c.2 ∙ same)) in
    ap (λ xs. numbers (in_front_of (installed_variable items installed name xs) xs)) e
    ∙ ap numbers (nothing_first items installed name (is_fresh items name))

first_number : (o : Option Numbered) (k : Option ℕ) (xs : List Numbered) → option_map (λ (x : Numbered). x.0) o ≡ k → numbers (in_front_of o xs) ≡ option_map_or (λ n. n ∷ numbers xs) k (numbers xs)
first_number None k xs e = ap (λ q. option_map_or (λ n. n ∷ numbers xs) q (numbers xs)) e
first_number (Some x) k xs e = ap (λ q. option_map_or (λ n. n ∷ numbers xs) q (numbers xs)) e

front_number : (q : PkgRecord → Bool) (n : ℕ) (recs : List PkgRecord) (b : Bool) (place : Option ℕ) → place ≡ cond b None (position q recs) →
    option_map (λ (x : Numbered). x.0) (cond b None (find (λ x. q x.1) (numbered n recs))) ≡ option_map (λ k. n + k) place
front_number q n recs true place e = sym (ap (option_map (λ k. n + k)) e)
front_number q n [] false place e = sym (ap (option_map (λ k. n + k)) e)
front_number q n (r ∷ rs) false place e = by (position q (r ∷ rs)) refl
  where
    by : (o : Option ℕ) → position q (r ∷ rs) ≡ o → option_map (λ (x : Numbered). x.0) (find (λ x. q x.1) (numbered n (r ∷ rs))) ≡ option_map (λ k. n + k) place
    by None p = ap (option_map (λ (x : Numbered). x.0)) (front_none q n (r ∷ rs) p) ∙ sym (ap (option_map (λ k. n + k)) (e ∙ p))
    by (Some k) p = ap (option_map (λ (x : Numbered). x.0)) (front_some q n (r ∷ rs) k r p) ∙ sym (ap (option_map (λ k. n + k)) (e ∙ p))

-- the variables of a name whose pool is at this place, where the installed one stands at `place` of it
pub ranked_there : (pools : List NamePool) (items : List Asked) (installed : List PkgRecord) (name : List ℕ) (at first : ℕ) (d : NamePool) (recs : List PkgRecord) (place : Option ℕ) →
    IsRequest pools items → at < length pools → (get_or pools at d).name ≡ name → first ≡ 1 + length (records (take at pools)) → recs ≡ (get_or pools at d).recs →
    place ≡ cond (is_fresh items name) None (position (is_installed (filter (has_name name) installed)) recs) →
    numbers (ranked_variables pools items installed name) ≡ option_map_or (λ n. n ∷ numbers (numbered first recs)) (option_map (λ k. first + k) place) (numbers (numbered first recs))
ranked_there pools items installed name at first d recs place request lt e f same p =
    let q = is_installed (filter (has_name name) installed) in
    let xs : of_name name 1 (records pools) ≡ numbered first recs =
    at_place name 1 pools at d (own_of pools items request) lt e ∙ ap (λ k. numbered k (get_or pools at d).recs) (sym f) ∙ ap (numbered first) (sym same) in
    ap (λ ys. numbers (in_front_of (installed_variable items installed name ys) ys)) xs
    ∙ first_number (installed_variable items installed name (numbered first recs)) (option_map (λ k. first + k) place) (numbered first recs)
    (front_number q first recs (is_fresh items name) place p)

-- the variable of the first record of the pool at this place
pub first_is : (pools : List NamePool) (starts : List ℕ) (at first : ℕ) → starts ≡ starts_of 1 pools → at < length pools → first ≡ get_or starts at first →
    first ≡ 1 + length (records (take at pools))
first_is pools starts at first e lt is = is ∙ ap (λ s. get_or s at first) e ∙ start_at 1 pools at first lt

pub first_fits : (pools : List NamePool) (items : List Asked) (starts : List ℕ) (at first : ℕ) (pool : NamePool) (recs : List PkgRecord) → IsRequest pools items → starts ≡ starts_of 1 pools →
    at < length pools → first ≡ get_or starts at first → recs ≡ (get_or pools at pool).recs → first + length recs < 2 ^ 31
first_fits pools items starts at first pool recs request e lt is same =
    let a = first_is pools starts at first e lt is in
    let b = length-flat_map-take (λ (p : NamePool). p.recs) pools at pool lt in
    let c : length recs ≡ length (get_or pools at pool).recs = ap length same in
    omega (arith, request.few, a, b, c)

pub place_within : (q : PkgRecord → Bool) (b : Bool) (recs : List PkgRecord) (place : Option ℕ) (k : ℕ) → place ≡ cond b None (position q recs) → place ≡ Some k → k < length recs
place_within q true recs place k e f = (let x : Some k ≡ None = sym f ∙ e in cc)
place_within q false [] place k e f = (let x : Some k ≡ None = sym f ∙ e in cc)
place_within q false (r ∷ rs) place k e f = (position-Some q (r ∷ rs) k r (sym e ∙ f)).0

-- the number of the installed one, if there is one, and nothing else
abbrev pub front_of : ℕ → Option ℕ → List ℕ
front_of first place = option_map_or (λ n. n ∷ []) (option_map (λ k. first + k) place) []

pub front_pushed : (first k : ℕ) (place : Option ℕ) (empty list : List ℕ) → place ≡ Some k → empty ≡ [] → list ≡ empty ++ (first + k) ∷ [] → list ≡ front_of first place
front_pushed first k place empty list e f g = g ∙ ap (λ xs. xs ++ (first + k) ∷ []) f ∙ sym (ap (front_of first) e)

pub front_empty : (first : ℕ) (place : Option ℕ) (list : List ℕ) → place ≡ None → list ≡ [] → list ≡ front_of first place
front_empty first place list e f = f ∙ sym (ap (front_of first) e)

front_before : (first : ℕ) (place : Option ℕ) (ns : List ℕ) → front_of first place ++ ns ≡ option_map_or (λ n. n ∷ ns) (option_map (λ k. first + k) place) ns
front_before first None ns = refl
front_before first (Some k) ns = refl

pub ranked_listed : (pools : List NamePool) (items : List Asked) (installed : List PkgRecord) (name starts : List ℕ) (at first : ℕ) (pool : NamePool) (recs : List PkgRecord) (place : Option ℕ) (front list : List ℕ) →
    IsRequest pools items → starts ≡ starts_of 1 pools → at < length pools → (get_or pools at pool).name ≡ name → first ≡ get_or starts at first → recs ≡ (get_or pools at pool).recs →
    place ≡ cond (is_fresh items name) None (position (is_installed (filter (has_name name) installed)) recs) →
    front ≡ front_of first place → list ≡ front ++ numbers (numbered first recs) → list ≡ numbers (ranked_variables pools items installed name)
ranked_listed pools items installed name starts at first pool recs place front list request e lt named is same p f g =
    g ∙ ap (λ xs. xs ++ numbers (numbered first recs)) f ∙ front_before first place (numbers (numbered first recs))
    ∙ sym (ranked_there pools items installed name at first pool recs place request lt named (first_is pools starts at first e lt is) same p)
