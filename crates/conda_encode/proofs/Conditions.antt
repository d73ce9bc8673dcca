-- What the tests of pools and items say together.
use Rattle.std.specs.Prelude.{◌≡◌, ◌≢◌, ◌↔◌, ℕ, ◌+◌, ◌<◌, ◌≤◌, ◌^◌, zero, suc, Bool, true, false, IsTrue, List, [], ◌∷◌, All, AllPairs, Contains, length, map}
use Rattle.std.proofs.Common.{refl, ap, sym, ◌∙◌, subst, arith, get_or, take, true≢false}
use Rattle.std.proofs.lemmas.Cmp.{nat_list_cmp_total, tied_itself}
use Rattle.std.proofs.lemmas.List.Elements.{All-contains}
use Rattle.std.proofs.lemmas.List.Folds.{length-flat_map-take}
use Rattle.std.specs.Cmp.Lexicographic.{slice_cmp}
use Rattle.std.specs.List.{AllByRecursion}
use Rattle.std.specs.Ordering.{nat_cmp}
use Rattle.std.specs.declared.cmp.Ordering.TheVariants.{Less, Equal}
use Rattle.conda_base.specs.Texts.{Ascending, IsBeforeFirst}
use Rattle.conda_record.specs.declared.pkg_record.PkgRecord.{PkgRecord}
use Rattle.conda_record.specs.declared.pool.NamePool.{NamePool}
use Rattle.conda_encode.specs.Fit.{IsFit, NeedsPlainly}
use Rattle.conda_encode.specs.Matching.{lowered}
use Rattle.conda_encode.specs.Variables.{IsPlain, IsRequest, records}
use Rattle.conda_encode.specs.declared.asked.Asked.{Asked}
use Rattle.conda_encode.proofs.Members.{In, from_contains, in_flat_map, of_flat_map, to_contains}

-- ---- names that differ

abbrev pub Apart : List NamePool → Type 0
Apart pools = AllPairs (λ (p : NamePool) (q : NamePool). p.name ≢ q.name) pools

abbrev pub names_of : List NamePool → List (List ℕ)
names_of pools = map (λ (pool : NamePool). pool.name) pools

pub apart_none : Apart []
apart_none i j d low short = absurd (omega arith)

pub apart_cons : (pool : NamePool) (rest : List NamePool)
    → Apart (pool ∷ rest) ↔ (All (λ (other : NamePool). pool.name ≢ other.name) rest × Apart rest)
apart_cons pool rest = (parts, made)
  where
    parts : Apart (pool ∷ rest) → All (λ (other : NamePool). pool.name ≢ other.name) rest × Apart rest
    parts h = (
      λ k d lt. h zero (suc k) d (omega arith) (omega arith),
      λ i j d low short. h (suc i) (suc j) d (omega arith) (omega arith),
    )

    made : All (λ (other : NamePool). pool.name ≢ other.name) rest × Apart rest → Apart (pool ∷ rest)
    made h zero zero d low short = absurd (omega arith)
    made h zero (suc j) d low short = h.0 j d (omega arith)
    made h (suc i) zero d low short = absurd (omega arith)
    made h (suc i) (suc j) d low short = h.1 i j d (omega arith) (omega arith)

-- the text is none of these
abbrev Lacks : List ℕ → List (List ℕ) → Type 0
Lacks own names = AllByRecursion (λ name. own ≡ name → ⊥) names

over : (text next : List ℕ) (rest : List (List ℕ)) → slice_cmp nat_cmp text next ≡ Less → IsBeforeFirst next rest → IsBeforeFirst text rest
over text next [] h k = tt
over text next (other ∷ rest) h k = nat_list_cmp_total.trans text next other h k

later : (text : List ℕ) (rest : List (List ℕ)) → IsBeforeFirst text rest → Ascending rest → Lacks text rest
later text [] h a = tt
later text (next ∷ rest) h a = (
  λ e. let same : slice_cmp nat_cmp text next ≡ Equal = ap (slice_cmp nat_cmp text) (sym e) ∙ tied_itself nat_list_cmp_total text in cc,
  later text rest (over text next rest h a.0) a.1,
)

lacks_at : (own : List ℕ) (pools : List NamePool) → Lacks own (names_of pools) → All (λ (other : NamePool). own ≢ other.name) pools
lacks_at own [] h j d short = absurd (omega arith)
lacks_at own (pool ∷ pools) h zero d short = h.0
lacks_at own (pool ∷ pools) h (suc j) d short = lacks_at own pools h.1 j d (omega arith)

-- names that ascend differ
pub apart_ascending : (pools : List NamePool) → Ascending (names_of pools) → Apart pools
apart_ascending [] a = apart_none
apart_ascending (pool ∷ pools) a =
    (apart_cons pool pools).1 (lacks_at pool.name pools (later pool.name (names_of pools) a.0 a.1), apart_ascending pools a.1)

-- where nothing is left the names ascend
pub all_ascend : (pools left : List NamePool) → length left ≡ 0 → (Ascending (names_of left) → Ascending (names_of pools)) → Apart pools
all_ascend pools [] h more = apart_ascending pools (more tt)
all_ascend pools (pool ∷ rest) h more = absurd (omega arith)

pub step : (pools left rest : List NamePool) (pool : NamePool) → left ≡ pool ∷ rest → Apart pools ↔ Apart left
    → All (λ (other : NamePool). pool.name ≢ other.name) rest → Apart pools ↔ Apart rest
step pools left rest pool e whole here =
    let cons : Apart left ↔ (All (λ (other : NamePool). pool.name ≢ other.name) rest × Apart rest) =
    subst (λ (l : List NamePool). Apart l ↔ (All (λ (other : NamePool). pool.name ≢ other.name) rest × Apart rest)) (sym e)
    (apart_cons pool rest)
    in
    (λ h. (cons.0 (whole.0 h)).1, λ h. whole.1 (cons.1 (here, h)))

pub here_alone : (pools left rest : List NamePool) (pool : NamePool) → left ≡ pool ∷ rest → Apart pools ↔ Apart left
    → Apart pools → All (λ (other : NamePool). pool.name ≢ other.name) rest
here_alone pools left rest pool e whole h = ((apart_cons pool rest).0 (subst Apart e (whole.0 h))).0

-- ---- few records

pub with_one : (pools : List NamePool) (i : ℕ) (pool : NamePool) → i < length pools → get_or pools i pool ≡ pool
    → length (records (take i pools)) + length pool.recs ≤ length (records pools)
with_one pools i pool lt e =
    subst (λ (p : NamePool). length (records (take i pools)) + length p.recs ≤ length (records pools)) e
    (length-flat_map-take (λ (p : NamePool). p.recs) pools i pool lt)

-- ---- the parts of a request

pub plainly : (pkg : PkgRecord) → NeedsPlainly pkg ↔ (All IsPlain pkg.depends × All IsPlain pkg.constrains)
unfolding NeedsPlainly
plainly pkg = (λ h. h, λ h. h)

pub fits : (pool : NamePool)
    → IsFit pool ↔ (All (λ (pkg : PkgRecord). lowered pkg.name ≡ pool.name) pool.recs × All NeedsPlainly pool.recs)
unfolding IsFit
fits pool = (λ h. h, λ h. h)

-- where the first part holds, the second part is the whole
pub rest_is : {A B C : Type 0} (a b : Bool) → (C ↔ (A × B)) → (IsTrue a ↔ A) → (IsTrue b ↔ B) → a ≡ true
    → (IsTrue b → C) × (C → IsTrue b)
rest_is a b whole first second is = (λ h. whole.1 (first.0 is, second.0 h), λ h. second.1 (whole.0 h).1)

pub lost : {A B C : Type 0} (a : Bool) → (C ↔ (A × B)) → (IsTrue a ↔ A) → a ≡ false → (IsTrue a → C) × (C → IsTrue a)
lost a whole first is = (λ h. absurd (true≢false (sym h ∙ is)), λ h. first.1 (whole.0 h).0)

-- nothing follows from false, and what needs a part that is lost is none
pub none : {A C : Type 0} (a : Bool) → (C → A) → (IsTrue a ↔ A) → a ≡ false → (IsTrue false → C) × (C → IsTrue false)
none a needs part is = (λ h. absurd (true≢false (sym h)), λ h. absurd (true≢false (sym (part.1 (needs h)) ∙ is)))

-- ---- the request

each : {A : Type 0} (P : A → Type 0) (xs : List A) → ((x : A) → Contains xs x → P x) → All P xs
each P xs h k d lt = h (get_or xs k d) (k, lt, same xs k d (get_or xs k d) lt)
  where
    same : {A : Type 0} (ys : List A) (i : ℕ) (d e : A) → i < length ys → get_or ys i e ≡ get_or ys i d
    same [] i d e short = absurd (omega arith)
    same (y ∷ ys) zero d e short = refl
    same (y ∷ ys) (suc i) d e short = same ys i d e (omega arith)

abbrev ArePlain : List Asked → Type 0
ArePlain asked = All (λ (item : Asked). IsPlain item.spec) asked

in_records : (pools : List NamePool) (pool : NamePool) (pkg : PkgRecord) → Contains pools pool → Contains pool.recs pkg
    → Contains (records pools) pkg
in_records pools pool pkg c d =
    to_contains (records pools) pkg
    (in_flat_map (λ (p : NamePool). p.recs) pools pool pkg (from_contains pools pool c) (from_contains pool.recs pkg d))

needs_at : (pools : List NamePool) → All IsFit pools → (pkg : PkgRecord) → Contains (records pools) pkg → NeedsPlainly pkg
needs_at pools fit pkg c =
    let w : (pool : NamePool) × In pool pools × In pkg pool.recs =
    of_flat_map (λ (p : NamePool). p.recs) pools pkg (from_contains (records pools) pkg c)
    in
    All-contains NeedsPlainly (w.0).recs pkg ((fits w.0).0 (All-contains IsFit pools w.0 fit (to_contains pools w.0 w.1))).1
    (to_contains (w.0).recs pkg w.2)

pub is_request : (pools : List NamePool) (asked : List Asked)
    → IsRequest pools asked ↔ ((length (records pools) < 2 ^ 28) × (Apart pools × (All IsFit pools × ArePlain asked)))
is_request pools asked = (parts, whole)
  where
    parts : IsRequest pools asked → (length (records pools) < 2 ^ 28) × (Apart pools × (All IsFit pools × ArePlain asked))
    parts is = (is.few, (is.apart, (each IsFit pools fit, each (λ (item : Asked). IsPlain item.spec) asked is.items_plain)))
      where
        plain : (pool : NamePool) → Contains pools pool → (pkg : PkgRecord) → Contains pool.recs pkg → NeedsPlainly pkg
        plain pool c pkg d =
            let at = in_records pools pool pkg c d in
            (plainly pkg).1 (each IsPlain pkg.depends (is.depends_plain pkg at), each IsPlain pkg.constrains (is.constrains_plain pkg at))

        fit : (pool : NamePool) → Contains pools pool → IsFit pool
        fit pool c =
            (fits pool).1 (
              each (λ (pkg : PkgRecord). lowered pkg.name ≡ pool.name) pool.recs (is.own pool c),
              each NeedsPlainly pool.recs (plain pool c),
            )

    whole : (length (records pools) < 2 ^ 28) × (Apart pools × (All IsFit pools × ArePlain asked)) → IsRequest pools asked
    whole h = record {
      few = h.0;
      apart = h.1.0;
      own = λ pool c pkg d.
          All-contains (λ (p : PkgRecord). lowered p.name ≡ pool.name) pool.recs pkg
          ((fits pool).0 (All-contains IsFit pools pool h.1.1.0 c)).0 d;
      items_plain = λ item c. All-contains (λ (i : Asked). IsPlain i.spec) asked item h.1.1.1 c;
      depends_plain = λ pkg c spec d. All-contains IsPlain pkg.depends spec ((plainly pkg).0 (needs_at pools h.1.1.0 pkg c)).0 d;
      constrains_plain = λ pkg c spec d. All-contains IsPlain pkg.constrains spec ((plainly pkg).0 (needs_at pools h.1.1.0 pkg c)).1 d;
    }

-- what is left to say of few records under names that differ
pub the_parts : (pools : List NamePool) (asked : List Asked) → length (records pools) < 2 ^ 28 → Apart pools
    → IsRequest pools asked ↔ (All IsFit pools × ArePlain asked)
the_parts pools asked few apart =
    (λ is. ((is_request pools asked).0 is).1.1, λ h. (is_request pools asked).1 (few, (apart, h)))
