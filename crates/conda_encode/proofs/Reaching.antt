-- Marks on what is reached.
use Rattle.std.proofs.Common.{◌≡◌, ℕ, zero, suc, ◌+◌, ◌-◌, ◌≤◌, ◌<◌, ℤ, Bool, true, false, cond, List, [], ◌∷◌, ◌++◌, length, map, filter, replicate, take, drop, get_or, slice_get, unwrap_or, refl, sym, ap, ◌∙◌, subst, true≢false, inl, inr, arith}
use Rattle.std.proofs.lemmas.List.{map-append, take_all, take_at, take_more}
use Rattle.std.proofs.lemmas.List.Elements.{filter-append}
use Rattle.std.specs.List.{Contains}
use Rattle.conda_spec.specs.Parts.{Parts}
use Rattle.conda_record.specs.declared.pkg_record.PkgRecord.{PkgRecord}
use Rattle.conda_record.specs.declared.pool.NamePool.{NamePool}
use Rattle.conda_encode.specs.Clauses.{on, some_named}
use Rattle.conda_encode.specs.Marks.{AreNumbers, AreSound, Covers, Grows, IsMarked, NeedsAreMarked, OnlyThese, Reaches, WantedAreMarked, marked_of}
use Rattle.conda_encode.specs.Matching.{names}
use Rattle.conda_encode.specs.Models.{IsCut, chosen}
use Rattle.conda_encode.specs.Sides.{side_of, variable_of}
use Rattle.conda_encode.specs.Solution.{IsReached}
use Rattle.conda_encode.specs.Solution.IsReached.{needed, wanted}
use Rattle.conda_encode.proofs.Ones.{number_at}
use Rattle.conda_encode.proofs.Walks.{numbered_more}
use Rattle.conda_encode.specs.Variables.{numbered, records, variables}
use Rattle.conda_encode.specs.declared.asked.Asked.{Asked}
use Rattle.conda_encode.specs.declared.asked.AskKind.TheVariants.{Wanted}
use Rattle.conda_encode.proofs.Meaning.{low_of}
use Rattle.conda_encode.proofs.Members.{In, from_contains, in_either, in_filter, in_map, number_high, number_low, number_once, of_filter, of_map, to_contains}
use Rattle.conda_encode.proofs.Sides.{Numbered, in_chosen, of_chosen}

-- a literal of the list is a record's that the specification names
named_of : (pools : List NamePool) (spec : Parts) (l : ℤ) → Contains (some_named pools spec) l → (x : Numbered) × In x (variables pools) × (names spec x.1 ≡ true) × (on x.0 ≡ l)
named_of pools spec l c =
    let x : (x : Numbered) × In x (filter (λ x. names spec x.1) (variables pools)) × (on x.0 ≡ l)
    = of_map (λ (x : Numbered). on x.0) (filter (λ x. names spec x.1) (variables pools)) l (from_contains (some_named pools spec) l c) in
    let f = of_filter (λ (y : Numbered). names spec y.1) (variables pools) x.0 x.1 in
    (x.0, f.0, f.1, x.2)

pub named_numbers : (pools : List NamePool) (spec : Parts) (count : ℕ) (list : List ℤ) → list ≡ some_named pools spec → count ≡ length (records pools) → AreNumbers count list
named_numbers pools spec count list e same l c =
    let P : List ℤ → Type 0 = λ ls. Contains ls l in
    let x = named_of pools spec l (subst P e c) in
    let low = low_of pools x.0 x.1 in
    let high : x.0.0 < 1 + length (records pools) = number_high 1 (records pools) x.0 x.1 in
    let at : x.0.0 ≡ variable_of l = ap variable_of x.3 in
    (omega arith, omega arith)

pub named_marked : (pools : List NamePool) (model marks : List Bool) (spec : Parts) (list : List ℤ) → list ≡ some_named pools spec → Covers model list marks → IsMarked pools model marks spec
named_marked pools model marks spec list e covers x c named h =
    let i : In (on x.0) (some_named pools spec)
    = in_map (λ (y : Numbered). on y.0) (filter (λ y. names spec y.1) (variables pools)) x (in_filter (λ (y : Numbered). names spec y.1) (variables pools) x (from_contains (variables pools) x c) named) in
    let P : List ℤ → Type 0 = λ ls. Contains ls (on x.0) in
    covers (on x.0) (subst P (sym e) (to_contains (some_named pools spec) (on x.0) i)) h

pub named_sound : (pools : List NamePool) (items : List Asked) (model before after : List Bool) (spec : Parts) (list : List ℤ) → list ≡ some_named pools spec →
    AreSound pools items model before → Reaches pools items model spec → OnlyThese model list before after → AreSound pools items model after
named_sound pools items model before after spec list e sound reaches only x c h =
    let i = from_contains (variables pools) x c in
    elim (only x.0 (low_of pools x i) h) [
      | inl old ↦ sound x c old
      | inr w ↦
          let P : List ℤ → Type 0 = λ ls. Contains ls w.0 in
          let y = named_of pools spec w.0 (subst P e w.1) in
          let same : y.0.0 ≡ x.0 = ap variable_of y.3 ∙ w.2 in
          let one : y.0.1 ≡ x.1 = number_once 1 (records pools) y.0 x y.1 i same in
          let Q : PkgRecord → Type 0 = λ m. names spec m ≡ true in
          (w.3, reaches x.1 (in_chosen pools (side_of model) x (i, w.3)) (subst Q one y.2))
    ]

pub marked_grows : (pools : List NamePool) (model before after : List Bool) (spec : Parts) → IsMarked pools model before spec → Grows before after → IsMarked pools model after spec
marked_grows pools model before after spec marked grows x c named h =
    grows x.0 (low_of pools x (from_contains (variables pools) x c)) (marked x c named h)

-- each of the first specifications is marked, and one more
pub marked_more : (pools : List NamePool) (model before after : List Bool) (specs : List Parts) (i : ℕ) (x : Parts) → i < length specs → get_or specs i x ≡ x →
    ((spec : Parts) → Contains (take i specs) spec → IsMarked pools model before spec) → Grows before after → IsMarked pools model after x →
    (spec : Parts) → Contains (take (i + 1) specs) spec → IsMarked pools model after spec
marked_more pools model before after specs i x lt at was grows here spec c =
    let P : List Parts → Type 0 = λ ss. In spec ss in
    let Q : Parts → Type 0 = λ s. IsMarked pools model after s in
    elim (in_either (take i specs) (get_or specs i x ∷ []) spec (subst P (take_more specs i x lt) (from_contains (take (i + 1) specs) spec c))) [
      | inl j ↦ marked_grows pools model before after spec (was spec (to_contains (take i specs) spec j)) grows
      | inr (inl e) ↦ subst Q (sym at ∙ e) here
      | inr (inr j) ↦ absurd j
    ]

pub marked_all : (pools : List NamePool) (model after : List Bool) (specs : List Parts) (i : ℕ) → length specs ≤ i →
    ((spec : Parts) → Contains (take i specs) spec → IsMarked pools model after spec) → (spec : Parts) → Contains specs spec → IsMarked pools model after spec
marked_all pools model after specs i le was spec c =
    let P : List Parts → Type 0 = λ ss. Contains ss spec in
    was spec (subst P (sym (take_all i specs le)) c)

pub at_contains : (specs : List Parts) (i : ℕ) (x : Parts) → i < length specs → x ≡ get_or specs i x → Contains specs x
at_contains specs i x lt is = (i, lt, sym is)

-- what a reached record needs is reached
pub needs_reach : (pools : List NamePool) (items : List Asked) (model marks : List Bool) (n : ℕ) (pkg : PkgRecord) → AreSound pools items model marks → Contains (variables pools) (n, pkg) →
    side_of marks n ≡ true → (spec : Parts) → Contains pkg.depends spec → Reaches pools items model spec
needs_reach pools items model marks n pkg sound c h spec d m chosen_m named =
    needed pkg spec m (sound (n, pkg) c h).1 d chosen_m named

pub one_more_marked : (pools : List NamePool) (model start before after : List Bool) (recs : List PkgRecord) (i : ℕ) (pkg : PkgRecord) → i < length recs → get_or recs i pkg ≡ pkg →
    NeedsAreMarked pools model start before (numbered 1 (take i recs)) → Grows start before → Grows before after →
    (side_of before (i + 1) ≡ true → (spec : Parts) → Contains pkg.depends spec → IsMarked pools model after spec) →
    NeedsAreMarked pools model start after (numbered 1 (take (i + 1) recs))
one_more_marked pools model start before after recs i pkg lt at was first grows here x c h spec d =
    let e : i + 1 ≡ 1 + i = omega arith in
    let P : List Numbered → Type 0 = λ zs. In x zs in
    elim (in_either (numbered 1 (take i recs)) ((i + 1, get_or recs i pkg) ∷ []) x (subst P (numbered_more 1 recs i (i + 1) pkg lt e) (from_contains (numbered 1 (take (i + 1) recs)) x c))) [
      | inl j ↦ marked_grows pools model before after spec (was x (to_contains (numbered 1 (take i recs)) x j) h spec d) grows
      | inr (inl f) ↦
          let n : i + 1 ≡ x.0 = ap (λ (u : Numbered). u.0) f in
          let r : pkg ≡ x.1 = sym at ∙ ap (λ (u : Numbered). u.1) f in
          let Q : PkgRecord → Type 0 = λ u. Contains u.depends spec in
          here (first (i + 1) (omega arith) (ap (side_of start) n ∙ h)) spec (subst Q (sym r) d)
      | inr (inr j) ↦ absurd j
    ]

pub all_needs_marked : (pools : List NamePool) (model start after : List Bool) (recs : List PkgRecord) (i : ℕ) → length recs ≤ i →
    NeedsAreMarked pools model start after (numbered 1 (take i recs)) → NeedsAreMarked pools model start after (numbered 1 recs)
all_needs_marked pools model start after recs i le was =
    let P : List PkgRecord → Type 0 = λ rs. NeedsAreMarked pools model start after (numbered 1 rs) in
    subst P (take_all i recs le) was

pub settled : (pools : List NamePool) (model before after : List Bool) → after ≡ before → NeedsAreMarked pools model before after (variables pools) → NeedsAreMarked pools model after after (variables pools)
settled pools model before after e was =
    let P : List Bool → Type 0 = λ b. NeedsAreMarked pools model b after (variables pools) in
    subst P (sym e) was

abbrev pub numbered_pair : ℕ → PkgRecord → Numbered
numbered_pair n r = (n, r)

pair_same : (m n : ℕ) (a b : PkgRecord) → m ≡ n → a ≡ b → numbered_pair m a ≡ numbered_pair n b
pair_same m n a b e f = ap (λ k. numbered_pair k a) e ∙ ap (numbered_pair n) f

number_is : (s : ℕ) (recs : List PkgRecord) (i : ℕ) (x : PkgRecord) → i < length recs → In (s + i, x) (numbered s recs) → (d : PkgRecord) → x ≡ get_or recs i d
number_is s [] i x lt j d = absurd (omega arith)
number_is s (y ∷ ys) zero x lt (inl e) d = ap (λ (u : Numbered). u.1) (sym e)
number_is s (y ∷ ys) zero x lt (inr j) d = let h : s + 1 ≤ s + 0 = number_low (s + 1) ys (s + 0, x) j in absurd (omega arith)
number_is s (y ∷ ys) (suc i) x lt (inl e) d = let h : s ≡ s + suc i = ap (λ (u : Numbered). u.0) e in absurd (omega arith)
number_is s (y ∷ ys) (suc i) x lt (inr j) d =
    let e : s + suc i ≡ s + 1 + i = omega arith in
    let P : ℕ → Type 0 = λ k. In (k, x) (numbered (s + 1) ys) in
    number_is (s + 1) ys i x (omega arith) (subst P e j) d

-- the record at a place, with its variable
pub record_at : (recs : List PkgRecord) (i : ℕ) (pkg : PkgRecord) → i < length recs → get_or recs i pkg ≡ pkg → Contains (numbered 1 recs) (i + 1, pkg)
record_at recs i pkg lt at =
    let w : (x : PkgRecord) × In (1 + i, x) (numbered 1 recs) = number_at 1 recs i lt in
    let e : 1 + i ≡ i + 1 = omega arith in
    let same : w.0 ≡ pkg = number_is 1 recs i w.0 lt w.1 pkg ∙ at in
    let P : Numbered → Type 0 = λ u. In u (numbered 1 recs) in
    to_contains (numbered 1 recs) (i + 1, pkg) (subst P (pair_same (1 + i) (i + 1) w.0 pkg e same) w.1)

get_side : (marks : List Bool) (i : ℕ) → unwrap_or (slice_get marks i) false ≡ get_or marks i false
get_side [] i = refl
get_side (b ∷ bs) zero = refl
get_side (b ∷ bs) (suc i) = get_side bs i

pub side_at : (marks : List Bool) (at : ℕ) → side_of marks (at + 1) ≡ get_or marks at false
side_at marks at =
    let e : at + 1 - 1 ≡ at = omega arith in
    ap (λ i. unwrap_or (slice_get marks i) false) e ∙ get_side marks at

pub place_fits : (pools : List NamePool) (at count : ℕ) (pkg : PkgRecord) → Contains (variables pools) (at + 1, pkg) → count ≡ length (records pools) → at < count
place_fits pools at count pkg c e =
    let h : at + 1 < 1 + length (records pools) = number_high 1 (records pools) (at + 1, pkg) (from_contains (variables pools) (at + 1, pkg) c) in
    omega arith

pub each_reaches : (pools : List NamePool) (items : List Asked) (model marks : List Bool) (at : ℕ) (pkg : PkgRecord) (specs : List Parts) → specs ≡ pkg.depends → AreSound pools items model marks →
    Contains (variables pools) (at + 1, pkg) → get_or marks at false ≡ true → (spec : Parts) → Contains specs spec → Reaches pools items model spec
each_reaches pools items model marks at pkg specs e sound c h spec d =
    let P : List Parts → Type 0 = λ ss. Contains ss spec in
    needs_reach pools items model marks (at + 1) pkg sound c (side_at marks at ∙ h) spec (subst P e d)

pub unmarked : (marks : List Bool) (at : ℕ) → get_or marks at false ≡ false → side_of marks (at + 1) ≡ true → ⊥
unmarked marks at h k = true≢false (sym k ∙ side_at marks at ∙ h)

-- ---- what wanted items name

pub item_reaches : (pools : List NamePool) (items : List Asked) (model : List Bool) (item : Asked) → Contains items item → Wanted ≡ item.kind → Reaches pools items model item.spec
item_reaches pools items model item c kind m chosen_m named = wanted item.spec m (item, c, sym kind, refl) chosen_m named

pub wanted_more : (pools : List NamePool) (model before after : List Bool) (items : List Asked) (i : ℕ) (x : Asked) → i < length items → get_or items i x ≡ x →
    WantedAreMarked pools model before (take i items) → Grows before after → (x.kind ≡ Wanted → IsMarked pools model after x.spec) → WantedAreMarked pools model after (take (i + 1) items)
wanted_more pools model before after items i x lt at was grows here item c kind =
    let P : List Asked → Type 0 = λ ss. In item ss in
    let Q : Asked → Type 0 = λ s. s.kind ≡ Wanted → IsMarked pools model after s.spec in
    elim (in_either (take i items) (get_or items i x ∷ []) item (subst P (take_more items i x lt) (from_contains (take (i + 1) items) item c))) [
      | inl j ↦ marked_grows pools model before after item.spec (was item (to_contains (take i items) item j) kind) grows
      | inr (inl e) ↦ subst Q (sym at ∙ e) here kind
      | inr (inr j) ↦ absurd j
    ]

pub wanted_all : (pools : List NamePool) (model after : List Bool) (items : List Asked) (i : ℕ) → length items ≤ i → WantedAreMarked pools model after (take i items) → WantedAreMarked pools model after items
wanted_all pools model after items i le was =
    let P : List Asked → Type 0 = λ ss. WantedAreMarked pools model after ss in
    subst P (take_all i items le) was

pub wanted_grows : (pools : List NamePool) (model before after : List Bool) (items : List Asked) → WantedAreMarked pools model before items → Grows before after → WantedAreMarked pools model after items
wanted_grows pools model before after items was grows item c kind = marked_grows pools model before after item.spec (was item c kind) grows

-- nothing is marked at first
none_side : (n i : ℕ) → unwrap_or (slice_get (replicate n false) i) false ≡ false
none_side zero i = refl
none_side (suc n) zero = refl
none_side (suc n) (suc i) = none_side n i

pub none_sound : (pools : List NamePool) (items : List Asked) (model marks : List Bool) (n : ℕ) → marks ≡ replicate n false → AreSound pools items model marks
none_sound pools items model marks n e x c h =
    absurd (true≢false (sym h ∙ ap (λ ms. side_of ms x.0) e ∙ none_side n (x.0 - 1)))

-- ---- the marks are those of what is reached

reached_chosen : (items : List Asked) (set : List PkgRecord) (m : PkgRecord) → IsReached items set m → Contains set m
reached_chosen items set m (wanted spec _ wants c named) = c
reached_chosen items set m (needed n spec _ r d c named) = c

reached_marked : (pools : List NamePool) (items : List Asked) (model marks : List Bool) → WantedAreMarked pools model marks items → NeedsAreMarked pools model marks marks (variables pools) →
    (m : PkgRecord) → IsReached items (chosen pools (side_of model)) m → (x : Numbered) → Contains (variables pools) x → side_of model x.0 ≡ true → x.1 ≡ m → side_of marks x.0 ≡ true
reached_marked pools items model marks w n m (wanted spec _ wants c named) x i h e =
    let P : PkgRecord → Type 0 = λ r. names spec r ≡ true in
    let Q : Parts → Type 0 = λ s. IsMarked pools model marks s in
    subst Q wants.3 (w wants.0 wants.1 wants.2) x i (subst P (sym e) named) h
reached_marked pools items model marks w n m (needed k spec _ r d c named) x i h e =
    let P : PkgRecord → Type 0 = λ r. names spec r ≡ true in
    let y = of_chosen pools (side_of model) k (reached_chosen items (chosen pools (side_of model)) k r) in
    let j = to_contains (variables pools) y.0 y.1.0 in
    let Q : PkgRecord → Type 0 = λ r. Contains r.depends spec in
    n y.0 j (reached_marked pools items model marks w n k r y.0 j y.1.1 y.2) spec (subst Q (sym y.2) d) x i (subst P (sym e) named) h

pub marks_cut : (pools : List NamePool) (items : List Asked) (model marks : List Bool) → AreSound pools items model marks → WantedAreMarked pools model marks items →
    NeedsAreMarked pools model marks marks (variables pools) → IsCut pools items (side_of model) (chosen pools (side_of marks))
marks_cut pools items model marks sound w n =
    (side_of marks, refl, λ x c. (λ h. sound x c h, λ h. reached_marked pools items model marks w n x.1 h.1 x c h.0 refl))

-- ---- the records that are marked

one_picked : (b : Bool) (n : ℕ) (r : PkgRecord) → map (λ (u : Numbered). u.1) (cond b ((n, r) ∷ []) []) ≡ cond b (r ∷ []) []
one_picked true n r = refl
one_picked false n r = refl

pub picked_step : (recs : List PkgRecord) (marks : List Bool) (i : ℕ) (x : PkgRecord) (before after : List PkgRecord) → i < length recs → get_or recs i x ≡ x →
    before ≡ marked_of marks (take i recs) → after ≡ before ++ cond (get_or marks i false) (x ∷ []) [] → after ≡ marked_of marks (take (i + 1) recs)
picked_step recs marks i x before after lt at was now =
    let p : Numbered → Bool = λ u. side_of marks u.0 in
    let front = marked_of marks (take i recs) in
    let step : marked_of marks (take (i + 1) recs) ≡ front ++ cond (get_or marks i false) (x ∷ []) []
    = ap (λ zs. map (λ (u : Numbered). u.1) (filter p zs)) (numbered_more 1 recs i (i + 1) x lt (omega arith))
    ∙ ap (map (λ (u : Numbered). u.1)) (filter-append p (numbered 1 (take i recs)) ((i + 1, get_or recs i x) ∷ []))
    ∙ map-append (λ (u : Numbered). u.1) (filter p (numbered 1 (take i recs))) (filter p ((i + 1, get_or recs i x) ∷ []))
    ∙ ap (λ b. front ++ map (λ (u : Numbered). u.1) (cond b ((i + 1, get_or recs i x) ∷ []) [])) (side_at marks i)
    ∙ ap (λ zs. front ++ zs) (one_picked (get_or marks i false) (i + 1) (get_or recs i x))
    ∙ ap (λ r. front ++ cond (get_or marks i false) (r ∷ []) []) at in
    now ∙ ap (λ zs. zs ++ cond (get_or marks i false) (x ∷ []) []) was ∙ sym step

pub picked_all : (recs : List PkgRecord) (marks : List Bool) (i : ℕ) (after : List PkgRecord) → length recs ≤ i → after ≡ marked_of marks (take i recs) → after ≡ marked_of marks recs
picked_all recs marks i after le was = was ∙ ap (marked_of marks) (take_all i recs le)

-- a slice that was lent and comes back whole
pub whole : (new old : List Bool) (n : ℕ) → length new ≡ n → length old ≡ n → take n (new ++ drop (length new) old) ≡ new
whole new old n e f = take_at new (drop (length new) old) n e

pub set_cut : (pools : List NamePool) (items : List Asked) (model marks lent : List Bool) (set : List PkgRecord) → set ≡ chosen pools (side_of lent) → lent ≡ marks →
    IsCut pools items (side_of model) (chosen pools (side_of marks)) → IsCut pools items (side_of model) set
set_cut pools items model marks lent set e same cut =
    let P : List PkgRecord → Type 0 = λ s. IsCut pools items (side_of model) s in
    subst P (sym (e ∙ ap (λ ms. chosen pools (side_of ms)) same)) cut
