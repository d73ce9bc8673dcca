-- What the lines of a block name, as the reader keeps it, and what they mean together.
use Rattle.std.proofs.Common.{◌≡◌, ◌≢◌, ◌↔◌, ◌⊎◌, inl, inr, ℕ, Bool, true, false, ◌||◌, ◌&&◌, not, cond, List, [], ◌∷◌, ◌++◌, Option, Some, Ordering, refl, sym, ap, ◌∙◌, subst}
use Rattle.std.specs.declared.cmp.Ordering.TheVariants.{Less, Equal, Greater}
use Rattle.std.specs.Ordering.{match_ordering}
use Rattle.std.specs.BTreeSet.{insert_key}
use Rattle.std.specs.List.{AllByRecursion, list_any}
use Rattle.std.proofs.lemmas.Bool.{true≢false}
use Rattle.conda_base.specs.Texts.{is_empty}
use Rattle.conda_history.specs.declared.line.Line.{Line}
use Rattle.conda_history.specs.declared.line.Line.TheVariants.{Nothing, Header, Removed, Added, Plain}
use Rattle.conda_history.specs.declared.revision.Block.{Block}
use Rattle.conda_history.specs.declared.stamp.Stamp.{Stamp}
use Rattle.conda_history.specs.Blocks.{IsAmong, IsBlockOf, IsLast, is_plain, is_signed, signed_dist}
use Rattle.conda_history.specs.Names.{Names}
use Rattle.conda_history.specs.Reading.{are_whole, block_of, named, no_names, put_in, taken_out}
use Rattle.conda_history.specs.Sets.{IsIn}
use Rattle.conda_history.proofs.SetLemmas.{C, Sorted, ascend_sorted, decided, empty_sorted, in_insert, in_remove, insert_in, remove_in, same_members, sorted_ascend, sorted_insert, sorted_remove}

-- the names that lines give, one after another
abbrev pub names_after : Names → List Line → Names
names_after n [] = n
names_after n (l ∷ ls) = names_after (named n l) ls

pub record Sorts (n : Names) : Type 0 where
  pub removed : Sorted n.removed
  pub added : Sorted n.added
  pub plain : Sorted n.plain

sorts_line : (n : Names) (l : Line) → Sorts n → Sorts (named n l)
sorts_line n Nothing s = s
sorts_line n (Header h) s = s
sorts_line n (Removed d) s = record { removed = sorted_insert d n.removed s.removed; added = sorted_remove d n.added s.added; plain = s.plain }
sorts_line n (Added d) s = record { removed = sorted_remove d n.removed s.removed; added = sorted_insert d n.added s.added; plain = s.plain }
sorts_line n (Plain d) s = record { removed = s.removed; added = s.added; plain = sorted_insert d n.plain s.plain }

sorts_after : (n : Names) (ls : List Line) → Sorts n → Sorts (names_after n ls)
sorts_after n [] s = s
sorts_after n (l ∷ ls) s = sorts_after (named n l) ls (sorts_line n l s)

pub no_sorts : Sorts no_names
no_sorts = record { removed = empty_sorted; added = empty_sorted; plain = empty_sorted }

-- ---- the last line with a sign that names a dist

-- a line that removes it, or one that adds it
abbrev pub line_that : Bool → List ℕ → Line
line_that true d = Removed d
line_that false d = Added d

abbrev pub set_that : Bool → Names → List (List ℕ)
set_that true n = n.removed
set_that false n = n.added

abbrev Unsigned : List ℕ → List Line → Type 0
Unsigned d ls = AllByRecursion (λ l. signed_dist l ≢ Some d) ls

-- what one more line leaves in a set
abbrev Stays : Bool → List ℕ → Names → Line → Type 0
Stays v d n l = (l ≡ line_that v d) ⊎ (IsIn d (set_that v n) × (signed_dist l ≢ Some d))

put_stays : (d k : List ℕ) (set : List (List ℕ)) (l m : Line) → (d ≡ k → l ≡ m) → IsIn d (put_in k set)
    → (l ≡ m) ⊎ (IsIn d set × (Some k ≢ Some d))
put_stays d k set l m f h = by (in_insert d k set h) (decided d (k ∷ []))
  where
    here : IsIn d set → IsIn d (k ∷ []) ⊎ (IsIn d (k ∷ []) → ⊥) → (l ≡ m) ⊎ (IsIn d set × (Some k ≢ Some d))
    here i (inl (inl e)) = inl (f e)
    here i (inl (inr e)) = absurd e
    here i (inr n) = inr (i, λ e. n (inl (let same : d ≡ k = cc in same)))

    by : (d ≡ k) ⊎ IsIn d set → IsIn d (k ∷ []) ⊎ (IsIn d (k ∷ []) → ⊥) → (l ≡ m) ⊎ (IsIn d set × (Some k ≢ Some d))
    by (inl e) r = inl (f e)
    by (inr i) r = here i r

out_stays : (d k : List ℕ) (set : List (List ℕ)) (l m : Line) → Sorted set → IsIn d (taken_out k set)
    → (l ≡ m) ⊎ (IsIn d set × (Some k ≢ Some d))
out_stays d k set l m s h = let r = in_remove d k set s h in inr (r.0, λ e. r.1 (let same : d ≡ k = cc in same))

line_stays : (v : Bool) (d : List ℕ) (n : Names) (l : Line) → Sorts n → IsIn d (set_that v (named n l)) → Stays v d n l
line_stays true d n Nothing s h = inr (h, λ e. cc)
line_stays false d n Nothing s h = inr (h, λ e. cc)
line_stays true d n (Header x) s h = inr (h, λ e. cc)
line_stays false d n (Header x) s h = inr (h, λ e. cc)
line_stays true d n (Plain k) s h = inr (h, λ e. cc)
line_stays false d n (Plain k) s h = inr (h, λ e. cc)
line_stays true d n (Removed k) s h = put_stays d k n.removed (Removed k) (Removed d) (λ e. ap Removed (sym e)) h
line_stays false d n (Removed k) s h = out_stays d k n.added (Removed k) (Added d) s.added h
line_stays true d n (Added k) s h = out_stays d k n.removed (Added k) (Removed d) s.removed h
line_stays false d n (Added k) s h = put_stays d k n.added (Added k) (Added d) (λ e. ap Added (sym e)) h

stays_line : (v : Bool) (d : List ℕ) (n : Names) (l : Line) → Stays v d n l → IsIn d (set_that v (named n l))
stays_line true d n Nothing (inl e) = cc
stays_line false d n Nothing (inl e) = cc
stays_line true d n (Header x) (inl e) = cc
stays_line false d n (Header x) (inl e) = cc
stays_line true d n (Plain k) (inl e) = cc
stays_line false d n (Plain k) (inl e) = cc
stays_line true d n (Removed k) (inl e) = let same : d ≡ k = cc in insert_in d k n.removed (inl same)
stays_line false d n (Removed k) (inl e) = cc
stays_line true d n (Added k) (inl e) = cc
stays_line false d n (Added k) (inl e) = let same : d ≡ k = cc in insert_in d k n.added (inl same)
stays_line true d n Nothing (inr h) = h.0
stays_line false d n Nothing (inr h) = h.0
stays_line true d n (Header x) (inr h) = h.0
stays_line false d n (Header x) (inr h) = h.0
stays_line true d n (Plain k) (inr h) = h.0
stays_line false d n (Plain k) (inr h) = h.0
stays_line true d n (Removed k) (inr h) = insert_in d k n.removed (inr h.0)
stays_line false d n (Removed k) (inr h) = remove_in d k n.added h.0 (λ e. h.1 (ap Some (sym e)))
stays_line true d n (Added k) (inr h) = remove_in d k n.removed h.0 (λ e. h.1 (ap Some (sym e)))
stays_line false d n (Added k) (inr h) = insert_in d k n.added (inr h.0)

signed_that : (v : Bool) (d : List ℕ) → signed_dist (line_that v d) ≡ Some d
signed_that true d = refl
signed_that false d = refl

unsigned_other : (x : Option (List ℕ)) (d : List ℕ) (ls : List Line) → x ≡ Some d → AllByRecursion (λ l. signed_dist l ≢ x) ls → Unsigned d ls
unsigned_other x d ls e h = subst (λ y. AllByRecursion (λ l. signed_dist l ≢ y) ls) e h

other_unsigned : (x : Option (List ℕ)) (d : List ℕ) (ls : List Line) → x ≡ Some d → Unsigned d ls → AllByRecursion (λ l. signed_dist l ≢ x) ls
other_unsigned x d ls e h = subst (λ y. AllByRecursion (λ l. signed_dist l ≢ y) ls) (sym e) h

last_more : (l m : Line) (ls : List Line) → IsLast ls m → IsLast (l ∷ ls) m
last_more l m ls h = (l ∷ h.0, h.1, ap (λ r. l ∷ r) h.2, h.3)

pub last_in : (v : Bool) (d : List ℕ) (n : Names) (ls : List Line) → Sorts n → IsIn d (set_that v (names_after n ls))
    → IsLast ls (line_that v d) ⊎ (IsIn d (set_that v n) × Unsigned d ls)
last_in v d n [] s h = inr (h, tt)
last_in v d n (l ∷ ls) s h = by (last_in v d (named n l) ls (sorts_line n l s) h)
  where
    here : Unsigned d ls → Stays v d n l → IsLast (l ∷ ls) (line_that v d) ⊎ (IsIn d (set_that v n) × Unsigned d (l ∷ ls))
    here u (inl e) = inl ([], ls, ap (λ k. k ∷ ls) e, other_unsigned (signed_dist (line_that v d)) d ls (signed_that v d) u)
    here u (inr i) = inr (i.0, (i.1, u))

    by : IsLast ls (line_that v d) ⊎ (IsIn d (set_that v (named n l)) × Unsigned d ls)
        → IsLast (l ∷ ls) (line_that v d) ⊎ (IsIn d (set_that v n) × Unsigned d (l ∷ ls))
    by (inl m) = inl (last_more l (line_that v d) ls m)
    by (inr i) = here i.1 (line_stays v d n l s i.0)

pub in_last : (v : Bool) (d : List ℕ) (n : Names) (ls : List Line) → IsLast ls (line_that v d) ⊎ (IsIn d (set_that v n) × Unsigned d ls)
    → IsIn d (set_that v (names_after n ls))
in_last v d n [] (inl m) = by m.0 m.2
  where
    by : (before : List Line) → [] ≡ before ++ line_that v d ∷ m.1 → IsIn d (set_that v n)
    by [] e = cc
    by (b ∷ before) e = cc
in_last v d n [] (inr h) = h.0
in_last v d n (l ∷ ls) (inl m) = by m.0 m.2 (in_last v d (named n l) ls)
  where
    by : (before : List Line) → l ∷ ls ≡ before ++ line_that v d ∷ m.1
        → (IsLast ls (line_that v d) ⊎ (IsIn d (set_that v (named n l)) × Unsigned d ls) → IsIn d (set_that v (names_after (named n l) ls)))
        → IsIn d (set_that v (names_after (named n l) ls))
    by [] e f =
        let same : l ≡ line_that v d = cc in
        let rest : m.1 ≡ ls = cc in
        f (inr (
          stays_line v d n l (inl same),
          unsigned_other (signed_dist (line_that v d)) d ls (signed_that v d)
              (subst (λ xs. AllByRecursion (λ k. signed_dist k ≢ signed_dist (line_that v d)) xs) rest m.3),
        ))
    by (b ∷ before) e f =
        let rest : ls ≡ before ++ line_that v d ∷ m.1 = cc in
        f (inl (before, m.1, rest, m.3))
in_last v d n (l ∷ ls) (inr h) = in_last v d (named n l) ls (inr (stays_line v d n l (inr (h.0, h.1.0)), h.1.1))

-- ---- lines without a sign

plain_line : (d : List ℕ) (n : Names) (l : Line) → IsIn d (named n l).plain → (l ≡ Plain d) ⊎ IsIn d n.plain
plain_line d n Nothing h = inr h
plain_line d n (Header x) h = inr h
plain_line d n (Removed k) h = inr h
plain_line d n (Added k) h = inr h
plain_line d n (Plain k) h = by (in_insert d k n.plain h)
  where
    by : (d ≡ k) ⊎ IsIn d n.plain → (Plain k ≡ Plain d) ⊎ IsIn d n.plain
    by (inl e) = inl (ap Plain (sym e))
    by (inr i) = inr i

line_plain : (d : List ℕ) (n : Names) (l : Line) → (l ≡ Plain d) ⊎ IsIn d n.plain → IsIn d (named n l).plain
line_plain d n Nothing (inl e) = cc
line_plain d n (Header x) (inl e) = cc
line_plain d n (Removed k) (inl e) = cc
line_plain d n (Added k) (inl e) = cc
line_plain d n (Plain k) (inl e) = let same : d ≡ k = cc in insert_in d k n.plain (inl same)
line_plain d n Nothing (inr h) = h
line_plain d n (Header x) (inr h) = h
line_plain d n (Removed k) (inr h) = h
line_plain d n (Added k) (inr h) = h
line_plain d n (Plain k) (inr h) = insert_in d k n.plain (inr h)

pub among_in : (d : List ℕ) (n : Names) (ls : List Line) → IsIn d (names_after n ls).plain → IsAmong ls (Plain d) ⊎ IsIn d n.plain
among_in d n [] h = inr h
among_in d n (l ∷ ls) h = by (among_in d (named n l) ls h)
  where
    here : (l ≡ Plain d) ⊎ IsIn d n.plain → IsAmong (l ∷ ls) (Plain d) ⊎ IsIn d n.plain
    here (inl e) = inl ([], ls, ap (λ k. k ∷ ls) e)
    here (inr i) = inr i

    by : IsAmong ls (Plain d) ⊎ IsIn d (named n l).plain → IsAmong (l ∷ ls) (Plain d) ⊎ IsIn d n.plain
    by (inl m) = inl (l ∷ m.0, m.1, ap (λ r. l ∷ r) m.2)
    by (inr i) = here (plain_line d n l i)

pub in_among : (d : List ℕ) (n : Names) (ls : List Line) → IsAmong ls (Plain d) ⊎ IsIn d n.plain → IsIn d (names_after n ls).plain
in_among d n [] (inl m) = by m.0 m.2
  where
    by : (before : List Line) → [] ≡ before ++ Plain d ∷ m.1 → IsIn d n.plain
    by [] e = cc
    by (b ∷ before) e = cc
in_among d n [] (inr h) = h
in_among d n (l ∷ ls) (inl m) = by m.0 m.2 (in_among d (named n l) ls)
  where
    by : (before : List Line) → l ∷ ls ≡ before ++ Plain d ∷ m.1
        → (IsAmong ls (Plain d) ⊎ IsIn d (named n l).plain → IsIn d (names_after (named n l) ls).plain) → IsIn d (names_after (named n l) ls).plain
    by [] e f = let same : l ≡ Plain d = cc in f (inr (line_plain d n l (inl same)))
    by (b ∷ before) e f = let rest : ls ≡ before ++ Plain d ∷ m.1 = cc in f (inl (before, m.1, rest))
in_among d n (l ∷ ls) (inr h) = in_among d (named n l) ls (inr (line_plain d n l (inr h)))

-- ---- whether the lines are the whole set

or_true : (v : Bool) → v || true ≡ true
or_true true = refl
or_true false = refl

true_or : (v w : Bool) → v ≡ true → v || w ≡ true
true_or true w e = refl
true_or false w e = absurd (true≢false (sym e))

signed_after : (n : Names) (ls : List Line) → (names_after n ls).signed ≡ n.signed || list_any is_signed ls
signed_after n [] = sym (or_false n.signed)
  where
    or_false : (v : Bool) → v || false ≡ v
    or_false true = refl
    or_false false = refl
signed_after n (Nothing ∷ ls) = signed_after n ls
signed_after n (Header x ∷ ls) = signed_after n ls
signed_after n (Removed d ∷ ls) = signed_after (named n (Removed d)) ls ∙ sym (or_true n.signed)
signed_after n (Added d ∷ ls) = signed_after (named n (Added d)) ls ∙ sym (or_true n.signed)
signed_after n (Plain d ∷ ls) = signed_after (named n (Plain d)) ls

put_some : (d : List ℕ) (set : List (List ℕ)) → is_empty (put_in d set) ≡ false
put_some d [] = refl
put_some d (x ∷ xs) = by (C d x)
  where
    by : (o : Ordering) → is_empty (match_ordering o (d ∷ x ∷ xs) (x ∷ xs) (x ∷ insert_key C xs d)) ≡ false
    by Less = refl
    by Equal = refl
    by Greater = refl

plain_after : (n : Names) (ls : List Line) → not (is_empty (names_after n ls).plain) ≡ not (is_empty n.plain) || list_any is_plain ls
plain_after n [] = sym (or_false (not (is_empty n.plain)))
  where
    or_false : (v : Bool) → v || false ≡ v
    or_false true = refl
    or_false false = refl
plain_after n (Nothing ∷ ls) = plain_after n ls
plain_after n (Header x ∷ ls) = plain_after n ls
plain_after n (Removed d ∷ ls) = plain_after (named n (Removed d)) ls
plain_after n (Added d ∷ ls) = plain_after (named n (Added d)) ls
plain_after n (Plain d ∷ ls) =
    plain_after (named n (Plain d)) ls
    ∙ ap (λ e. not e || list_any is_plain ls) (put_some d n.plain) ∙ sym (or_true (not (is_empty n.plain)))

pub whole_after : (ls : List Line) → are_whole (names_after no_names ls) ≡ not (list_any is_signed ls) && list_any is_plain ls
whole_after ls =
    ap (λ v. not v && not (is_empty (names_after no_names ls).plain)) (signed_after no_names ls)
    ∙ ap (λ v. not (list_any is_signed ls) && v) (plain_after no_names ls)

-- ---- a block

pub block_same : (a b : Block) → a.stamp ≡ b.stamp → a.removed ≡ b.removed → a.added ≡ b.added → a.whole ≡ b.whole → a ≡ b
block_same a b p q r w = λ i. record { stamp = p i; removed = q i; added = r i; whole = w i }

pub block_stamp : (s : Stamp) (n : Names) → (block_of s n).stamp ≡ s
block_stamp s n = by (are_whole n)
  where
    by : (v : Bool) → (let b : Block = cond v (record { stamp = s; removed = []; added = n.plain; whole = true }) (record { stamp = s; removed = n.removed; added = n.added; whole = false }) in b).stamp ≡ s
    by true = refl
    by false = refl

and_both : (v w : Bool) → not v && w ≡ true → (v ≡ false) × (w ≡ true)
and_both true w e = absurd (true≢false (sym e))
and_both false w e = (refl, e)

both_and : (v w : Bool) → v ≡ false → w ≡ true → not v && w ≡ true
both_and true w e f = absurd (true≢false e)
both_and false w e f = f

pub is_block : (s : Stamp) (ls : List Line) → IsBlockOf ls (block_of s (names_after no_names ls))
is_block s ls = by (are_whole n) refl
  where
    n : Names
    n = names_after no_names ls

    sorts : Sorts n
    sorts = sorts_after no_names ls no_sorts

    last : (v : Bool) (d : List ℕ) → IsIn d (set_that v n) ↔ IsLast ls (line_that v d)
    last v d = (λ h. out v (last_in v d no_names ls no_sorts h), λ h. in_last v d no_names ls (inl h))
      where
        out : (w : Bool) → IsLast ls (line_that v d) ⊎ (IsIn d (set_that w no_names) × Unsigned d ls) → IsLast ls (line_that v d)
        out w (inl m) = m
        out true (inr i) = absurd i.0
        out false (inr i) = absurd i.0

    among : (d : List ℕ) → IsIn d n.plain ↔ IsAmong ls (Plain d)
    among d = (λ h. out (among_in d no_names ls h), λ h. in_among d no_names ls (inl h))
      where
        out : IsAmong ls (Plain d) ⊎ IsIn d [] → IsAmong ls (Plain d)
        out (inl m) = m
        out (inr i) = absurd i

    by : (v : Bool) → are_whole n ≡ v
        → IsBlockOf ls (cond v (record { stamp = s; removed = []; added = n.plain; whole = true }) (record { stamp = s; removed = n.removed; added = n.added; whole = false }))
    by true e = record {
      whole = (λ _. and_both (list_any is_signed ls) (list_any is_plain ls) (sym (whole_after ls) ∙ e), λ _. refl);
      whole_removed = λ _. refl;
      whole_added = λ _ d. among d;
      removed = λ f. absurd (true≢false f);
      added = λ f. absurd (true≢false f);
      removed_ascend = tt;
      added_ascend = ascend_sorted n.plain sorts.plain;
    }
    by false e = record {
      whole = (λ f. absurd (true≢false (sym f)), λ m. absurd (true≢false (sym (both_and (list_any is_signed ls) (list_any is_plain ls) m.0 m.1) ∙ sym (whole_after ls) ∙ e)));
      whole_removed = λ f. absurd (true≢false (sym f));
      whole_added = λ f. absurd (true≢false (sym f));
      removed = λ _ d. last true d;
      added = λ _ d. last false d;
      removed_ascend = ascend_sorted n.removed sorts.removed;
      added_ascend = ascend_sorted n.added sorts.added;
    }

through : {A B P : Type 0} → A ↔ P → B ↔ P → A → B
through f g a = g.1 (f.0 a)

-- lines mean one block of a stamp
pub one_block : (ls : List Line) (a b : Block) → a.stamp ≡ b.stamp → IsBlockOf ls a → IsBlockOf ls b → a ≡ b
one_block ls a b e p q = by a.whole refl b.whole refl
  where
    wholes : a.whole ≡ true → b.whole ≡ true
    wholes h = q.whole.1 (p.whole.0 h)

    by : (v : Bool) → a.whole ≡ v → (w : Bool) → b.whole ≡ w → a ≡ b
    by true f true g =
        let added : a.added ≡ b.added =
        same_members a.added b.added (sorted_ascend a.added p.added_ascend) (sorted_ascend b.added q.added_ascend)
        (λ d. through (p.whole_added f d) (q.whole_added g d)) (λ d. through (q.whole_added g d) (p.whole_added f d)) in
        block_same a b e (p.whole_removed f ∙ sym (q.whole_removed g)) added (f ∙ sym g)
    by true f false g = absurd (true≢false (sym (wholes f) ∙ g))
    by false f true g = absurd (true≢false (sym (p.whole.1 (q.whole.0 g)) ∙ f))
    by false f false g =
        let removed : a.removed ≡ b.removed =
        same_members a.removed b.removed (sorted_ascend a.removed p.removed_ascend) (sorted_ascend b.removed q.removed_ascend)
        (λ d. through (p.removed f d) (q.removed g d)) (λ d. through (q.removed g d) (p.removed f d)) in
        let added : a.added ≡ b.added =
        same_members a.added b.added (sorted_ascend a.added p.added_ascend) (sorted_ascend b.added q.added_ascend)
        (λ d. through (p.added f d) (q.added g d)) (λ d. through (q.added g d) (p.added f d)) in
        block_same a b e removed added (f ∙ sym g)
