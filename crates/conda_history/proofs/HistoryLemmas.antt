-- What bytes are read as is what they are a history of, and a line that is refused is the first bad one.
use Rattle.std.proofs.Common.{◌≡◌, ◌≢◌, ◌⊎◌, inl, inr, ℕ, Bool, true, false, List, [], ◌∷◌, ◌++◌, Option, Some, None, refl, sym, ap, ◌∙◌, subst}
use Rattle.std.specs.Prelude.{Ok, Err, is_some, option_and_then}
use Rattle.std.specs.List.{AllByRecursion, flat_map, list_any}
use Rattle.std.proofs.lemmas.Bool.{true≢false}
use Rattle.conda_base.specs.Reads.{Read, ◌>>=◌}
use Rattle.conda_path.specs.Dists.{IsDist}
use Rattle.conda_history.specs.declared.line.Line.{Line}
use Rattle.conda_history.specs.declared.line.Line.TheVariants.{Nothing, Header, Removed, Added, Plain}
use Rattle.conda_history.specs.declared.read.Reading.{Reading}
use Rattle.conda_history.specs.declared.revision.Block.{Block}
use Rattle.conda_history.specs.declared.revision.History.{History}
use Rattle.conda_history.specs.Blocks.{AreChapters, Chapter, HaveBlocks, IsAmong, IsBadAt, IsBlock, IsBlockOf, IsHistory, begins_well, chapter_lines, is_plain, signed_dist}
use Rattle.conda_history.specs.Reading.{blocks_read, closed, history_read, lines_read, start, step, text_read}
use Rattle.conda_history.specs.Says.{AreLines, Means, lines_of}
use Rattle.conda_history.specs.Sets.{IsIn}
use Rattle.conda_history.specs.Stamps.{Exists}
use Rattle.conda_history.proofs.LineLemmas.{Rules, line_found, line_read}
use Rattle.conda_history.proofs.RunLemmas.{bad_lines, blocks_run, lines_bad, lines_run, run, run_append, run_blocks, run_lines, well}

bind_ok : {A B F : Type 0} (r : Read A F) (f : A → Read B F) (y : B) → (r >>= f) ≡ Ok y → (x : A) × (r ≡ Ok x) × (f x ≡ Ok y)
bind_ok (Ok x) f y h = (x, refl, h)
bind_ok (Err e) f y h = cc

bind_err : {A B F : Type 0} (r : Read A F) (f : A → Read B F) (e : F) → (r >>= f) ≡ Err e → (r ≡ Err e) ⊎ ((x : A) × (r ≡ Ok x) × (f x ≡ Err e))
bind_err (Ok x) f e h = inr (x, refl, h)
bind_err (Err d) f e h = inl (let same : d ≡ e = cc in ap Err same)

history_same : (a b : History) → (let m : Read History ℕ = Ok a in m) ≡ Ok b → a ≡ b
history_same a b e = cc

blocks_same : (a b : List Block) → (let m : Read (List Block) ℕ = Ok a in m) ≡ Ok b → a ≡ b
blocks_same a b e = cc

-- what is read of a text, in two steps
record Read_as (bytes : List ℕ) (blocks : List Block) : Type 0 where
  last : Reading
  text : text_read bytes ≡ Ok last
  closes : closed last ≡ blocks

read_as : (bytes : List ℕ) (history : History) → history_read bytes ≡ Ok history → Read_as bytes history.blocks
unfolding blocks_read
read_as bytes history h =
    let outer = bind_ok (blocks_read bytes) (λ bs. Ok (record { blocks = bs })) history h in
    let inner = bind_ok (text_read bytes) (λ r. Ok (closed r)) outer.0 outer.1 in
    let same : outer.0 ≡ history.blocks = ap (λ (x : History). x.blocks) (history_same (record { blocks = outer.0 }) history outer.2) in
    record { last = inner.0; text = inner.1; closes = blocks_same (closed inner.0) outer.0 inner.2 ∙ same }

as_read : (bytes : List ℕ) (history : History) → Read_as bytes history.blocks → history_read bytes ≡ Ok history
unfolding blocks_read
as_read bytes history m =
    ap (λ t. (t >>= (λ r. (let o : Read (List Block) ℕ = Ok (closed r) in o))) >>= (λ bs. (let o : Read History ℕ = Ok (record { blocks = bs }) in o))) m.text
    ∙ ap (λ bs. (let o : Read History ℕ = Ok (record { blocks = bs }) in o)) m.closes

pub read_of_text : (bytes : List ℕ) (last : Reading) (blocks : List Block) → text_read bytes ≡ Ok last → closed last ≡ blocks
    → history_read bytes ≡ Ok (record { blocks = blocks })
read_of_text bytes last blocks h e = as_read bytes (record { blocks = blocks }) (record { last = last; text = h; closes = e })

text_err : (bytes : List ℕ) (k : ℕ) → history_read bytes ≡ Err k → text_read bytes ≡ Err k
unfolding blocks_read
text_err bytes k h = outer (bind_err (blocks_read bytes) (λ bs. (let o : Read History ℕ = Ok (record { blocks = bs }) in o)) k h)
  where
    inner : (text_read bytes ≡ Err k) ⊎ ((x : Reading) × (text_read bytes ≡ Ok x) × ((let o : Read (List Block) ℕ = Ok (closed x) in o) ≡ Err k)) → text_read bytes ≡ Err k
    inner (inl e) = e
    inner (inr m) = let e = m.2 in cc

    outer : (blocks_read bytes ≡ Err k) ⊎ ((x : List Block) × (blocks_read bytes ≡ Ok x) × ((let o : Read History ℕ = Ok (record { blocks = x }) in o) ≡ Err k)) → text_read bytes ≡ Err k
    outer (inl e) = inner (bind_err (text_read bytes) (λ r. (let o : Read (List Block) ℕ = Ok (closed r) in o)) k e)
    outer (inr m) = let e = m.2 in cc

err_text : (bytes : List ℕ) (k : ℕ) → text_read bytes ≡ Err k → history_read bytes ≡ Err k
unfolding blocks_read
err_text bytes k h =
    ap (λ t. (t >>= (λ r. (let o : Read (List Block) ℕ = Ok (closed r) in o))) >>= (λ bs. (let o : Read History ℕ = Ok (record { blocks = bs }) in o))) h

-- ---- which lines can be read

some_of : (o : Option Reading) → is_some o ≡ true → (r : Reading) × (o ≡ Some r)
some_of None h = absurd (true≢false (sym h))
some_of (Some r) h = (r, refl)

none_of : (o : Option Reading) → is_some (option_and_then (λ (n : Reading). Some n) o) ≡ false → o ≡ None
none_of None h = refl
none_of (Some r) h = absurd (true≢false h)

one_line : (ls : List Line) (l : Line) (r : Reading) → run start ls ≡ Some r → begins_well (ls ++ l ∷ []) ≡ is_some (option_and_then (λ (n : Reading). Some n) (step r l))
one_line ls l r h = sym (well (ls ++ l ∷ [])) ∙ ap is_some (run_append start ls (l ∷ []) r h)

-- ---- the blocks that are read have their lists in order

-- what a line that says something has
IsGood : Line → Type 0
IsGood Nothing = Unit {0}
IsGood (Header s) = Exists s
IsGood (Removed d) = IsDist d
IsGood (Added d) = IsDist d
IsGood (Plain d) = IsDist d

good_line : (raw : List ℕ) (l : Line) → Means raw l → IsGood l
unfolding IsGood
good_line raw Nothing m = tt
good_line raw (Header s) m = let x = m.says in x.moment
good_line raw (Removed d) m = let x = m.says in x.2.rule
good_line raw (Added d) m = let x = m.says in x.2.rule
good_line raw (Plain d) m = let x = m.says in x.1.rule

good_lines : (raws : List (List ℕ)) (ls : List Line) → AreLines raws ls → AllByRecursion IsGood ls
good_lines [] [] a = tt
good_lines [] (l ∷ ls) a = absurd a
good_lines (raw ∷ raws) [] a = absurd a
good_lines (raw ∷ raws) (l ∷ ls) a = (good_line raw l a.0, good_lines raws ls a.1)

all_front : {X : Type 0} (P : X → Type 0) (xs ys : List X) → AllByRecursion P (xs ++ ys) → AllByRecursion P xs
all_front P [] ys h = tt
all_front P (x ∷ xs) ys h = (h.0, all_front P xs ys h.1)

all_back : {X : Type 0} (P : X → Type 0) (xs ys : List X) → AllByRecursion P (xs ++ ys) → AllByRecursion P ys
all_back P [] ys h = h
all_back P (x ∷ xs) ys h = all_back P xs ys h.1

all_in : (P : List ℕ → Type 0) (xs : List (List ℕ)) → ((d : List ℕ) → IsIn d xs → P d) → AllByRecursion P xs
all_in P [] f = tt
all_in P (x ∷ xs) f = (f x (inl refl), all_in P xs (λ d i. f d (inr i)))

good_at : (ls before after : List Line) (l : Line) → ls ≡ before ++ l ∷ after → AllByRecursion IsGood ls → IsGood l
good_at ls before after l e h = let r = all_back IsGood before (l ∷ after) (subst (AllByRecursion IsGood) e h) in r.0

unsigned_at : (d : List ℕ) (ls before after : List Line) (l : Line) → ls ≡ before ++ l ∷ after → signed_dist l ≡ Some d
    → AllByRecursion (λ k. signed_dist k ≢ Some d) ls → ⊥
unsigned_at d ls before after l e s h =
    let r = all_back (λ k. signed_dist k ≢ Some d) before (l ∷ after) (subst (AllByRecursion (λ k. signed_dist k ≢ Some d)) e h) in r.0 s

-- one dist isn't last removed and last added
not_both : (d : List ℕ) (ls b c : List Line) (x y : List Line) → ls ≡ b ++ Removed d ∷ x → ls ≡ c ++ Added d ∷ y
    → AllByRecursion (λ k. signed_dist k ≢ Some d) x → AllByRecursion (λ k. signed_dist k ≢ Some d) y → ⊥
not_both d [] [] c x y e f p q = cc
not_both d [] (k ∷ b) c x y e f p q = cc
not_both d (l ∷ ls) [] [] x y e f p q = cc
not_both d (l ∷ ls) [] (k ∷ c) x y e f p q =
    let rest : x ≡ c ++ Added d ∷ y = cc in unsigned_at d x c y (Added d) rest refl p
not_both d (l ∷ ls) (k ∷ b) [] x y e f p q =
    let rest : y ≡ b ++ Removed d ∷ x = cc in unsigned_at d y b x (Removed d) rest refl q
not_both d (l ∷ ls) (k ∷ b) (j ∷ c) x y e f p q =
    let one : ls ≡ b ++ Removed d ∷ x = cc in
    let two : ls ≡ c ++ Added d ∷ y = cc in
    not_both d ls b c x y one two p q

plain_among : (ls : List Line) → list_any is_plain ls ≡ true → (d : List ℕ) × IsAmong ls (Plain d)
plain_among [] h = absurd (true≢false (sym h))
plain_among (Plain d ∷ ls) h = (d, ([], ls, refl))
plain_among (Nothing ∷ ls) h = let m = plain_among ls h in (m.0, (Nothing ∷ m.1.0, m.1.1, ap (λ xs. Nothing ∷ xs) m.1.2))
plain_among (Header s ∷ ls) h = let m = plain_among ls h in (m.0, (Header s ∷ m.1.0, m.1.1, ap (λ xs. Header s ∷ xs) m.1.2))
plain_among (Removed k ∷ ls) h = let m = plain_among ls h in (m.0, (Removed k ∷ m.1.0, m.1.1, ap (λ xs. Removed k ∷ xs) m.1.2))
plain_among (Added k ∷ ls) h = let m = plain_among ls h in (m.0, (Added k ∷ m.1.0, m.1.1, ap (λ xs. Added k ∷ xs) m.1.2))

good_block : (c : Chapter) (b : Block) → b.stamp ≡ c.stamp → Exists c.stamp → AllByRecursion IsGood c.body → IsBlockOf c.body b → IsBlock b
unfolding IsGood
good_block c b e x g m = by b.whole refl
  where
    whole_some : b.whole ≡ true → b.added ≡ [] → ⊥
    whole_some f q =
        let p = plain_among c.body (m.whole.0 f).1 in
        let i = (m.whole_added f p.0).1 p.1 in
        absurd (let P : List (List ℕ) → Type 0 = IsIn p.0 in subst P q i)

    by : (v : Bool) → b.whole ≡ v → IsBlock b
    by true f = record {
      stamp = subst Exists (sym e) x;
      removed = subst (AllByRecursion IsDist) (sym (m.whole_removed f)) tt;
      added = all_in IsDist b.added (λ d i. let a = (m.whole_added f d).0 i in good_at c.body a.0 a.1 (Plain d) a.2 g);
      removed_ascend = m.removed_ascend;
      added_ascend = m.added_ascend;
      apart = λ d i j. let P : List (List ℕ) → Type 0 = IsIn d in subst P (m.whole_removed f) i;
      whole_removed = m.whole_removed;
      whole_added = λ h. whole_some h;
    }
    by false f = record {
      stamp = subst Exists (sym e) x;
      removed = all_in IsDist b.removed (λ d i. let a = (m.removed f d).0 i in good_at c.body a.0 a.1 (Removed d) a.2 g);
      added = all_in IsDist b.added (λ d i. let a = (m.added f d).0 i in good_at c.body a.0 a.1 (Added d) a.2 g);
      removed_ascend = m.removed_ascend;
      added_ascend = m.added_ascend;
      apart = λ d i j.
          let r = (m.removed f d).0 i in
          let a = (m.added f d).0 j in
          not_both d c.body r.0 a.0 r.1 a.1 r.2 a.2 r.3 a.3;
      whole_removed = m.whole_removed;
      whole_added = λ h. absurd (true≢false (sym h ∙ f));
    }

good_blocks : (cs : List Chapter) (bs : List Block) → AllByRecursion IsGood (flat_map chapter_lines cs) → AreChapters cs bs → AllByRecursion IsBlock bs
unfolding IsGood
good_blocks [] [] g a = tt
good_blocks [] (b ∷ bs) g a = absurd a
good_blocks (c ∷ cs) [] g a = absurd a
good_blocks (c ∷ cs) (b ∷ bs) g a =
    let rest = flat_map chapter_lines cs in
    (good_block c b a.0.same_stamp g.0 (all_front IsGood c.body rest g.1) a.0.means, good_blocks cs bs (all_back IsGood c.body rest g.1) a.1)

-- ---- the laws

module _ (rules : Rules) where
  pub read_means : (bytes : List ℕ) (history : History) → history_read bytes ≡ Ok history → IsHistory bytes history.blocks
  read_means bytes history h =
      let m = read_as bytes history h in
      let lines = lines_run (line_found rules) (line_read rules) 1 start (lines_of bytes) m.last m.text in
      record { lines = lines.0; means = lines.1; blocks_are = subst (HaveBlocks lines.0) m.closes (run_blocks lines.0 m.last lines.2) }

  pub means_read : (bytes : List ℕ) (history : History) → IsHistory bytes history.blocks → history_read bytes ≡ Ok history
  means_read bytes history h =
      let m = blocks_run h.lines history.blocks h.blocks_are in
      as_read bytes history (record {
        last = m.0;
        text = run_lines (line_found rules) (line_read rules) 1 start (lines_of bytes) h.lines m.0 h.means m.1;
        closes = m.2;
      })

  pub read_bad : (bytes : List ℕ) (k : ℕ) → history_read bytes ≡ Err k → IsBadAt bytes k
  read_bad bytes k h =
      let b = lines_bad (line_found rules) (line_read rules) 1 start (lines_of bytes) k (text_err bytes k h) in
      record {
        before = b.before;
        bad = b.bad;
        behind = b.behind;
        lines = b.lines;
        split = b.split;
        place = b.place;
        means = b.means;
        well = sym (well b.lines) ∙ ap is_some b.runs;
        wrong = λ l m. one_line b.lines l b.reading b.runs ∙ ap (λ o. is_some (option_and_then (λ (n : Reading). Some n) o)) (b.stops l m);
      }

  pub bad_read : (bytes : List ℕ) (k : ℕ) → IsBadAt bytes k → history_read bytes ≡ Err k
  bad_read bytes k h =
      let r = some_of (run start h.lines) (well h.lines ∙ h.well) in
      err_text bytes k
      (ap (lines_read 1 start) h.split
      ∙ bad_lines (line_found rules) (line_read rules) 1 start h.before h.bad h.behind h.lines r.0 h.means r.1
      (λ l m. none_of (step r.0 l) (sym (one_line h.lines l r.0 r.1) ∙ h.wrong l m))
      ∙ ap Err (sym h.place))

  pub read_good : (bytes : List ℕ) (history : History) → history_read bytes ≡ Ok history → AllByRecursion IsBlock history.blocks
  read_good bytes history h =
      let m = read_means bytes history h in
      let b = m.blocks_are in
      let good = all_back IsGood b.intro (flat_map chapter_lines b.chapters)
      (subst (AllByRecursion IsGood) b.whole (good_lines (lines_of bytes) m.lines m.means)) in
      good_blocks b.chapters history.blocks good b.blocks_are
