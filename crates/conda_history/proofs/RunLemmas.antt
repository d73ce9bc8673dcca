-- What lines in their order are read as, and the blocks that they are.
use Rattle.std.proofs.Common.{◌≡◌, ℕ, ◌+◌, Bool, true, false, ◌||◌, List, [], ◌∷◌, ◌++◌, length, append_assoc, Option, Some, None, refl, sym, ap, ◌∙◌, subst, arith}
use Rattle.std.specs.Prelude.{Ok, Err, is_some, option_and_then}
use Rattle.std.specs.List.{flat_map, list_all, list_any}
use Rattle.std.proofs.lemmas.Bool.{true≢false}
use Rattle.conda_base.specs.Reads.{Read, ◌>>=◌}
use Rattle.conda_history.specs.declared.line.Line.{Line}
use Rattle.conda_history.specs.declared.line.Line.TheVariants.{Nothing, Header, Removed, Added, Plain}
use Rattle.conda_history.specs.declared.read.Open.{Open}
use Rattle.conda_history.specs.declared.read.Reading.{Reading}
use Rattle.conda_history.specs.declared.revision.Block.{Block}
use Rattle.conda_history.specs.declared.stamp.Stamp.{Stamp}
use Rattle.conda_history.specs.Blocks.{AreChapters, Chapter, HaveBlocks, IsChapter, begins_well, chapter_lines, is_header, says_nothing}
use Rattle.conda_history.specs.Lines.{line_of}
use Rattle.conda_history.specs.Reading.{block_of, closed, line_read as line_read_of, lines_read, no_names, open_with, or_line, start, step}
use Rattle.conda_history.specs.Says.{AreLines, Means}
use Rattle.conda_history.proofs.BlockLemmas.{block_stamp, is_block, names_after, one_block}

-- the blocks with what lines say, one after another
abbrev pub run : Reading → List Line → Option Reading
run r [] = Some r
run r (l ∷ ls) = option_and_then (λ n. run n ls) (step r l)

then_some : {X Y : Type 0} (f : X → Option Y) (o : Option X) (y : Y) → option_and_then f o ≡ Some y → (x : X) × (o ≡ Some x) × (f x ≡ Some y)
then_some f (Some x) y h = (x, refl, h)
then_some f None y h = cc

run_more : (r : Reading) (l : Line) (ls : List Line) (n : Reading) → step r l ≡ Some n → run r (l ∷ ls) ≡ run n ls
run_more r l ls n e = ap (option_and_then (λ m. run m ls)) e

pub run_append : (r : Reading) (ls ms : List Line) (n : Reading) → run r ls ≡ Some n → run r (ls ++ ms) ≡ run n ms
run_append r [] ms n h = let same : r ≡ n = cc in ap (λ m. run m ms) same
run_append r (l ∷ ls) ms n h =
    let parts = then_some (λ m. run m ls) (step r l) n h in
    run_more r l (ls ++ ms) parts.0 parts.1 ∙ run_append parts.0 ls ms n parts.2

-- ---- a line in its place

module _ (found : (raw : List ℕ) (l : Line) → line_of raw ≡ Some l → Means raw l) (read : (raw : List ℕ) (l : Line) → Means raw l → line_of raw ≡ Some l) where
  record Steps (raw : List ℕ) (r n : Reading) : Type 0 where
    line : Line
    means : Means raw line
    steps : step r line ≡ Some n

  ok_same : (x y : Reading) → (let m : Read Reading ℕ = Ok x in m) ≡ Ok y → x ≡ y
  ok_same x y e = cc

  err_same : (x y : ℕ) → (let m : Read Reading ℕ = Err x in m) ≡ Err y → x ≡ y
  err_same x y e = cc

  line_steps : (k : ℕ) (r : Reading) (raw : List ℕ) (n : Reading) → line_read_of k r raw ≡ Ok n → Steps raw r n
  line_steps k r raw n h = by (option_and_then (step r) (line_of raw)) refl h
    where
      by : (o : Option Reading) → option_and_then (step r) (line_of raw) ≡ o → or_line k o ≡ Ok n → Steps raw r n
      by None e g = cc
      by (Some m) e g =
          let parts = then_some (step r) (line_of raw) m e in
          record { line = parts.0; means = found raw parts.0 parts.1; steps = parts.2 ∙ ap Some (ok_same m n g) }

  steps_line : (k : ℕ) (r : Reading) (raw : List ℕ) (l : Line) (n : Reading) → Means raw l → step r l ≡ Some n → line_read_of k r raw ≡ Ok n
  steps_line k r raw l n m s = ap (λ o. or_line k (option_and_then (step r) o)) (read raw l m) ∙ ap (or_line k) s

  record Stops (raw : List ℕ) (r : Reading) : Type 0 where
    none : (l : Line) → Means raw l → step r l ≡ None

  line_stops : (k : ℕ) (r : Reading) (raw : List ℕ) (j : ℕ) → line_read_of k r raw ≡ Err j → (k ≡ j) × Stops raw r
  line_stops k r raw j h = by (option_and_then (step r) (line_of raw)) refl h
    where
      by : (o : Option Reading) → option_and_then (step r) (line_of raw) ≡ o → or_line k o ≡ Err j → (k ≡ j) × Stops raw r
      by None e g = (err_same k j g, record { none = λ l m. sym (ap (option_and_then (step r)) (read raw l m)) ∙ e })
      by (Some m) e g = cc

  stops_line : (k : ℕ) (r : Reading) (raw : List ℕ) → Stops raw r → line_read_of k r raw ≡ Err k
  stops_line k r raw s = ap (or_line k) (by (line_of raw) refl)
    where
      by : (o : Option Line) → line_of raw ≡ o → option_and_then (step r) o ≡ None
      by None e = refl
      by (Some l) e = s.none l (found raw l e)

  -- ---- all lines

  pub lines_run : (k : ℕ) (r : Reading) (raws : List (List ℕ)) (n : Reading) → lines_read k r raws ≡ Ok n
      → (ls : List Line) × AreLines raws ls × (run r ls ≡ Some n)
  lines_run k r [] n h = ([], tt, ap Some (ok_same r n h))
  lines_run k r (raw ∷ raws) n h = by (line_read_of k r raw) refl h (λ m g. lines_run (k + 1) m raws n g)
    where
      by : (o : Read Reading ℕ) → line_read_of k r raw ≡ o → (o >>= (λ next. lines_read (k + 1) next raws)) ≡ Ok n
          → ((m : Reading) → lines_read (k + 1) m raws ≡ Ok n → (ls : List Line) × AreLines raws ls × (run m ls ≡ Some n))
          → (ls : List Line) × AreLines (raw ∷ raws) ls × (run r ls ≡ Some n)
      by (Ok m) e g f =
          let s = line_steps k r raw m e in
          let rest = f m g in
          (s.line ∷ rest.0, (s.means, rest.1), run_more r s.line rest.0 m s.steps ∙ rest.2)
      by (Err j) e g f = cc

  pub run_lines : (k : ℕ) (r : Reading) (raws : List (List ℕ)) (ls : List Line) (n : Reading) → AreLines raws ls → run r ls ≡ Some n → lines_read k r raws ≡ Ok n
  run_lines k r [] [] n a h = let same : r ≡ n = cc in ap Ok same
  run_lines k r [] (l ∷ ls) n a h = absurd a
  run_lines k r (raw ∷ raws) [] n a h = absurd a
  run_lines k r (raw ∷ raws) (l ∷ ls) n a h =
      let parts = then_some (λ m. run m ls) (step r l) n h in
      ap (λ o. o >>= (λ next. lines_read (k + 1) next raws)) (steps_line k r raw l parts.0 a.0 parts.1)
      ∙ run_lines (k + 1) parts.0 raws ls n a.1 parts.2

  pub record Bad (k : ℕ) (r : Reading) (raws : List (List ℕ)) (j : ℕ) : Type 0 where
    pub before : List (List ℕ)
    pub bad : List ℕ
    pub behind : List (List ℕ)
    pub lines : List Line
    pub reading : Reading
    pub split : raws ≡ before ++ bad ∷ behind
    pub place : j ≡ length before + k
    pub means : AreLines before lines
    pub runs : run r lines ≡ Some reading
    pub stops : (l : Line) → Means bad l → step reading l ≡ None

  pub lines_bad : (k : ℕ) (r : Reading) (raws : List (List ℕ)) (j : ℕ) → lines_read k r raws ≡ Err j → Bad k r raws j
  lines_bad k r [] j h = cc
  lines_bad k r (raw ∷ raws) j h = by (line_read_of k r raw) refl h (λ m g. lines_bad (k + 1) m raws j g)
    where
      by : (o : Read Reading ℕ) → line_read_of k r raw ≡ o → (o >>= (λ next. lines_read (k + 1) next raws)) ≡ Err j
          → ((m : Reading) → lines_read (k + 1) m raws ≡ Err j → Bad (k + 1) m raws j) → Bad k r (raw ∷ raws) j
      by (Ok m) e g f =
          let s = line_steps k r raw m e in
          let b = f m g in
          let at : j ≡ length b.before + (k + 1) = b.place in
          record {
            before = raw ∷ b.before;
            bad = b.bad;
            behind = b.behind;
            lines = s.line ∷ b.lines;
            reading = b.reading;
            split = ap (λ xs. raw ∷ xs) b.split;
            place = omega arith;
            means = (s.means, b.means);
            runs = run_more r s.line b.lines m s.steps ∙ b.runs;
            stops = b.stops;
          }
      by (Err i) e g f =
          let s = line_stops k r raw i e in
          let same : i ≡ j = err_same i j g in
          let at : k ≡ i = s.0 in
          record {
            before = [];
            bad = raw;
            behind = raws;
            lines = [];
            reading = r;
            split = refl;
            place = omega arith;
            means = tt;
            runs = refl;
            stops = s.1.none;
          }

  pub bad_lines : (k : ℕ) (r : Reading) (before : List (List ℕ)) (bad : List ℕ) (behind : List (List ℕ)) (ls : List Line) (n : Reading)
      → AreLines before ls → run r ls ≡ Some n → ((l : Line) → Means bad l → step n l ≡ None)
      → lines_read k r (before ++ bad ∷ behind) ≡ Err (length before + k)
  bad_lines k r [] bad behind [] n a h s =
      let same : r ≡ n = cc in
      let zero_first : k ≡ 0 + k = omega arith in
      ap (λ o. o >>= (λ next. lines_read (k + 1) next behind)) (stops_line k r bad (record { none = λ l m. ap (λ x. step x l) same ∙ s l m }))
      ∙ ap Err zero_first
  bad_lines k r [] bad behind (l ∷ ls) n a h s = absurd a
  bad_lines k r (raw ∷ before) bad behind [] n a h s = absurd a
  bad_lines k r (raw ∷ before) bad behind (l ∷ ls) n a h s =
      let parts = then_some (λ m. run m ls) (step r l) n h in
      let place : length before + (k + 1) ≡ length (raw ∷ before) + k = omega arith in
      ap (λ o. o >>= (λ next. lines_read (k + 1) next (before ++ bad ∷ behind))) (steps_line k r raw l parts.0 a.0 parts.1)
      ∙ bad_lines (k + 1) parts.0 before bad behind ls n a.1 parts.2 s
      ∙ ap Err place

-- ---- when lines can be read

goes_on : (d : List Block) (o : Open) (ls : List Line) → is_some (run (record { done = d; current = Some o }) ls) ≡ true
goes_on d o [] = refl
goes_on d o (Nothing ∷ ls) = goes_on d o ls
goes_on d o (Header s ∷ ls) = goes_on (closed (record { done = d; current = Some o })) (record { stamp = s; names = no_names }) ls
goes_on d o (Removed k ∷ ls) = goes_on d (open_with o (Removed k)) ls
goes_on d o (Added k ∷ ls) = goes_on d (open_with o (Added k)) ls
goes_on d o (Plain k ∷ ls) = goes_on d (open_with o (Plain k)) ls

pub well : (ls : List Line) → is_some (run start ls) ≡ begins_well ls
well [] = refl
well (Nothing ∷ ls) = well ls
well (Header s ∷ ls) = goes_on [] (record { stamp = s; names = no_names }) ls
well (Removed k ∷ ls) = refl
well (Added k ∷ ls) = refl
well (Plain k ∷ ls) = refl

-- ---- the blocks of lines

abbrev opened : List Block → Open → Reading
opened d o = record { done = d; current = Some o }

abbrev fresh : Stamp → Open
fresh s = record { stamp = s; names = no_names }

abbrev made : Open → List Line → Block
made o body = block_of o.stamp (names_after o.names body)

record Chaptered (d : List Block) (o : Open) (ls : List Line) (r : Reading) : Type 0 where
  body : List Line
  chapters : List Chapter
  blocks : List Block
  whole : ls ≡ body ++ flat_map chapter_lines chapters
  no_header : list_any is_header body ≡ false
  closes : closed r ≡ d ++ made o body ∷ blocks
  are : AreChapters chapters blocks

chapter_of : (s : Stamp) (body : List Line) → list_any is_header body ≡ false → IsChapter (record { stamp = s; body = body }) (made (fresh s) body)
chapter_of s body h = record { same_stamp = block_stamp s (names_after no_names body); no_header = h; means = is_block s body }

one_more : (d : List Block) (o : Open) (l : Line) (ls : List Line) (r : Reading) → is_header l ≡ false → Chaptered d (open_with o l) ls r → Chaptered d o (l ∷ ls) r
one_more d o l ls r h c = record {
  body = l ∷ c.body;
  chapters = c.chapters;
  blocks = c.blocks;
  whole = ap (λ xs. l ∷ xs) c.whole;
  no_header = ap (λ v. v || list_any is_header c.body) h ∙ c.no_header;
  closes = c.closes;
  are = c.are;
}

chaptered : (d : List Block) (o : Open) (ls : List Line) (r : Reading) → run (opened d o) ls ≡ Some r → Chaptered d o ls r
chaptered d o [] r h =
    let same : opened d o ≡ r = cc in
    record { body = []; chapters = []; blocks = []; whole = refl; no_header = refl; closes = ap closed (sym same); are = tt }
chaptered d o (Nothing ∷ ls) r h = one_more d o Nothing ls r refl (chaptered d o ls r h)
chaptered d o (Removed k ∷ ls) r h = one_more d o (Removed k) ls r refl (chaptered d (open_with o (Removed k)) ls r h)
chaptered d o (Added k ∷ ls) r h = one_more d o (Added k) ls r refl (chaptered d (open_with o (Added k)) ls r h)
chaptered d o (Plain k ∷ ls) r h = one_more d o (Plain k) ls r refl (chaptered d (open_with o (Plain k)) ls r h)
chaptered d o (Header s ∷ ls) r h =
    let c = chaptered (closed (opened d o)) (fresh s) ls r h in
    record {
      body = [];
      chapters = record { stamp = s; body = c.body } ∷ c.chapters;
      blocks = made (fresh s) c.body ∷ c.blocks;
      whole = ap (λ xs. Header s ∷ xs) c.whole;
      no_header = refl;
      closes = c.closes ∙ append_assoc d (made o [] ∷ []) (made (fresh s) c.body ∷ c.blocks);
      are = (chapter_of s c.body c.no_header, c.are);
    }

pub run_blocks : (ls : List Line) (r : Reading) → run start ls ≡ Some r → HaveBlocks ls (closed r)
run_blocks [] r h =
    let same : start ≡ r = cc in
    record { intro = []; chapters = []; whole = refl; nothing = refl; blocks_are = subst (λ x. AreChapters [] (closed x)) same tt }
run_blocks (Nothing ∷ ls) r h =
    let b = run_blocks ls r h in
    record { intro = Nothing ∷ b.intro; chapters = b.chapters; whole = ap (λ xs. Nothing ∷ xs) b.whole; nothing = b.nothing; blocks_are = b.blocks_are }
run_blocks (Header s ∷ ls) r h =
    let c = chaptered [] (fresh s) ls r h in
    record {
      intro = [];
      chapters = record { stamp = s; body = c.body } ∷ c.chapters;
      whole = ap (λ xs. Header s ∷ xs) c.whole;
      nothing = refl;
      blocks_are =
          subst (AreChapters (record { stamp = s; body = c.body } ∷ c.chapters)) (sym c.closes)
          (chapter_of s c.body c.no_header, c.are);
    }
run_blocks (Removed k ∷ ls) r h = cc
run_blocks (Added k ∷ ls) r h = cc
run_blocks (Plain k ∷ ls) r h = cc

-- ---- and back

record Runs (r : Reading) (ls : List Line) (blocks : List Block) : Type 0 where
  last : Reading
  runs : run r ls ≡ Some last
  closes : closed last ≡ blocks

or_parts : (v w : Bool) → v || w ≡ false → (v ≡ false) × (w ≡ false)
or_parts true w e = absurd (true≢false e)
or_parts false w e = (refl, e)

same_blocks : (r : Reading) (ls : List Line) (a b : List Block) → a ≡ b → Runs r ls a → Runs r ls b
same_blocks r ls a b e m = record { last = m.last; runs = m.runs; closes = m.closes ∙ e }

bodies : (d : List Block) (o : Open) (body : List Line) (chapters : List Chapter) (blocks : List Block)
    → list_any is_header body ≡ false → AreChapters chapters blocks
    → Runs (opened d o) (body ++ flat_map chapter_lines chapters) (d ++ made o body ∷ blocks)
bodies d o [] [] [] h a = record { last = opened d o; runs = refl; closes = refl }
bodies d o [] [] (b ∷ blocks) h a = absurd a
bodies d o [] (c ∷ chapters) [] h a = absurd a
bodies d o [] (c ∷ chapters) (b ∷ blocks) h a =
    let m = bodies (d ++ made o [] ∷ []) (fresh c.stamp) c.body chapters blocks a.0.no_header a.1 in
    let same : made (fresh c.stamp) c.body ≡ b =
    one_block c.body (made (fresh c.stamp) c.body) b (block_stamp c.stamp (names_after no_names c.body) ∙ sym a.0.same_stamp)
    (is_block c.stamp c.body) a.0.means in
    record {
      last = m.last;
      runs = m.runs;
      closes = m.closes ∙ append_assoc d (made o [] ∷ []) (made (fresh c.stamp) c.body ∷ blocks) ∙ ap (λ x. d ++ made o [] ∷ x ∷ blocks) same;
    }
bodies d o (Nothing ∷ body) chapters blocks h a =
    let m = bodies d o body chapters blocks h a in
    record { last = m.last; runs = m.runs; closes = m.closes }
bodies d o (Removed k ∷ body) chapters blocks h a =
    let m = bodies d (open_with o (Removed k)) body chapters blocks h a in
    record { last = m.last; runs = m.runs; closes = m.closes }
bodies d o (Added k ∷ body) chapters blocks h a =
    let m = bodies d (open_with o (Added k)) body chapters blocks h a in
    record { last = m.last; runs = m.runs; closes = m.closes }
bodies d o (Plain k ∷ body) chapters blocks h a =
    let m = bodies d (open_with o (Plain k)) body chapters blocks h a in
    record { last = m.last; runs = m.runs; closes = m.closes }
bodies d o (Header s ∷ body) chapters blocks h a = absurd (true≢false h)

intros : (intro ls : List Line) → list_all says_nothing intro ≡ true → run start (intro ++ ls) ≡ run start ls
intros [] ls h = refl
intros (Nothing ∷ intro) ls h = intros intro ls h
intros (Header s ∷ intro) ls h = absurd (true≢false (sym h))
intros (Removed k ∷ intro) ls h = absurd (true≢false (sym h))
intros (Added k ∷ intro) ls h = absurd (true≢false (sym h))
intros (Plain k ∷ intro) ls h = absurd (true≢false (sym h))

pub blocks_run : (ls : List Line) (blocks : List Block) → HaveBlocks ls blocks → (r : Reading) × (run start ls ≡ Some r) × (closed r ≡ blocks)
blocks_run ls blocks h = by h.chapters blocks h.blocks_are refl
  where
    at : (chapters : List Chapter) → h.chapters ≡ chapters → run start ls ≡ run start (flat_map chapter_lines chapters)
    at chapters e =
        ap (run start) h.whole ∙ intros h.intro (flat_map chapter_lines h.chapters) h.nothing
        ∙ ap (λ cs. run start (flat_map chapter_lines cs)) e

    by : (chapters : List Chapter) (bs : List Block) → AreChapters chapters bs → h.chapters ≡ chapters → (r : Reading) × (run start ls ≡ Some r) × (closed r ≡ bs)
    by [] [] a e = (start, at [] e, refl)
    by [] (b ∷ bs) a e = absurd a
    by (c ∷ cs) [] a e = absurd a
    by (c ∷ cs) (b ∷ bs) a e =
        let m = bodies [] (fresh c.stamp) c.body cs bs a.0.no_header a.1 in
        let same : made (fresh c.stamp) c.body ≡ b =
        one_block c.body (made (fresh c.stamp) c.body) b (block_stamp c.stamp (names_after no_names c.body) ∙ sym a.0.same_stamp)
        (is_block c.stamp c.body) a.0.means in
        (m.last, at (c ∷ cs) e ∙ m.runs, m.closes ∙ ap (λ x. x ∷ bs) same)
