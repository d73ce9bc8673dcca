-- What is read from a script, by the grammar of its lines and by the first bad one.
use Rattle.std.proofs.Common.{◌≡◌, ℕ, ◌+◌, ◌<◌, ◌≤◌, ◌⊎◌, inl, inr, Bool, true, false, List, [], ◌∷◌, ◌++◌, length, cond, refl, sym, ap, subst, ◌∙◌, arith, append_assoc, lit≤, true≢false}
use Rattle.std.specs.Prelude.{Option, None, Some, Ok, Err, if◌then◌else◌, nat_lt, position}
use Rattle.std.proofs.lemmas.Bool.Decides.{nat_tests}
use Rattle.std.proofs.lemmas.Grind.{flat_map-append}
use Rattle.std.proofs.lemmas.List.{append-nil}
use Rattle.std.specs.List.{onto_first, slice_split}
use Rattle.std.specs.Option.{option_or}
use Rattle.conda_base.specs.Reads.{Read, ◌>>=◌, unless}
use Rattle.conda_base.specs.Signs.{equals, space}
use Rattle.conda_base.specs.Texts.{cut_first, is_byte, is_empty}
use Rattle.conda_words.specs.Grammar.{HasCommandFault, IsCommand}
use Rattle.conda_words.specs.Lines.{AreLines, AreTaken, IsBadAt, IsBadFor, IsBadLine, HasLineFault, IsLine, IsNestedLine, MeansLines, prefixes_of}
use Rattle.conda_words.specs.Lines.AreLines.{end, line as one_line, passed}
use Rattle.conda_words.specs.Lines.IsBadFor.{empty, own}
use Rattle.conda_words.specs.Lines.IsBadLine.{bad as bad_words, late, unnumbered}
use Rattle.conda_words.specs.Reading.{Fault, command_read, nested_fault}
use Rattle.conda_words.specs.Says.{are_apart, different, known_with, values}
use Rattle.conda_words.specs.Scripts.{is_passed, judged, lines_of, no_lines, parted, script_read, with_fields, with_line, with_lines, with_reading, with_session}
use Rattle.conda_words.specs.Values.{number_in}
use Rattle.conda_words.specs.declared.command.Command.{Command}
use Rattle.conda_words.specs.declared.command.Line.{Line}
use Rattle.conda_words.specs.declared.cut.Item.{Item}
use Rattle.conda_words.specs.declared.error.Why.{Why}
use Rattle.conda_words.specs.declared.error.Why.TheVariants as whys
use Rattle.conda_words.specs.declared.reading.Reading.{Reading}
use Rattle.conda_words.specs.declared.script.Script.{Script}
use Rattle.conda_words.specs.declared.table.Kind.TheVariants as kinds
use Rattle.conda_words.proofs.CommandLemmas.{command_reads, fault_read, read_as, read_fault, reading_by}
use Rattle.conda_words.proofs.EmptyLemmas.{empty_among, empty_found, fewer_empty, found_empty, no_empty, none_empty, some_fewer}
use Rattle.conda_words.proofs.FirstLemmas.{first, first_append, first_some, or_none, some_first}
use Rattle.conda_words.proofs.LawLemmas.{nested_some}
use Rattle.conda_words.proofs.PrefixLemmas.{apart_fewer, is_nested_here, known_behind, known_more, nested_none, none_nested}
use Rattle.conda_words.proofs.ReadingLemmas.{SecondErr, bind_err, bind_ok, unless_err, unless_ok}
use Rattle.conda_words.proofs.ScriptLemmas.{bad_lines, lines_bad}
use Rattle.conda_words.proofs.StepLemmas.{known_append, later, nested_behind}

-- ---- the prefixes of lines

abbrev known_of : List Line → List (List ℕ)
known_of lines = different (prefixes_of lines)

known_line : (lines : List Line) (l : Line) → known_of (lines ++ l ∷ []) ≡ known_with (known_of lines) l.command.prefixes
known_line lines l =
    ap different (flat_map-append (λ l. l.command.prefixes) lines (l ∷ [])
    ∙ ap (λ ps. prefixes_of lines ++ ps) (append-nil l.command.prefixes))
    ∙ known_append [] (prefixes_of lines) l.command.prefixes

known_lines : (lines more : List Line) → known_of (lines ++ more) ≡ known_with (known_of lines) (prefixes_of more)
known_lines lines more =
    ap different (flat_map-append (λ l. l.command.prefixes) lines more) ∙ known_append [] (prefixes_of lines) (prefixes_of more)

-- fewer lines have fewer prefixes
fewer_known : (lines more : List Line) → length (known_of (lines ++ more)) ≤ 64 → length (known_of lines) ≤ 64
fewer_known lines more few =
    let less = known_more (known_of lines) (prefixes_of more) in
    let all : length (known_with (known_of lines) (prefixes_of more)) ≤ 64 = subst (λ k. length k ≤ 64) (known_lines lines more) few in
    omega arith

-- the number of a line whose prefixes aren't apart from those before
abbrev number_or : Bool → ℕ → Option ℕ
number_or true n = None
number_or false n = Some n

abbrev nested_line : List Line → Line → Option ℕ
nested_line before l = number_or (are_apart (known_of (before ++ l ∷ []))) l.number

apart_lines : (before lines : List Line) → first nested_line before lines ≡ None → are_apart (known_of before) ≡ true
    → are_apart (known_of (before ++ lines)) ≡ true
apart_lines before [] h apart = subst (λ b. are_apart (known_of b) ≡ true) (sym (append-nil before)) apart
apart_lines before (l ∷ more) h apart =
    let parts = or_none (nested_line before l) (first nested_line (before ++ l ∷ []) more) h in
    subst (λ b. are_apart (known_of b) ≡ true) (append_assoc before (l ∷ []) more)
    (apart_lines (before ++ l ∷ []) more parts.1 (by (are_apart (known_of (before ++ l ∷ []))) parts.0))
  where
    by : (k : Bool) → number_or k l.number ≡ None → k ≡ true
    by true e = refl
    by false e = cc

lines_apart : (before lines : List Line) → are_apart (known_of (before ++ lines)) ≡ true → first nested_line before lines ≡ None
lines_apart before [] apart = refl
lines_apart before (l ∷ more) apart =
    let all : are_apart (known_of ((before ++ l ∷ []) ++ more)) ≡ true =
    subst (λ b. are_apart (known_of b) ≡ true) (sym (append_assoc before (l ∷ []) more)) apart in
    let here =
    apart_fewer (known_of (before ++ l ∷ [])) (prefixes_of more) (ap are_apart (sym (known_lines (before ++ l ∷ []) more)) ∙ all) in
    ap (λ k. option_or (number_or k l.number) (first nested_line (before ++ l ∷ []) more)) here ∙ lines_apart (before ++ l ∷ []) more all

-- ---- a script of lines

abbrev script_of : List Line → Script
script_of lines = record { lines = lines; known = known_of lines; nested = first nested_line [] lines }

-- the first nested item of a line
items_nested : (lines : List Line) (l : Line) (is : List Item) → l.command.prefixes ≡ values kinds.Prefix is
    → first nested_line [] lines ≡ None
    → first (nested_behind (Some l.number) (known_of lines)) [] is ≡ nested_line lines l
items_nested lines l is same none =
    by (first (nested_behind (Some l.number) known) [] is) refl (are_apart (known_of (lines ++ l ∷ []))) refl
  where
    known : List (List ℕ)
    known = known_of lines

    all : known_of (lines ++ l ∷ []) ≡ known_behind known is
    all = known_line lines l ∙ ap (known_with known) same

    by : (o : Option ℕ) → first (nested_behind (Some l.number) known) [] is ≡ o → (k : Bool) → are_apart (known_of (lines ++ l ∷ [])) ≡ k
        → o ≡ number_or k l.number
    by None e true f = refl
    by None e false f =
        absurd (true≢false (sym (none_nested (Some l.number) known [] is (apart_lines [] lines none refl) e) ∙ sym (ap are_apart all) ∙ f))
    by (Some m) e true f =
        let apart = nested_none (Some l.number) known [] is (sym (ap are_apart all) ∙ f) in
        cc
    by (Some m) e false f =
        let bad = some_first (nested_behind (Some l.number) known) [] is m e in
        ap (λ n. Some n) (is_nested_here (Some l.number) (known_behind known bad.front) bad.bad m bad.wrong).1

-- the first nested line of one line more
nested_more : (lines : List Line) (l : Line) (is : List Item) → l.command.prefixes ≡ values kinds.Prefix is
    → later (first nested_line [] lines) (first (nested_behind (Some l.number) (known_of lines)) [] is) ≡ first nested_line []
    (lines ++ l ∷ [])
nested_more lines l is same =
    by (first nested_line [] lines) (items_nested lines l is same) ∙ sym (first_append nested_line [] lines (l ∷ []))
  where
    earlier : (m : ℕ) (o : Option ℕ) → later (Some m) o ≡ Some m
    earlier m None = refl
    earlier m (Some n) = refl

    alone : (o : Option ℕ) → later None o ≡ option_or o None
    alone None = refl
    alone (Some n) = refl

    by : (o : Option ℕ) → (o ≡ None → first (nested_behind (Some l.number) (known_of lines)) [] is ≡ nested_line lines l)
        → later o (first (nested_behind (Some l.number) (known_of lines)) [] is) ≡ option_or o (option_or (nested_line lines l) None)
    by None g = alone (first (nested_behind (Some l.number) (known_of lines)) [] is) ∙ ap (λ o. option_or o None) (g refl)
    by (Some m) g = earlier m (first (nested_behind (Some l.number) (known_of lines)) [] is)

-- ---- one physical line

prefixes_are : (script : Bool) (words : List (List ℕ)) (c : Command) (m : IsCommand script words c) → c.prefixes ≡ values kinds.Prefix m.is
prefixes_are script words c m = ap (λ (d : Command). d.prefixes) m.command

judged_ok : (n : ℕ) (blank : Option ℕ) (read : Read Reading Fault) (r : Reading) → judged n blank read ≡ Ok r
    → (blank ≡ None) × (read ≡ Ok r)
judged_ok n None (Ok x) r h = (refl, h)
judged_ok n None (Err f) r h = cc
judged_ok n (Some b) (Ok x) r h = cc
judged_ok n (Some b) (Err f) r h = cc

-- what a physical line makes of a script
data Step (n : ℕ) (lines : List Line) (text : List ℕ) : Script → Type 0 where
  stays : is_passed text ≡ true → Step n lines text (script_of lines)
  goes : (l : Line) → is_passed text ≡ false → IsLine n text l → length (known_of (lines ++ l ∷ [])) ≤ 64
      → Step n lines text (script_of (lines ++ l ∷ []))

ok_same : (x y : Script) → (let m : Read Script Fault = Ok x in m) ≡ Ok y → x ≡ y
ok_same x y e = cc

in_bounds : (n : ℕ) → nat_lt 10000 n ≡ false → n ≤ 10000
in_bounds n h = grind (arith, nat_tests)

bounds_in : (n : ℕ) → n ≤ 10000 → nat_lt 10000 n ≡ false
bounds_in n h = grind (arith, nat_tests)

module _ (cut_whole : (text before behind : List ℕ) → cut_first equals text ≡ Some (before, behind)
    → text ≡ before ++ equals ∷ behind) where
  reading_step : (n : ℕ) (lines : List Line) (text session : List ℕ) (words : List (List ℕ)) (number : ℕ) (r : Reading)
      → length (known_of lines) ≤ 64
      → is_passed text ≡ false → parted space text ≡ session ∷ words → number_in 0 15 session ≡ Some number
      → judged n (position is_empty words) (command_read (Some n) (known_of lines) (first nested_line [] lines) words) ≡ Ok r
      → Step n lines text (with_reading n number (script_of lines) r)
  reading_step n lines text session words number r few here fields numbered h =
      let parts = judged_ok n (position is_empty words) (command_read (Some n) (known_of lines) (first nested_line [] lines) words) r h in
      let as_it_is = read_as (Some n) (known_of lines) (first nested_line [] lines) cut_whole words r few parts.1 in
      let l : Line = record { number = n; session = number; command = r.command } in
      let known : r.known ≡ known_of (lines ++ l ∷ []) = ap (λ (s : Reading). s.known) as_it_is.all ∙ sym (known_line lines l) in
      let nested : r.nested ≡ first nested_line [] (lines ++ l ∷ []) =
      ap (λ (s : Reading). s.nested) as_it_is.all
      ∙ nested_more lines l as_it_is.command.is (prefixes_are true words r.command as_it_is.command) in
      let same : script_of (lines ++ l ∷ []) ≡ with_reading n number (script_of lines) r =
      sym (λ i. record { lines = lines ++ l ∷ []; known = known i; nested = nested i }) in
      subst (Step n lines text) same (goes l here (record {
        session = session;
        words = words;
        fields = fields;
        number = refl;
        session_is = numbered;
        filled = none_empty words parts.0;
        command = as_it_is.command;
      }) (subst (λ k. length k ≤ 64) (sym (known_line lines l)) as_it_is.few))

  session_step : (n : ℕ) (lines : List Line) (text session : List ℕ) (words : List (List ℕ)) (s : Script) → length (known_of lines) ≤ 64
      → is_passed text ≡ false → parted space text ≡ session ∷ words → (number : Option ℕ) → number_in 0 15 session ≡ number
      → with_session n (script_of lines) words number ≡ Ok s → Step n lines text s
  session_step n lines text session words s few here fields None e h = cc
  session_step n lines text session words s few here fields (Some number) e h =
      let parts = bind_ok (judged n (position is_empty words) (command_read (Some n) (known_of lines) (first nested_line [] lines) words))
      (λ r. Ok (with_reading n number (script_of lines) r)) s h in
      subst (Step n lines text) (ok_same (with_reading n number (script_of lines) parts.value) s parts.second)
      (reading_step n lines text session words number parts.value few here fields e parts.first)

  line_step : (n : ℕ) (lines : List Line) (text : List ℕ) (s : Script) → length (known_of lines) ≤ 64
      → with_line n (script_of lines) text ≡ Ok s
      → (n ≤ 10000) × Step n lines text s
  unfolding with_fields
  line_step n lines text s few h = by_late (nat_lt 10000 n) refl h
    where
      by_fields : is_passed text ≡ false → (fields : List (List ℕ)) → parted space text ≡ fields
          → with_fields n (script_of lines) fields ≡ Ok s → Step n lines text s
      by_fields e [] f g = cc
      by_fields e (session ∷ words) f g = session_step n lines text session words s few e f (number_in 0 15 session) refl g

      by_passed : (k : Bool) → is_passed text ≡ k
          → (if k then Ok (script_of lines) else with_fields n (script_of lines) (parted space text)) ≡ Ok s → Step n lines text s
      by_passed true e g = subst (Step n lines text) (ok_same (script_of lines) s g) (stays e)
      by_passed false e g = by_fields e (parted space text) refl g

      by_late : (k : Bool) → nat_lt 10000 n ≡ k
          → (if k then (let m : Read Script Fault = Err (n, whys.Limit) in m) else if is_passed text then Ok (script_of lines)
          else with_fields n (script_of lines) (parted space text)) ≡ Ok s
          → (n ≤ 10000) × Step n lines text s
      by_late true e g = cc
      by_late false e g = (in_bounds n e, by_passed (is_passed text) refl g)

  -- ---- physical lines

  record Taken (k : ℕ) (lines : List Line) (texts : List (List ℕ)) (s : Script) : Type 0 where
    more : List Line
    whole : s ≡ script_of (lines ++ more)
    are : AreLines k texts more
    short : k + length texts ≤ 10001
    few : length (known_of (lines ++ more)) ≤ 64

  lines_step : (k : ℕ) (lines : List Line) (texts : List (List ℕ)) (s : Script) → k ≤ 10001 → length (known_of lines) ≤ 64
      → with_lines k (script_of lines) texts ≡ Ok s → Taken k lines texts s
  lines_step k lines [] s in' few h = record {
    more = [];
    whole = sym (ok_same (script_of lines) s h) ∙ ap script_of (sym (append-nil lines));
    are = end k;
    short = omega arith;
    few = subst (λ ls. length (known_of ls) ≤ 64) (sym (append-nil lines)) few;
  }
  lines_step k lines (text ∷ texts) s in' few h =
      let parts = bind_ok (with_line k (script_of lines) text) (λ next. with_lines (k + 1) next texts) s h in
      let step = line_step k lines text parts.value few parts.first in
      let low : k ≤ 10000 = step.0 in
      by parts.value step.1 parts.second (λ ls few g. lines_step (k + 1) ls texts s (omega arith) few g)
    where
      by : (mid : Script) → Step k lines text mid → with_lines (k + 1) mid texts ≡ Ok s
          → ((ls : List Line) → length (known_of ls) ≤ 64 → with_lines (k + 1) (script_of ls) texts ≡ Ok s → Taken (k + 1) ls texts s)
          → Taken k lines (text ∷ texts) s
      by mid (stays here) g rest =
          let later = rest lines few g in
          let short : k + 1 + length texts ≤ 10001 = later.short in
          record {
            more = later.more;
            whole = later.whole;
            are = passed k text texts later.more here later.are;
            short = omega arith;
            few = later.few;
          }
      by mid (goes l here is few') g rest =
          let later = rest (lines ++ l ∷ []) few' g in
          let short : k + 1 + length texts ≤ 10001 = later.short in
          record {
            more = l ∷ later.more;
            whole = later.whole ∙ ap script_of (append_assoc lines (l ∷ []) later.more);
            are = one_line k text l texts later.more here is later.are;
            short = omega arith;
            few = subst (λ ls. length (known_of ls) ≤ 64) (append_assoc lines (l ∷ []) later.more) later.few;
          }

  taken_of : (texts : List (List ℕ)) (s : Script) → with_lines 1 no_lines texts ≡ Ok s
      → (lines : List Line) × (s ≡ script_of lines) × AreTaken texts lines
  taken_of texts s h =
      let taken = lines_step 1 [] texts s (lit≤ tt) (lit≤ tt) h in
      let short : 1 + length texts ≤ 10001 = taken.short in
      (taken.more, taken.whole, record { short = omega arith; are = taken.are; few = taken.few })

-- ---- and back

line_back : (lines : List Line) (text : List ℕ) (l : Line) → l.number ≤ 10000 → is_passed text ≡ false → IsLine l.number text l
    → length (known_of (lines ++ l ∷ [])) ≤ 64 → with_line l.number (script_of lines) text ≡ Ok (script_of (lines ++ l ∷ []))
unfolding with_fields
line_back lines text l low here is few =
    let n = l.number in
    let known = known_of lines in
    let nested = first nested_line [] lines in
    let few' : length (known_with known l.command.prefixes) ≤ 64 = subst (λ k. length k ≤ 64) (known_line lines l) few in
    let script : with_reading n l.session (script_of lines) (reading_by (Some n) known nested l.command is.command.is) ≡ script_of
    (lines ++ l ∷ []) =
    (let known_is = sym (known_line lines l) in
    let nested_is = nested_more lines l is.command.is (prefixes_are true is.words l.command is.command) in
    λ i. record { lines = lines ++ l ∷ []; known = known_is i; nested = nested_is i }) in
    ap (λ k. if k then Err (n, whys.Limit) else if is_passed text then Ok (script_of lines) else with_fields n (script_of lines)
    (parted space text)) (bounds_in n low)
    ∙ ap (λ k. if k then Ok (script_of lines) else with_fields n (script_of lines) (parted space text)) here
    ∙ ap (with_fields n (script_of lines)) is.fields
    ∙ ap (with_session n (script_of lines) is.words) is.session_is
    ∙ ap (λ b. judged n b (command_read (Some n) known nested is.words) >>= (λ r. Ok (with_reading n l.session (script_of lines) r)))
    (no_empty is.words is.filled)
    ∙ ap (λ m. judged n None m >>= (λ r. Ok (with_reading n l.session (script_of lines) r)))
    (command_reads (Some n) known nested is.words l.command is.command few')
    ∙ ap (λ s. Ok s) script

passed_back : (n : ℕ) (s : Script) (text : List ℕ) → n ≤ 10000 → is_passed text ≡ true → with_line n s text ≡ Ok s
passed_back n s text low here =
    ap (λ k. if k then Err (n, whys.Limit) else if is_passed text then Ok s else with_fields n s (parted space text)) (bounds_in n low)
    ∙ ap (λ k. if k then Ok s else with_fields n s (parted space text)) here

lines_back : (k : ℕ) (lines : List Line) (texts : List (List ℕ)) (more : List Line) → AreLines k texts more → k + length texts ≤ 10001
    → length (known_of (lines ++ more)) ≤ 64 → with_lines k (script_of lines) texts ≡ Ok (script_of (lines ++ more))
lines_back k lines texts more (end n) short few = ap (λ ls. Ok (script_of ls)) (sym (append-nil lines))
lines_back k lines texts more (passed n text rest ls here are) short few =
    ap (λ m. m >>= (λ next. with_lines (n + 1) next rest)) (passed_back n (script_of lines) text (omega arith) here)
    ∙ lines_back (n + 1) lines rest ls are (omega arith) few
lines_back k lines texts more (one_line n text l rest ls here is are) short few =
    let all : length (known_of ((lines ++ l ∷ []) ++ ls)) ≤ 64 =
    subst (λ ls. length (known_of ls) ≤ 64) (sym (append_assoc lines (l ∷ []) ls)) few in
    let number : l.number ≡ n = is.number in
    let step =
    line_back lines text l (omega arith) here (subst (λ m. IsLine m text l) (sym number) is) (fewer_known (lines ++ l ∷ []) ls all) in
    ap (λ m. m >>= (λ next. with_lines (n + 1) next rest)) (ap (λ m. with_line m (script_of lines) text) (sym number) ∙ step)
    ∙ lines_back (n + 1) (lines ++ l ∷ []) rest ls are (omega arith) all
    ∙ ap (λ ls. Ok (script_of ls)) (append_assoc lines (l ∷ []) ls)

of_taken : (texts : List (List ℕ)) (lines : List Line) → AreTaken texts lines → with_lines 1 no_lines texts ≡ Ok (script_of lines)
of_taken texts lines t = let short : length texts ≤ 10000 = t.short in lines_back 1 [] texts lines t.are (omega arith) t.few

-- ---- what a script means

nested_is_none : (o : Option ℕ) → nested_fault o ≡ None → o ≡ None
nested_is_none None h = refl
nested_is_none (Some at) h = cc

abbrev after : Script → Read (List Line) Fault
after s = unless (nested_fault s.nested) s.lines

module _ (cut_whole : (text before behind : List ℕ) → cut_first equals text ≡ Some (before, behind)
    → text ≡ before ++ equals ∷ behind) where
  pub meaning_of : (text : List ℕ) (lines : List Line) → script_read text ≡ Ok lines → MeansLines text lines
  unfolding script_read
  meaning_of text lines h =
      let outer = bind_ok (with_lines 1 no_lines (lines_of text)) after lines h in
      let taken = taken_of cut_whole (lines_of text) outer.value outer.first in
      let end = unless_ok (nested_fault outer.value.nested) outer.value.lines lines outer.second in
      let none : first nested_line [] taken.0 ≡ None =
      sym (ap (λ (s : Script). s.nested) taken.1) ∙ nested_is_none outer.value.nested end.0 in
      let same : taken.0 ≡ lines = sym (ap (λ (s : Script). s.lines) taken.1) ∙ end.1 in
      subst (MeansLines text) same (record { taken = taken.2; apart = apart_lines [] taken.0 none refl })

pub read_meaning : (text : List ℕ) (lines : List Line) → MeansLines text lines → script_read text ≡ Ok lines
unfolding script_read
read_meaning text lines m =
    ap (λ r. r >>= after) (of_taken (lines_of text) lines m.taken)
    ∙ ap (λ o. unless (nested_fault o) lines) (lines_apart [] lines m.apart)

-- ---- a bad line

err_same : (n : ℕ) (w why : Why) → (let m : Read Script Fault = Err (n, w) in m) ≡ Err (n, why) → w ≡ why
err_same n w why e =
    let cause : Fault → Why = λ f. f.1 in
    ap cause (err_fault (n, w) (n, why) e)
  where
    err_fault : (f g : Fault) → (let r : Read Script Fault = Err f in r) ≡ Err g → f ≡ g
    err_fault f g e = cc

judged_err : (n : ℕ) (w why : Why) → (let m : Read Reading Fault = Err (n, w) in m) ≡ Err (n, why) → w ≡ why
judged_err n w why e =
    let cause : Fault → Why = λ f. f.1 in
    ap cause (err_fault (n, w) (n, why) e)
  where
    err_fault : (f g : Fault) → (let r : Read Reading Fault = Err f in r) ≡ Err g → f ≡ g
    err_fault f g e = cc

fault_same : (f : Fault) (n : ℕ) (why : Why) (read : Read Reading Fault) → read ≡ Err f → read ≡ Err (n, why) → f.0 ≡ n
fault_same f n why read e h =
    let place : Fault → ℕ = λ f. f.0 in
    ap place (err_fault f (n, why) (sym e ∙ h))
  where
    err_fault : (f g : Fault) → (let r : Read Reading Fault = Err f in r) ≡ Err g → f ≡ g
    err_fault f g e = cc

no_parts : (text : List ℕ) → parted space text ≡ [] → ⊥
no_parts [] h = cc
no_parts (b ∷ bs) h = by (is_byte space b) (slice_split (is_byte space) bs) h
  where
    by : (k : Bool) (s : List (List ℕ)) → cond k ([] ∷ s) (onto_first b s) ≡ [] → ⊥
    by true s e = cc
    by false [] e = cc
    by false (run ∷ runs) e = cc

module _ (n : ℕ) (lines : List Line) (words : List (List ℕ)) where
  abbrev read : Read Reading Fault
  read = command_read (Some n) (known_of lines) (first nested_line [] lines) words

  words_bad : (blank : Option ℕ) → position is_empty words ≡ blank → (r : Read Reading Fault) → read ≡ r → (why : Why)
      → judged n blank r ≡ Err (n, why)
      → IsBadFor (known_of lines) words why
  words_bad None e (Ok r) f why h = cc
  words_bad (Some blank) e (Ok r) f why h =
      subst (IsBadFor (known_of lines) words) (judged_err n whys.Unknown why h)
      (empty blank (found_empty words blank e).empty (λ m w fault.
      let wrong = fault_read (Some n) (known_of lines) (first nested_line [] lines) words m w fault in cc))
  words_bad None e (Err fault) f why h =
      own fault.0 why
      (subst (HasCommandFault true (known_of lines) words fault.0) (judged_err n fault.1 why h)
      (read_fault (Some n) (known_of lines) (first nested_line [] lines) words fault.0 fault.1 f))
      (some_fewer (fault.0 + 1) words (none_empty words e))
  words_bad (Some blank) e (Err fault) f why h = by (nat_lt fault.0 blank) refl h
    where
      by : (k : Bool) → nat_lt fault.0 blank ≡ k
          → (let m : Read Reading Fault = Err (n, if k then fault.1 else whys.Unknown) in m) ≡ Err (n, why)
          → IsBadFor (known_of lines) words why
      by true g i =
          let less : fault.0 + 1 ≤ blank = grind (arith, nat_tests) in
          own fault.0 why
          (subst (HasCommandFault true (known_of lines) words fault.0) (judged_err n fault.1 why i)
          (read_fault (Some n) (known_of lines) (first nested_line [] lines) words fault.0 fault.1 f))
          (fewer_empty (fault.0 + 1) blank words less (found_empty words blank e).before)
      by false g i =
          let above : blank ≤ fault.0 = grind (arith, nat_tests) in
          subst (IsBadFor (known_of lines) words) (judged_err n whys.Unknown why i)
          (empty blank (found_empty words blank e).empty (λ m w other.
          let same = fault_same fault m w read f (fault_read (Some n) (known_of lines) (first nested_line [] lines) words m w other) in
          omega arith))

  bad_for : (why : Why) → IsBadFor (known_of lines) words why → judged n (position is_empty words) read ≡ Err (n, why)
  bad_for why (own at w fault none) =
      ap (judged n (position is_empty words)) (fault_read (Some n) (known_of lines) (first nested_line [] lines) words at w fault)
      ∙ by (position is_empty words) refl
    where
      by : (blank : Option ℕ) → position is_empty words ≡ blank → judged n blank (Err (at, w)) ≡ Err (n, w)
      by None e = refl
      by (Some blank) e = ap (λ k. Err (n, if k then w else whys.Unknown)) (by_less (nat_lt at blank) refl)
        where
          by_less : (k : Bool) → nat_lt at blank ≡ k → k ≡ true
          by_less true f = refl
          by_less false f =
              let above : blank < at + 1 = grind (arith, nat_tests) in
              absurd (true≢false (sym (empty_among (at + 1) blank words (found_empty words blank e).empty above) ∙ none))
  bad_for why (empty at none least) =
      let found = empty_found words at none in
      let low : found.0 ≤ at = found.2 in
      ap (λ b. judged n b read) found.1 ∙ by found.0 low read refl
    where
      by : (blank : ℕ) → blank ≤ at → (r : Read Reading Fault) → read ≡ r → judged n (Some blank) r ≡ Err (n, whys.Unknown)
      by blank low (Ok r) e = refl
      by blank low (Err fault) e =
          let above : at ≤ fault.0 =
          least fault.0 fault.1 (read_fault (Some n) (known_of lines) (first nested_line [] lines) words fault.0 fault.1 e) in
          let not_less : nat_lt fault.0 blank ≡ false = grind (arith, nat_tests) in
          ap (λ k. Err (n, if k then fault.1 else whys.Unknown)) not_less

line_bad : (n : ℕ) (lines : List Line) (text : List ℕ) (why : Why) → with_line n (script_of lines) text ≡ Err (n, why)
    → IsBadLine n (known_of lines) text why
unfolding with_fields
line_bad n lines text why h = by_late (nat_lt 10000 n) refl h
  where
    by_session : n ≤ 10000 → is_passed text ≡ false → (session : List ℕ) (words : List (List ℕ)) → parted space text ≡ session ∷ words
        → (number : Option ℕ) → number_in 0 15 session ≡ number → with_session n (script_of lines) words number ≡ Err (n, why)
        → IsBadLine n (known_of lines) text why
    by_session low here session words f None e g =
        subst (IsBadLine n (known_of lines) text) (err_same n whys.Number why g) (unnumbered session words low here f e)
    by_session low here session words f (Some number) e g =
        by (bind_err (judged n (position is_empty words) (command_read (Some n) (known_of lines) (first nested_line [] lines) words))
        (λ r. Ok (with_reading n number (script_of lines) r)) (n, why) g)
      where
        by : (judged n (position is_empty words) (command_read (Some n) (known_of lines) (first nested_line [] lines) words) ≡ Err (n, why))
            ⊎ SecondErr (judged n (position is_empty words) (command_read (Some n) (known_of lines) (first nested_line [] lines) words))
            (λ r. Ok (with_reading n number (script_of lines) r)) (n, why) → IsBadLine n (known_of lines) text why
        by (inl i) = bad_words session words number why low here f e (words_bad n lines words (position is_empty words) refl _ refl why i)
        by (inr i) = let wrong = i.second in cc

    by_fields : n ≤ 10000 → is_passed text ≡ false → (fields : List (List ℕ)) → parted space text ≡ fields
        → with_fields n (script_of lines) fields ≡ Err (n, why)
        → IsBadLine n (known_of lines) text why
    by_fields low here [] f g = absurd (no_parts text f)
    by_fields low here (session ∷ words) f g = by_session low here session words f (number_in 0 15 session) refl g

    by_passed : n ≤ 10000 → (k : Bool) → is_passed text ≡ k
        → (if k then Ok (script_of lines) else with_fields n (script_of lines) (parted space text)) ≡ Err (n, why)
        → IsBadLine n (known_of lines) text why
    by_passed low true e g = cc
    by_passed low false e g = by_fields low e (parted space text) refl g

    late_is : nat_lt 10000 n ≡ true → 10000 < n
    late_is e = grind (arith, nat_tests)

    by_late : (k : Bool) → nat_lt 10000 n ≡ k
        → (if k then (let m : Read Script Fault = Err (n, whys.Limit) in m) else if is_passed text then Ok (script_of lines)
        else with_fields n (script_of lines) (parted space text)) ≡ Err (n, why)
        → IsBadLine n (known_of lines) text why
    by_late true e g = subst (IsBadLine n (known_of lines) text) (err_same n whys.Limit why g) (late (late_is e))
    by_late false e g = by_passed (in_bounds n e) (is_passed text) refl g

-- a physical line that may hold words
on_line : (n : ℕ) (lines : List Line) (text session : List ℕ) (words : List (List ℕ)) → n ≤ 10000 → is_passed text ≡ false
    → parted space text ≡ session ∷ words
    → with_line n (script_of lines) text ≡ with_session n (script_of lines) words (number_in 0 15 session)
unfolding with_fields
on_line n lines text session words low here fields =
    ap (λ k. if k then (let m : Read Script Fault = Err (n, whys.Limit) in m) else if is_passed text then Ok (script_of lines)
    else with_fields n (script_of lines) (parted space text)) (bounds_in n low)
    ∙ ap (λ k. if k then Ok (script_of lines) else with_fields n (script_of lines) (parted space text)) here
    ∙ ap (with_fields n (script_of lines)) fields

bad_line : (n : ℕ) (lines : List Line) (text : List ℕ) (why : Why) → IsBadLine n (known_of lines) text why
    → with_line n (script_of lines) text ≡ Err (n, why)
bad_line n lines text why (late above) =
    ap (λ k. if k then (let m : Read Script Fault = Err (n, whys.Limit) in m) else if is_passed text then Ok (script_of lines)
    else with_fields n (script_of lines) (parted space text)) is_late
  where
    is_late : nat_lt 10000 n ≡ true
    is_late = grind (arith, nat_tests)
bad_line n lines text why (unnumbered session words low here fields none) =
    on_line n lines text session words low here fields ∙ ap (with_session n (script_of lines) words) none
bad_line n lines text why (bad_words session words number w low here fields numbered bad) =
    on_line n lines text session words low here fields ∙ ap (with_session n (script_of lines) words) numbered
    ∙ ap (λ m. m >>= (λ r. Ok (with_reading n number (script_of lines) r))) (bad_for n lines words w bad)

-- ---- the first bad line

module _ (cut_whole : (text before behind : List ℕ) → cut_first equals text ≡ Some (before, behind)
    → text ≡ before ++ equals ∷ behind) where
  bad_at : (texts : List (List ℕ)) (n : ℕ) (why : Why) → with_lines 1 no_lines texts ≡ Err (n, why) → IsBadAt texts n why
  bad_at texts n why h =
      let bad = lines_bad 1 no_lines texts n why h in
      let taken = taken_of cut_whole bad.front bad.before bad.right in
      record {
        front = bad.front;
        text = bad.line;
        behind = bad.behind;
        lines = taken.0;
        split = bad.split;
        taken = taken.2;
        place = bad.place;
        wrong = line_bad n taken.0 bad.line why (ap (λ s. with_line n s bad.line) (sym taken.1) ∙ bad.wrong);
      }

  nested_at : (texts : List (List ℕ)) (n : ℕ) (why : Why) → SecondErr (with_lines 1 no_lines texts) after (n, why)
      → IsNestedLine texts n why
  nested_at texts n why s =
      let taken = taken_of cut_whole texts s.value s.first in
      let found = nested_some s.value.nested n why (unless_err (nested_fault s.value.nested) s.value.lines (n, why) s.second) in
      let bad = some_first nested_line [] taken.0 n (sym (ap (λ (s : Script). s.nested) taken.1) ∙ found.0) in
      let here = by (are_apart (known_of (bad.front ++ bad.bad ∷ []))) bad.bad.number bad.wrong in
      record {
        front = bad.front;
        line = bad.bad;
        behind = bad.behind;
        taken = subst (AreTaken texts) bad.split taken.2;
        apart = apart_lines [] bad.front bad.right refl;
        nested = here.0;
        place = here.1;
        cause = found.1;
      }
    where
      same : (x y : ℕ) → Some x ≡ Some y → y ≡ x
      same x y e = cc

      by : (k : Bool) (m : ℕ) → number_or k m ≡ Some n → (k ≡ false) × (n ≡ m)
      by true m e = cc
      by false m e = (refl, same m n e)

  pub fault_of : (text : List ℕ) (n : ℕ) (why : Why) → script_read text ≡ Err (n, why) → HasLineFault text n why
  unfolding script_read
  fault_of text n why h = by (bind_err (with_lines 1 no_lines (lines_of text)) after (n, why) h)
    where
      by : (with_lines 1 no_lines (lines_of text) ≡ Err (n, why)) ⊎ SecondErr (with_lines 1 no_lines (lines_of text)) after (n, why)
          → HasLineFault text n why
      by (inl e) = inl (bad_at (lines_of text) n why e)
      by (inr s) = inr (nested_at (lines_of text) n why s)

pub fault_read_at : (text : List ℕ) (n : ℕ) (why : Why) → HasLineFault text n why → script_read text ≡ Err (n, why)
unfolding script_read
fault_read_at text n why (inl b) =
    ap (λ m. m >>= after)
    (ap (with_lines 1 no_lines) b.split
    ∙ bad_lines 1 no_lines b.front b.text b.behind (script_of b.lines) n (n, why) (of_taken b.front b.lines b.taken) b.place
    (bad_line n b.lines b.text why b.wrong))
fault_read_at text n why (inr b) =
    let lines : List Line = b.front ++ b.line ∷ b.behind in
    ap (λ m. m >>= after) (of_taken (lines_of text) lines b.taken)
    ∙ ap (λ o. unless (nested_fault o) lines)
    (first_some nested_line [] b.front b.line b.behind n (lines_apart [] b.front b.apart)
    (ap (λ k. number_or k b.line.number) b.nested ∙ ap (λ m. Some m) (sym b.place)))
    ∙ cause_pair (sym b.cause)
  where
    cause_pair : whys.Nested ≡ why → (let m : Read (List Line) Fault = Err (n, whys.Nested) in m) ≡ Err (n, why)
    cause_pair q = cc
