-- What is read of a command, on the command line or in a line of a script, by the grammar and by the first fault.
use Rattle.std.proofs.Common.{◌≡◌, ℕ, ◌+◌, ◌<◌, ◌≤◌, ◌⊎◌, inl, inr, Bool, true, false, List, [], ◌∷◌, ◌++◌, length, refl, sym, ap, subst, ◌∙◌, arith}
use Rattle.std.specs.Prelude.{Option, None, Some, Ok, Err, if◌then◌else◌, not, nat_lt, ◌&&◌, ◌||◌, ◌==◌, is_none, is_some}
use Rattle.std.proofs.lemmas.Bool.Decides.{nat_tests}
use Rattle.std.specs.List.{list_any}
use Rattle.std.specs.Option.{option_or}
use Rattle.conda_base.specs.Reads.{Read, ◌>>=◌, unless}
use Rattle.conda_base.specs.Signs.{equals}
use Rattle.conda_base.specs.Texts.{cut_first}
use Rattle.conda_words.specs.Causes.{is_missing, item_cause, item_fault}
use Rattle.conda_words.specs.Cut.{count, given, items}
use Rattle.conda_words.specs.Grammar.{Cuts, HasCommandFault, HasRowFault, IsCommand, IsFirstBad, IsLacking}
use Rattle.conda_words.specs.Grammar.Cuts.{done, ends, flag, joined, plain_word, valued}
use Rattle.conda_words.specs.Reading.{Fault, begun, command_read, finished, lacks, missing, named_read, plain_command, settled}
use Rattle.conda_words.specs.Says.{command_of, known_with, plain_words, words_taken}
use Rattle.conda_words.specs.Table.{Subcommand, has_one_prefix, least, subcommand_of}
use Rattle.conda_words.specs.declared.command.Command.{Command}
use Rattle.conda_words.specs.declared.command.Verb.{Verb}
use Rattle.conda_words.specs.declared.cut.Item.{Item}
use Rattle.conda_words.specs.declared.error.Why.{Why}
use Rattle.conda_words.specs.declared.error.Why.TheVariants as whys
use Rattle.conda_words.specs.declared.reading.Reading.{Reading}
use Rattle.conda_words.specs.declared.table.Kind.TheVariants as kinds
use Rattle.conda_words.specs.declared.table.Words.{Words}
use Rattle.conda_words.specs.declared.table.Words.TheVariants.{Nothing, One, Many, Number}
use Rattle.conda_words.proofs.CutLemmas.{items_cuts}
use Rattle.conda_words.proofs.FirstLemmas.{first, first_none, first_some, none_first, or_none, some_first}
use Rattle.conda_words.proofs.GrammarLemmas.{cuts_items}
use Rattle.conda_words.proofs.PrefixLemmas.{fit, fits}
use Rattle.conda_words.proofs.ReadingLemmas.{or_false, right_whole, unless_err, unless_ok}
use Rattle.conda_words.proofs.StepLemmas.{items_step, later, nested_behind, reading_of}

-- ---- where reading begins

settled_is : (sub : Subcommand) (is : List Item) → settled sub is ≡ record sub { words = words_taken sub is }
settled_is sub is = by (given kinds.Revision is)
  where
    by : (k : Bool) → (if k then record sub { words = Nothing } else sub) ≡ record sub { words = if k then Nothing else sub.words }
    by true = refl
    by false = refl

no_plain : (words : Words) → [] ≡ plain_words words []
no_plain Nothing = refl
no_plain One = refl
no_plain Many = refl
no_plain Number = refl

-- ---- faults by their parts

missing_none : (b : Bool) (len : ℕ) → missing b len ≡ None → b ≡ false
missing_none true len h = cc
missing_none false len h = refl

same_fault : (f g : Fault) → Some f ≡ Some g → g ≡ f
same_fault f g e = cc

pub pair_at : (at len : ℕ) (why w : Why) → (let o : Option Fault = Some (len, w) in o) ≡ Some (at, why) → (at ≡ len) × (why ≡ w)
pair_at at len why w e =
    let place : Fault → ℕ = λ f. f.0 in
    let cause : Fault → Why = λ f. f.1 in
    let same = same_fault (len, w) (at, why) e in
    (ap place same, ap cause same)

pub record FoundMissing (b : Bool) (len at : ℕ) (why : Why) : Type 0 where
  pub lacking : b ≡ true
  pub place : at ≡ len
  pub cause : why ≡ whys.Missing

missing_some : (b : Bool) (len at : ℕ) (why : Why) → missing b len ≡ Some (at, why) → FoundMissing b len at why
missing_some true len at why e = let same = pair_at at len why whys.Missing e in record { lacking = refl; place = same.0; cause = same.1 }
missing_some false len at why e = cc

err_pair : (n at : ℕ) (w why : Why) → (let m : Read Reading Fault = Err (n, w) in m) ≡ Err (at, why) → (at ≡ n) × (why ≡ w)
err_pair n at w why e = pair_at at n why w (some_err e)
  where
    some_err : (let m : Read Reading Fault = Err (n, w) in m) ≡ Err (at, why) → (let o : Option Fault = Some (n, w) in o) ≡ Some (at, why)
    some_err e = cc

pair_err : (n at : ℕ) (w why : Why) → (at ≡ n) × (why ≡ w) → (let m : Read Reading Fault = Err (n, w) in m) ≡ Err (at, why)
pair_err n at w why same = let p = same.0 in let q = same.1 in cc

pair_some : (n at : ℕ) (w why : Why) → at ≡ n → why ≡ w → (let o : Option Fault = Some (n, w) in o) ≡ Some (at, why)
pair_some n at w why p q = cc

-- ---- what isn't missing

one_item : (xs : List (List ℕ)) → not (length xs == 1) ≡ false → (x : List ℕ) × (xs ≡ x ∷ [])
one_item [] h = cc
one_item (x ∷ []) h = (x, refl)
one_item (x ∷ y ∷ more) h = absurd (no (length (x ∷ y ∷ more)) (grind arith) h)
  where
    no : (n : ℕ) → 1 < n → not (n == 1) ≡ false → ⊥
    no n above h = grind (arith, nat_tests)

cuts_valued : (sub : Subcommand) (plain : Bool) (at : ℕ) (words : List (List ℕ)) (is : List Item) → Cuts sub plain at words is
    → list_any (λ i. is_none i.value) is ≡ false
cuts_valued sub plain at words is (done p a) = refl
cuts_valued sub plain at words is (ends a word ws is' e more) = cuts_valued sub true (a + 1) ws is' more
cuts_valued sub plain at words is (plain_word p a word ws is' e more) = cuts_valued sub p (a + 1) ws is' more
cuts_valued sub plain at words is (flag a word kind ws is' s e more) = cuts_valued sub false (a + 1) ws is' more
cuts_valued sub plain at words is (valued a word kind value ws is' s e more) = cuts_valued sub false (a + 2) ws is' more
cuts_valued sub plain at words is (joined a name kind value ws is' s e more) = cuts_valued sub false (a + 1) ws is' more

at_least : (n m : ℕ) → nat_lt n m ≡ false → m ≤ n
at_least n m h = grind (arith, nat_tests)

not_less : (n m : ℕ) → m ≤ n → nat_lt n m ≡ false
not_less n m h = grind (arith, nat_tests)

module _ (line : Option ℕ) (known : List (List ℕ)) (nested : Option ℕ) where
  begun_is : (verb : Verb) (words : Words) → begun line known nested verb ≡ reading_of line known nested verb words []
  begun_is verb words =
      ap (λ t. record (begun line known nested verb) { command = record (plain_command verb) { words = t } }) (no_plain words)

  -- the reading of a command of these items
  abbrev pub reading_by : Command → List Item → Reading
  reading_by c is = record {
    line = line;
    known = known_with known c.prefixes;
    nested = later nested (first (nested_behind line known) [] is);
    command = c;
  }

  abbrev said : Subcommand → List Item → Command
  said sub is = command_of sub.verb (words_taken sub is) is

  -- what is wrong with a row's items, so many words in all
  abbrev rest_fault : Subcommand → List Item → ℕ → Option Fault
  rest_fault sub is len =
      option_or (first (item_fault sub (words_taken sub is) known) [] is) (missing (is_missing (words_taken sub is) is (said sub is)) len)

  finished_is : (sub : Subcommand) (is : List Item) (len : ℕ)
      → finished (settled sub is) is (begun line known nested sub.verb) len ≡ unless (rest_fault sub is len) (reading_by (said sub is) is)
  unfolding finished
  finished_is sub is len =
      ap (λ s. finished s is (begun line known nested sub.verb) len) (settled_is sub is)
      ∙ ap (λ r. finished taken is r len) (begun_is sub.verb (words_taken sub is))
      ∙ ap (λ m. m >>= (λ r. unless (missing (lacks taken is r) len) r)) (items_step line known nested sub.verb taken [] is)
      ∙ by (first (item_fault sub (words_taken sub is) known) [] is)
    where
      taken : Subcommand
      taken = record sub { words = words_taken sub is }

      by : (o : Option Fault)
          → (unless o (reading_by (said sub is) is) >>= (λ r. unless (missing (lacks taken is r) len) r))
          ≡ unless (option_or o (missing (is_missing (words_taken sub is) is (said sub is)) len)) (reading_by (said sub is) is)
      by None = refl
      by (Some f) = refl

  -- ---- what is read

  -- the words are a command, with 64 different prefixes at most, and this is its reading
  pub record IsReadAs (words : List (List ℕ)) (r : Reading) : Type 0 where
    pub command : IsCommand (is_some line) words r.command
    pub few : length (known_with known r.command.prefixes) ≤ 64
    pub all : r ≡ reading_by r.command command.is

  module _ (cut_whole : (text before behind : List ℕ) → cut_first equals text ≡ Some (before, behind)
      → text ≡ before ++ equals ∷ behind) where
    row_as : (name : List ℕ) (rest : List (List ℕ)) (r : Reading) (row : Option Subcommand) → length known ≤ 64
        → subcommand_of (is_some line) name ≡ row
        → named_read line known nested row rest ≡ Ok r → IsReadAs (name ∷ rest) r
    row_as name rest r None few row h = cc
    row_as name rest r (Some sub) few row h =
        let is = items sub false 1 rest in
        let words = words_taken sub is in
        let whole =
        unless_ok (rest_fault sub is (length rest + 1)) (reading_by (said sub is) is) r (sym (finished_is sub is (length rest + 1)) ∙ h) in
        let parts =
        or_none (first (item_fault sub words known) [] is) (missing (is_missing words is (said sub is)) (length rest + 1)) whole.0 in
        let fit = fits sub words known [] is few parts.0 in
        let none = missing_none (is_missing words is (said sub is)) (length rest + 1) parts.1 in
        let some =
        or_false (list_any (λ i. is_none i.value) is || (has_one_prefix (said sub is).verb && not (length (said sub is).prefixes == 1)))
        (nat_lt (count kinds.Word is) (least words)) none in
        let there =
        or_false (list_any (λ i. is_none i.value) is)
        (has_one_prefix (said sub is).verb && not (length (said sub is).prefixes == 1)) some.0 in
        let right =
        items_step line known nested sub.verb (record sub { words = words }) [] is
        ∙ ap (λ o. unless o (reading_by (said sub is) is)) parts.0 in
        subst (IsReadAs (name ∷ rest)) whole.1 (record {
          command = record {
            name = name;
            rest = rest;
            sub = sub;
            is = is;
            cut = refl;
            row = row;
            grammar = items_cuts cut_whole sub 1 rest
                (right_whole (record sub { words = words }) [] (reading_of line known nested sub.verb words [])
                (reading_by (said sub is) is) is right there.0);
            right = none_first (item_cause sub words) [] is fit.right;
            enough = at_least (count kinds.Word is) (least words) some.1;
            command = refl;
            prefix = λ one. one_item (said sub is).prefixes (ap (λ b. b && not (length (said sub is).prefixes == 1)) (sym one) ∙ there.1);
          };
          few = fit.few;
          all = refl;
        })

    pub read_as : (words : List (List ℕ)) (r : Reading) → length known ≤ 64 → command_read line known nested words ≡ Ok r → IsReadAs words r
    unfolding command_read
    read_as [] r few h = cc
    read_as (name ∷ rest) r few h = row_as name rest r (subcommand_of (is_some line) name) few refl h

  -- nothing is missing of a command
  none_missing : (words : List (List ℕ)) (c : Command) (m : IsCommand (is_some line) words c)
      → is_missing (words_taken m.sub m.is) m.is c ≡ false
  none_missing words c m =
      ap (λ b. b || (has_one_prefix c.verb && not (length c.prefixes == 1)) || nat_lt (count kinds.Word m.is)
      (least (words_taken m.sub m.is)))
      (cuts_valued m.sub false 1 m.rest m.is m.grammar)
      ∙ ap (λ b. b || nat_lt (count kinds.Word m.is) (least (words_taken m.sub m.is))) (by (has_one_prefix c.verb) refl)
      ∙ not_less (count kinds.Word m.is) (least (words_taken m.sub m.is)) m.enough
    where
      by : (k : Bool) → has_one_prefix c.verb ≡ k → (k && not (length c.prefixes == 1)) ≡ false
      by false e = refl
      by true e = let one = m.prefix e in ap (λ (ps : List (List ℕ)). not (length ps == 1)) one.1

  pub command_reads : (words : List (List ℕ)) (c : Command) (m : IsCommand (is_some line) words c)
      → length (known_with known c.prefixes) ≤ 64
      → command_read line known nested words ≡ Ok (reading_by c m.is)
  unfolding command_read
  command_reads words c m few =
      let n = length m.rest + 1 in
      let taken = words_taken m.sub m.is in
      let right = fit m.sub taken known [] m.is (first_none (item_cause m.sub taken) [] m.is m.right)
      (subst (λ (d : Command). length (known_with known d.prefixes) ≤ 64) m.command few) in
      ap (command_read line known nested) m.cut
      ∙ ap (λ row. named_read line known nested row m.rest) m.row
      ∙ ap (λ is. finished (settled m.sub is) is (begun line known nested m.sub.verb) n) (cuts_items m.sub false 1 m.rest m.is m.grammar)
      ∙ finished_is m.sub m.is n
      ∙ ap (λ o. unless (option_or o (missing (is_missing taken m.is (said m.sub m.is)) n)) (reading_by (said m.sub m.is) m.is)) right
      ∙ ap (λ (d : Command). unless (missing (is_missing taken m.is d) n) (reading_by d m.is)) (sym m.command)
      ∙ ap (λ b. unless (missing b n) (reading_by c m.is)) (none_missing words c m)

  -- ---- the first fault

  row_fault : (row : Option Subcommand) (rest : List (List ℕ)) (at : ℕ) (why : Why) → named_read line known nested row rest ≡ Err (at, why)
      → HasRowFault row known rest at why
  row_fault None rest at why h = err_pair 0 at whys.Unknown why h
  row_fault (Some sub) rest at why h =
      by (first (item_fault sub words known) [] is) refl
      (unless_err (rest_fault sub is n) (reading_by (said sub is) is) (at, why) (sym (finished_is sub is n) ∙ h))
    where
      is : List Item
      is = items sub false 1 rest

      words : Words
      words = words_taken sub (items sub false 1 rest)

      n : ℕ
      n = length rest + 1

      by : (o : Option Fault) → first (item_fault sub words known) [] is ≡ o
          → option_or o (missing (is_missing words is (said sub is)) n) ≡ Some (at, why)
          → IsFirstBad (item_fault sub words known) is at why ⊎ IsLacking sub known is n at why
      by (Some f) e g =
          let bad = some_first (item_fault sub words known) [] is (at, why) (e ∙ g) in
          inl (record {
            front = bad.front;
            bad = bad.bad;
            behind = bad.behind;
            split = bad.split;
            right = none_first (item_fault sub words known) [] bad.front bad.right;
            wrong = bad.wrong;
          })
      by None e g =
          let found = missing_some (is_missing words is (said sub is)) n at why g in
          inr (record {
            right = none_first (item_fault sub words known) [] is e;
            lacking = found.lacking;
            place = found.place;
            cause = found.cause;
          })

  fault_row : (row : Option Subcommand) (rest : List (List ℕ)) (at : ℕ) (why : Why) → HasRowFault row known rest at why
      → named_read line known nested row rest ≡ Err (at, why)
  fault_row None rest at why h = pair_err 0 at whys.Unknown why h
  fault_row (Some sub) rest at why h =
      finished_is sub (items sub false 1 rest) (length rest + 1)
      ∙ ap (λ o. unless o (reading_by (said sub (items sub false 1 rest)) (items sub false 1 rest))) (by h)
    where
      is : List Item
      is = items sub false 1 rest

      words : Words
      words = words_taken sub (items sub false 1 rest)

      by : IsFirstBad (item_fault sub words known) is at why ⊎ IsLacking sub known is (length rest + 1) at why
          → rest_fault sub is (length rest + 1) ≡ Some (at, why)
      by (inl b) =
          ap (λ o. option_or o (missing (is_missing words is (said sub is)) (length rest + 1)))
          (ap (first (item_fault sub words known) []) b.split
          ∙ first_some (item_fault sub words known) [] b.front b.bad b.behind (at, why)
          (first_none (item_fault sub words known) [] b.front b.right) b.wrong)
      by (inr l) =
          ap (λ o. option_or o (missing (is_missing words is (said sub is)) (length rest + 1)))
          (first_none (item_fault sub words known) [] is l.right)
          ∙ ap (λ b. missing b (length rest + 1)) l.lacking ∙ pair_some (length rest + 1) at whys.Missing why l.place l.cause

  pub read_fault : (words : List (List ℕ)) (at : ℕ) (why : Why) → command_read line known nested words ≡ Err (at, why)
      → HasCommandFault (is_some line) known words at why
  unfolding command_read
  read_fault [] at why h = err_pair 0 at whys.Missing why h
  read_fault (name ∷ rest) at why h = row_fault (subcommand_of (is_some line) name) rest at why h

  pub fault_read : (words : List (List ℕ)) (at : ℕ) (why : Why) → HasCommandFault (is_some line) known words at why
      → command_read line known nested words ≡ Err (at, why)
  unfolding command_read
  fault_read [] at why h = pair_err 0 at whys.Missing why h
  fault_read (name ∷ rest) at why h = fault_row (subcommand_of (is_some line) name) rest at why h
