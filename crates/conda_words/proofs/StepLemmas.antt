-- One item more: what the reader makes of it is what the items say, or its fault.
use Rattle.std.proofs.Common.{◌≡◌, ℕ, Bool, true, false, List, [], ◌∷◌, ◌++◌, length, map, refl, sym, ap, ◌∙◌, append_assoc}
use Rattle.std.specs.Prelude.{Option, None, Some, Ok, Err, if◌then◌else◌, not, nat_lt, ◌==◌, ◌&&◌, ◌||◌, codes, is_some, option_map, option_and_then, unwrap_or}
use Rattle.std.proofs.lemmas.Grind.{flat_map-append}
use Rattle.std.proofs.lemmas.List.{append-nil, map-append}
use Rattle.std.proofs.lemmas.List.Elements.{filter_map-append}
use Rattle.std.specs.List.{cons_option, filter_map, list_any}
use Rattle.std.specs.Option.{option_or}
use Rattle.conda_base.specs.Reads.{Read, ◌>>=◌, unless}
use Rattle.conda_base.specs.Texts.{is_empty}
use Rattle.conda_words.specs.Causes.{because_not, item_fault, limit_cause, number_cause, prefix_cause, value_cause, word_cause}
use Rattle.conda_words.specs.Cut.{count, given, item}
use Rattle.conda_words.specs.Reading.{Fault, number_value, numbered, with_any_value, with_item, with_items, with_word}
use Rattle.conda_words.specs.Says.{command_of, is_among, is_nested, is_prefix, known_with, last_or, plain_words, value_of, values, verb_named, verbs_named}
use Rattle.conda_words.specs.Table.{Subcommand, is_kind, repeats}
use Rattle.conda_words.specs.Values.{is_channel, is_virtual, number_in, virtual_of}
use Rattle.conda_words.specs.declared.command.Command.{Command}
use Rattle.conda_words.specs.declared.command.Verb.{Verb}
use Rattle.conda_words.specs.declared.command.Verb.TheVariants as verbs
use Rattle.conda_words.specs.declared.cut.Item.{Item}
use Rattle.conda_words.specs.declared.error.Why.{Why}
use Rattle.conda_words.specs.declared.error.Why.TheVariants as whys
use Rattle.conda_words.specs.declared.reading.Reading.{Reading}
use Rattle.conda_words.specs.declared.table.Kind.{Kind}
use Rattle.conda_words.specs.declared.table.Kind.TheVariants as kinds
use Rattle.conda_words.specs.declared.table.Words.{Words}
use Rattle.conda_words.specs.declared.table.Words.TheVariants.{Nothing, One, Many, Number}
use Rattle.conda_words.proofs.FirstLemmas.{first, first_append}

-- ---- lists with a few more at their end

-- a list, and these behind it
abbrev onto : {A : Type 0} → List A → List A → List A
onto xs [] = xs
onto xs (y ∷ ys) = xs ++ y ∷ ys

onto_is : {A : Type 0} (xs ys : List A) → xs ++ ys ≡ onto xs ys
onto_is xs [] = append-nil xs
onto_is xs (y ∷ ys) = refl

last_push : {A : Type 0} (x : A) (ys : List A) (z : A) → last_or x (ys ++ z ∷ []) ≡ z
last_push x [] z = refl
last_push x (y ∷ ys) z = last_push y ys z

some_pushed : (xs : List (List ℕ)) (y : List ℕ) → not (is_empty (xs ++ y ∷ [])) ≡ true
some_pushed [] y = refl
some_pushed (x ∷ xs) y = refl

values_on : (kind : Kind) (before : List Item) (i : Item) → values kind (before ++ i ∷ []) ≡ onto (values kind before) (value_of kind i)
values_on kind before i =
    flat_map-append (value_of kind) before (i ∷ []) ∙ ap (λ v. values kind before ++ v) (append-nil (value_of kind i))
    ∙ onto_is (values kind before) (value_of kind i)

-- the verbs that an item names
abbrev own_verbs : Words → Item → List Verb
own_verbs words i = cons_option (option_and_then (verb_named words i.kind) i.value) []

verbs_on : (words : Words) (before : List Item) (i : Item)
    → verbs_named words (before ++ i ∷ []) ≡ onto (verbs_named words before) (own_verbs words i)
verbs_on words before i =
    filter_map-append (λ i. option_and_then (verb_named words i.kind) i.value) before (i ∷ [])
    ∙ onto_is (verbs_named words before) (own_verbs words i)

pub known_append : (known xs ys : List (List ℕ)) → known_with known (xs ++ ys) ≡ known_with (known_with known xs) ys
known_append known [] ys = refl
known_append known (x ∷ xs) ys = known_append (if is_among x known then known else known ++ x ∷ []) xs ys

-- ---- nested prefixes

-- an answer, or else the one that comes later
abbrev pub later : {X : Type 0} → Option X → Option X → Option X
later o None = o
later o (Some x) = option_or o (Some x)

later_is : {X : Type 0} (a b : Option X) → later a b ≡ option_or a b
later_is None None = refl
later_is (Some x) None = refl
later_is a (Some y) = refl

pub later_assoc : {X : Type 0} (a b c : Option X) → option_or (later a b) c ≡ later a (later b c)
later_assoc None None None = refl
later_assoc (Some x) None None = refl
later_assoc {X = X} a (Some y) None = by a
  where
    by : (a : Option X) → option_or (option_or a (Some y)) None ≡ option_or a (Some y)
    by None = refl
    by (Some x) = refl
later_assoc a None (Some z) = refl
later_assoc None (Some y) (Some z) = refl
later_assoc (Some x) (Some y) (Some z) = refl

-- where a prefix lies inside or round a known one
abbrev pub nested_here : Option ℕ → List (List ℕ) → Item → Option ℕ
nested_here line known i =
    if is_kind i.kind kinds.Prefix
    then option_and_then (λ p. if is_among p known then None else if list_any (is_nested p) known then Some (unwrap_or line i.value_at)
    else None) i.value
    else None

abbrev pub nested_behind : Option ℕ → List (List ℕ) → List Item → Item → Option ℕ
nested_behind line known before i = nested_here line (known_with known (values kinds.Prefix before)) i

-- ---- tests that refuse

abbrev refused : ℕ → Why → Read Reading Fault
refused at why = Err (at, why)

-- a value, or this cause
gate : (at : ℕ) (why : Why) (good : Bool) (x y : Reading) → x ≡ y
    → (if good then Ok x else refused at why) ≡ unless (option_or (option_map (λ w. (at, w)) (because_not why good)) None) y
gate at why true x y e = ap Ok e
gate at why false x y e = refl

also_gate : (at : ℕ) (why : Why) (limit : Option Fault) (more : Option Why) (good : Bool) (m : Read Reading Fault) (y : Reading)
    → m ≡ unless (option_or (option_map (λ w. (at, w)) more) limit) y
    → (if good then m else refused at why) ≡ unless (option_or (option_map (λ w. (at, w)) (option_or (because_not why good) more)) limit) y
also_gate at why limit more true m y h = h
also_gate at why limit more false m y h = refl

not_gate : (at : ℕ) (why : Why) (limit : Option Fault) (more : Option Why) (bad : Bool) (m : Read Reading Fault) (y : Reading)
    → m ≡ unless (option_or (option_map (λ w. (at, w)) more) limit) y
    → (if bad then refused at why else m) ≡ unless
    (option_or (option_map (λ w. (at, w)) (option_or (because_not why (not bad)) more)) limit) y
not_gate at why limit more true m y h = refl
not_gate at why limit more false m y h = h

neither_gate : (at : ℕ) (why : Why) (limit : Option Fault) (more : Option Why) (good : Bool) (m : Read Reading Fault) (y : Reading)
    → m ≡ unless (option_or (option_map (λ w. (at, w)) more) limit) y
    → (if not good then refused at why else m) ≡ unless
    (option_or (option_map (λ w. (at, w)) (option_or (because_not why good) more)) limit) y
neither_gate at why limit more true m y h = h
neither_gate at why limit more false m y h = refl

last_gate : (at : ℕ) (why : Why) (limit : Option Fault) (good : Bool) (m : Read Reading Fault) (y : Reading) → m ≡ unless limit y
    → (if not good then refused at why else m) ≡ unless (option_or (option_map (λ w. (at, w)) (because_not why good)) limit) y
last_gate at why limit true m y h = h
last_gate at why limit false m y h = refl

number_gate : (at low high : ℕ) (v : List ℕ) (make : ℕ → Reading) (y : Reading) → ((n : ℕ) → number_in low high v ≡ Some n → make n ≡ y)
    → (number_value at low high v >>= (λ n. Ok (make n))) ≡ unless (option_or (option_map (λ w. (at, w)) (number_cause low high v)) None) y
number_gate at low high v make y h = by (number_in low high v) refl
  where
    by : (o : Option ℕ) → number_in low high v ≡ o
        → (numbered at o >>= (λ n. Ok (make n))) ≡ unless
        (option_or (option_map (λ w. (at, w)) (because_not whys.Number (is_some o))) None) y
    by None e = refl
    by (Some n) e = ap Ok (h n e)

-- ---- the reading of some items

module _ (line : Option ℕ) (known : List (List ℕ)) (nested : Option ℕ) (verb : Verb) where
  -- the reading behind these items
  abbrev pub reading_of : Words → List Item → Reading
  reading_of words before = record {
    line = line;
    known = known_with known (values kinds.Prefix before);
    nested = later nested (first (nested_behind line known) [] before);
    command = command_of verb words before;
  }

  -- and behind one more
  abbrev next_command : Words → List Item → Item → Command
  next_command words before i = record {
    verb = last_or verb (onto (verbs_named words before) (own_verbs words i));
    prefixes = onto (values kinds.Prefix before) (value_of kinds.Prefix i);
    channels = onto (values kinds.Channel before) (value_of kinds.Channel i);
    channel_dir = last_or (codes "channels") (onto (values kinds.ChannelDir before) (value_of kinds.ChannelDir i));
    pkgs_dir = last_or (codes "pkgs") (onto (values kinds.PkgsDir before) (value_of kinds.PkgsDir i));
    jobs = last_or 4 (filter_map (number_in 1 16) (onto (values kinds.Jobs before) (value_of kinds.Jobs i)));
    virtuals = map virtual_of (onto (values kinds.Virtual before) (value_of kinds.Virtual i));
    copy = not (is_empty (onto (values kinds.Copy before) (value_of kinds.Copy i)));
    words = plain_words words (onto (values kinds.Word before) (value_of kinds.Word i));
  }

  abbrev next_reading : Words → List Item → Item → Reading
  next_reading words before i = record {
    line = line;
    known = known_with known (onto (values kinds.Prefix before) (value_of kinds.Prefix i));
    nested = later nested
        (later (first (nested_behind line known) [] before) (nested_here line (known_with known (values kinds.Prefix before)) i));
    command = next_command words before i;
  }

  command_next : (words : Words) (before : List Item) (i : Item) → command_of verb words (before ++ i ∷ []) ≡ next_command words before i
  command_next words before i = λ k. record {
    verb = last_or verb (verbs_on words before i k);
    prefixes = values_on kinds.Prefix before i k;
    channels = values_on kinds.Channel before i k;
    channel_dir = last_or (codes "channels") (values_on kinds.ChannelDir before i k);
    pkgs_dir = last_or (codes "pkgs") (values_on kinds.PkgsDir before i k);
    jobs = last_or 4 (filter_map (number_in 1 16) (values_on kinds.Jobs before i k));
    virtuals = map virtual_of (values_on kinds.Virtual before i k);
    copy = not (is_empty (values_on kinds.Copy before i k));
    words = plain_words words (values_on kinds.Word before i k);
  }

  reading_next : (words : Words) (before : List Item) (i : Item) → reading_of words (before ++ i ∷ []) ≡ next_reading words before i
  reading_next words before i =
      let nest : first (nested_behind line known) [] (before ++ i ∷ []) ≡ later (first (nested_behind line known) [] before)
      (nested_behind line known before i) =
      first_append (nested_behind line known) [] before (i ∷ [])
      ∙ one (first (nested_behind line known) [] before) (nested_behind line known before i) in
      let command = command_next words before i in
      let prefixes = values_on kinds.Prefix before i in
      λ k. record { line = line; known = known_with known (prefixes k); nested = later nested (nest k); command = command k }
    where
      one : (a b : Option ℕ) → option_or a (option_or b None) ≡ later a b
      one None None = refl
      one (Some x) None = refl
      one a (Some y) = refl

  -- ---- one more value

  -- what comes of a value, unless there is a cause against it
  abbrev Comes : Words → List Item → Kind → ℕ → ℕ → Option (List ℕ) → Option Why → Read Reading Fault
  Comes words before kind at value_at value cause =
      unless (option_or (option_map (λ why. (value_at, why)) cause) (limit_cause known before (item kind at value_at value)))
      (next_reading words before (item kind at value_at value))

  word_step : (words : Words) (before : List Item) (n at value_at : ℕ) (v : List ℕ)
      → with_word words n (reading_of words before) value_at v ≡ Comes words before kinds.Word at value_at (Some v) (word_cause words n v)
  word_step Nothing before n at value_at v = refl
  word_step One before n at value_at v =
      gate value_at whys.Extra (n == 0) (next_reading One before (item kinds.Word at value_at (Some v)))
      (next_reading One before (item kinds.Word at value_at (Some v))) refl
  word_step Many before n at value_at v =
      gate value_at whys.Limit (nat_lt n 256) (next_reading Many before (item kinds.Word at value_at (Some v)))
      (next_reading Many before (item kinds.Word at value_at (Some v))) refl
  word_step Number before n at value_at v =
      also_gate value_at whys.Extra None (number_cause 1 200 v) (n == 0) _ y
      (number_gate value_at 1 200 v (λ k. record r { command = record r.command { verb = verbs.Exercise k } }) y (λ k e.
      ap (λ t. record r { command = record r.command { verb = t } })
      (sym (ap (λ o. last_or verb (onto (verbs_named Number before) (cons_option (option_map verbs.Exercise o) []))) e
      ∙ last_push verb (verbs_named Number before) (verbs.Exercise k)))))
    where
      r : Reading
      r = reading_of Number before

      y : Reading
      y = next_reading Number before (item kinds.Word at value_at (Some v))

  module _ (sub : Subcommand) (before : List Item) where
    abbrev r : Reading
    r = reading_of sub.words before

    abbrev known_here : List (List ℕ)
    known_here = known_with known (values kinds.Prefix before)

    prefix_step : (at value_at : ℕ) (v : List ℕ)
        → with_any_value sub before r kinds.Prefix value_at (Some v) ≡ Comes sub.words before kinds.Prefix at value_at (Some v)
        (prefix_cause (values kinds.Prefix before) v)
    prefix_step at value_at v =
        not_gate value_at whys.Twice limit (because_not whys.Path (is_prefix v)) (is_among v (values kinds.Prefix before)) _ y
        (last_gate value_at whys.Path limit (is_prefix v) _ y (by (is_among v known_here) refl (nat_lt (length known_here) 64)))
      where
        limit : Option Fault
        limit = limit_cause known before (item kinds.Prefix at value_at (Some v))

        y : Reading
        y = next_reading sub.words before (item kinds.Prefix at value_at (Some v))

        here : Option ℕ
        here = if list_any (is_nested v) known_here then Some (unwrap_or line value_at) else None

        nest : Option ℕ
        nest = first (nested_behind line known) [] before

        known_then : (k : Bool) → is_among v known_here ≡ k → (if k then known_here else known_here ++ v ∷ []) ≡ y.known
        known_then k e =
            sym (known_append known (values kinds.Prefix before) (v ∷ []) ∙ ap (λ b. if b then known_here else known_here ++ v ∷ []) e)

        among : is_among v known_here ≡ true → record r { command = record r.command { prefixes = r.command.prefixes ++ v ∷ [] } } ≡ y
        among e =
            let known_is = known_then true e in
            let nested_is : later nested nest ≡ later nested (later nest (if is_among v known_here then None else here)) =
            ap (λ b. later nested (later nest (if b then None else here))) (sym e) in
            λ k. record { line = line; known = known_is k; nested = nested_is k; command = y.command }

        new : is_among v known_here ≡ false
            → record r {
              known = r.known ++ v ∷ [];
              nested = option_or r.nested here;
              command = record r.command { prefixes = r.command.prefixes ++ v ∷ [] };
            } ≡ y
        new e =
            let known_is = known_then false e in
            let nested_is : option_or (later nested nest) here ≡ later nested (later nest (if is_among v known_here then None else here)) =
            later_assoc nested nest here ∙ ap (λ b. later nested (later nest (if b then None else here))) (sym e) in
            λ k. record { line = line; known = known_is k; nested = nested_is k; command = y.command }

        by : (k : Bool) → is_among v known_here ≡ k → (m : Bool)
            → (if k then Ok (record r { command = record r.command { prefixes = r.command.prefixes ++ v ∷ [] } })
            else if m then Ok (record r {
              known = r.known ++ v ∷ [];
              nested = option_or r.nested here;
              command = record r.command { prefixes = r.command.prefixes ++ v ∷ [] };
            })
            else refused value_at whys.Limit)
            ≡ unless (option_map (λ why. (value_at, why)) (because_not whys.Limit (k || m))) y
        by true e m = ap Ok (among e)
        by false e true = ap Ok (new e)
        by false e false = refl

    value_step : (kind : Kind) (at value_at : ℕ) (v : List ℕ)
        → with_any_value sub before r kind value_at (Some v) ≡ Comes sub.words before kind at value_at (Some v)
        (value_cause sub.words before kind v)
    value_step kinds.Word at value_at v = word_step sub.words before (count kinds.Word before) at value_at v
    value_step kinds.Prefix at value_at v = prefix_step at value_at v
    value_step kinds.Channel at value_at v =
        let y : Reading = next_reading sub.words before (item kinds.Channel at value_at (Some v)) in
        not_gate value_at whys.Twice None
        (option_or (because_not whys.Channel (is_channel v)) (because_not whys.Limit (nat_lt (length (values kinds.Channel before)) 8)))
        (is_among v (values kinds.Channel before)) _ y
        (neither_gate value_at whys.Channel None (because_not whys.Limit (nat_lt (length (values kinds.Channel before)) 8))
        (is_channel v) _ y
        (gate value_at whys.Limit (nat_lt (length (values kinds.Channel before)) 8) y y refl))
    value_step kinds.ChannelDir at value_at v =
        ap (λ t. Ok (record r { command = record r.command { channel_dir = t } }))
        (sym (last_push (codes "channels") (values kinds.ChannelDir before) v))
    value_step kinds.PkgsDir at value_at v =
        ap (λ t. Ok (record r { command = record r.command { pkgs_dir = t } }))
        (sym (last_push (codes "pkgs") (values kinds.PkgsDir before) v))
    value_step kinds.Jobs at value_at v =
        number_gate value_at 1 16 v (λ n. record r { command = record r.command { jobs = n } })
        (next_reading sub.words before (item kinds.Jobs at value_at (Some v))) (λ n e.
        ap (λ t. record r { command = record r.command { jobs = t } })
        (sym (ap (last_or 4) (filter_map-append (number_in 1 16) (values kinds.Jobs before) (v ∷ [])
        ∙ ap (λ o. filter_map (number_in 1 16) (values kinds.Jobs before) ++ cons_option o []) e)
        ∙ last_push 4 (filter_map (number_in 1 16) (values kinds.Jobs before)) n)))
    value_step kinds.Virtual at value_at v =
        gate value_at whys.Unknown (is_virtual v)
        (record r { command = record r.command { virtuals = r.command.virtuals ++ virtual_of v ∷ [] } })
        (next_reading sub.words before (item kinds.Virtual at value_at (Some v)))
        (ap (λ t. record r { command = record r.command { virtuals = t } })
        (sym (map-append virtual_of (values kinds.Virtual before) (v ∷ []))))
    value_step kinds.Revision at value_at v =
        number_gate value_at 0 4294967295 v (λ n. record r { command = record r.command { verb = verbs.Revert n } })
        (next_reading sub.words before (item kinds.Revision at value_at (Some v))) (λ n e.
        ap (λ t. record r { command = record r.command { verb = t } })
        (sym (ap (λ o. last_or verb (onto (verbs_named sub.words before) (cons_option (option_map verbs.Revert o) []))) e
        ∙ last_push verb (verbs_named sub.words before) (verbs.Revert n))))
    value_step kinds.Revisions at value_at v =
        ap (λ t. Ok (record r { command = record r.command { verb = t } }))
        (sym (last_push verb (verbs_named sub.words before) verbs.Revisions))
    value_step kinds.Copy at value_at v =
        ap (λ t. Ok (record r { command = record r.command { copy = t } })) (sym (some_pushed (values kinds.Copy before) v))
    value_step kinds.Strange at value_at v = refl

    none_step : (kind : Kind) (at value_at : ℕ)
        → (let m : Read Reading Fault = Ok r in m) ≡ Comes sub.words before kind at value_at None None
    none_step kinds.Word at value_at = refl
    none_step kinds.Prefix at value_at = refl
    none_step kinds.Channel at value_at = refl
    none_step kinds.ChannelDir at value_at = refl
    none_step kinds.PkgsDir at value_at = refl
    none_step kinds.Jobs at value_at = refl
    none_step kinds.Virtual at value_at = refl
    none_step kinds.Revision at value_at = refl
    none_step kinds.Revisions at value_at = refl
    none_step kinds.Copy at value_at = refl
    none_step kinds.Strange at value_at = refl

    any_step : (kind : Kind) (at value_at : ℕ) (o : Option (List ℕ))
        → with_any_value sub before r kind value_at o ≡ Comes sub.words before kind at value_at o
        (option_and_then (value_cause sub.words before kind) o)
    any_step kind at value_at None = none_step kind at value_at
    any_step kind at value_at (Some v) = value_step kind at value_at v

    item_at : (kind : Kind) (at value_at : ℕ) (o : Option (List ℕ))
        → with_item sub before r (item kind at value_at o)
        ≡ unless (item_fault sub sub.words known before (item kind at value_at o)) (next_reading sub.words before (item kind at value_at o))
    unfolding with_item
    item_at kind at value_at o = by (not (repeats sub kind) && given kind before)
      where
        by : (k : Bool)
            → (if k then refused at whys.Twice else with_any_value sub before r kind value_at o)
            ≡ unless (option_or (if k then Some (at, whys.Twice) else option_map (λ why. (value_at, why))
            (option_and_then (value_cause sub.words before kind) o))
            (limit_cause known before (item kind at value_at o))) (next_reading sub.words before (item kind at value_at o))
        by true = refl
        by false = any_step kind at value_at o

    pub item_step : (i : Item)
        → with_item sub before r i ≡ unless (item_fault sub sub.words known before i) (reading_of sub.words (before ++ i ∷ []))
    item_step i =
        item_at i.kind i.at i.value_at i.value
        ∙ ap (unless (item_fault sub sub.words known before i)) (sym (reading_next sub.words before i))

  -- ---- items

  pub items_step : (sub : Subcommand) (before is : List Item)
      → with_items sub before (reading_of sub.words before) is
      ≡ unless (first (item_fault sub sub.words known) before is) (reading_of sub.words (before ++ is))
  items_step sub before [] = ap (λ b. Ok (reading_of sub.words b)) (sym (append-nil before))
  items_step sub before (i ∷ is) =
      ap (λ m. m >>= (λ next. with_items sub (before ++ i ∷ []) next is)) (item_step sub before i)
      ∙ by (item_fault sub sub.words known before i) (items_step sub (before ++ i ∷ []) is)
    where
      by : (o : Option Fault)
          → with_items sub (before ++ i ∷ []) (reading_of sub.words (before ++ i ∷ [])) is
          ≡ unless (first (item_fault sub sub.words known) (before ++ i ∷ []) is) (reading_of sub.words ((before ++ i ∷ []) ++ is))
          → (unless o (reading_of sub.words (before ++ i ∷ [])) >>= (λ next. with_items sub (before ++ i ∷ []) next is))
          ≡ unless (option_or o (first (item_fault sub sub.words known) (before ++ i ∷ []) is)) (reading_of sub.words (before ++ i ∷ is))
      by None h =
          h ∙ ap (λ b. unless (first (item_fault sub sub.words known) (before ++ i ∷ []) is) (reading_of sub.words b))
          (append_assoc before (i ∷ []) is)
      by (Some f) h = refl
