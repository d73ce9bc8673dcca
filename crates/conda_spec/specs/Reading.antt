-- How a specification is read, and which fault of one that is none is answered, with its place: conda's match_spec.py, in this
-- project's profile. Which texts are read, and with which parts, is what the grammar says, and a law ties the two.
use Rattle.std.specs.Prelude.{ℕ, Bool, false, not, nat_eq, nat_lt, ◌+◌, ◌-◌, ◌==◌, ◌&&◌, if◌then◌else◌, List, [], ◌∷◌, ◌++◌, codes, length, map, drop, Option, None, Some, unwrap_or, is_some, Ok, Err}
use Rattle.std.specs.Option.{option_map, option_and_then, option_or}
use Rattle.std.specs.Char.{to_ascii_lowercase}
use Rattle.std.specs.Cmp.Lexicographic.{pointwise}
use Rattle.std.specs.List.{list_any, onto_first, position_or_len, before_first}
use Rattle.conda_base.specs.Numbers.{digits_below}
use Rattle.conda_clause.specs.declared.error.SpecWhy.{SpecWhy}
use Rattle.conda_clause.specs.declared.error.SpecWhy.TheVariants.{Key, Channel, Name, Words, Build}
use Rattle.conda_clause.specs.Clause.{beside_build, clause_fault}
use Rattle.conda_clause.specs.Faults.{place_of}
use Rattle.conda_clause.specs.Kept.{is_joint, kept}
use Rattle.conda_spec.specs.declared.given.Given.{Given}
use Rattle.conda_spec.specs.declared.given.ItemKey.{ItemKey}
use Rattle.conda_spec.specs.declared.given.ItemKey.TheVariants as keys
use Rattle.conda_base.specs.Signs.{close_bracket, comma, equals, open_bracket, slash, space, star}
use Rattle.conda_base.specs.Texts.{begins_with, cut_first, cut_last, ends_with, is_byte}
use Rattle.conda_spec.specs.Cuts.{cut_colons, without_last}
use Rattle.conda_base.specs.Reads.{Read, ◌>>=◌, unless}
use Rattle.conda_spec.specs.Parts.{Front, Parts, bars_bare, bars_build, bars_channel, ends_name, is_comparison, is_quote, is_sign, is_sign_or_equals, nothing}

-- a value, or where a fault is and what is wrong there
abbrev pub SpecRead : Type 0 → Type 0
SpecRead A = Read A (ℕ × SpecWhy)

-- Channels, builds and version clauses, each at a place.

-- not empty, and of no barred character
abbrev pub is_free : (ℕ → Bool) → List ℕ → Bool
is_free bars text = nat_lt 0 (length text) && not (list_any bars text)

-- a channel or a subdir
unfoldable pub channel_at : ℕ → List ℕ → SpecRead (List ℕ)
channel_at at text = if is_free bars_channel text then Ok text else Err (at, Channel)

unfoldable pub build_at : ℕ → List ℕ → SpecRead (List ℕ)
build_at at text = if is_free bars_build text then Ok text else Err (at, Build)

-- A version clause of characters that stay, which each stood at a place: the first at that for which the start stands. Some of
-- those in front are added, and stand where the first written one does.
unfoldable pub clause_at : (ℕ → ℕ) → ℕ → ℕ → List ℕ → SpecRead (List ℕ)
clause_at place start added text =
    unless (option_map (λ fault. (place (start + (fault.0 - added)), fault.1)) (clause_fault (map to_ascii_lowercase text)))
    (map to_ascii_lowercase text)

-- "equal to V", where V stands between two `=`: V itself where it ends with a star, else `==V`
abbrev pub equal_to : List ℕ → List ℕ
equal_to v = if ends_with star v then v else codes "==" ++ v

-- the same at a place, where the signs of `==V` are added
unfoldable pub equal_at : (ℕ → ℕ) → ℕ → List ℕ → SpecRead (List ℕ)
equal_at place start v = if ends_with star v then clause_at place start 0 v else clause_at place start 2 (codes "==" ++ v)

-- What follows a name. Places are those of the characters that stay.

-- a version clause and a build
abbrev pub VersionAndBuild : Type 0
VersionAndBuild = Option (List ℕ) × Option (List ℕ)

-- a build, behind which no further word stands
abbrev pub last_word : ℕ → (ℕ → ℕ) → List ℕ → Option (List ℕ × List ℕ) → SpecRead (List ℕ)
last_word start place text None = build_at (place start) text
last_word start place text (Some cut) = build_at (place start) cut.0 >>= λ build. Err (place (start + length cut.0 + 1), Words)

unfoldable pub build_word : (ℕ → ℕ) → ℕ → List ℕ → SpecRead (List ℕ)
build_word place start text = last_word start place text (cut_first space text)

-- a version clause, and a build as a second word
abbrev pub words_cut : (ℕ → ℕ) → List ℕ → Option (List ℕ × List ℕ) → SpecRead VersionAndBuild
words_cut place text None = clause_at place 0 0 text >>= λ clause. Ok (Some clause, None)
words_cut place text (Some cut) = do
  clause ← clause_at place 0 0 cut.0
  build ← build_word place (length cut.0 + 1) cut.1
  Ok (Some clause, Some build)

unfoldable pub two_words_read : (ℕ → ℕ) → List ℕ → SpecRead VersionAndBuild
two_words_read place text = words_cut place text (cut_first space text)

-- `=v`, where v holds no `=` and no other sign
abbrev pub is_equal_word : List ℕ → Bool
is_equal_word [] = false
is_equal_word (b ∷ bs) = b == equals && not (list_any is_sign_or_equals bs)

-- What a space parts from the name: words, of which the first two are `=v=B` where they are `=v` and B.
abbrev pub spaced_cut : (ℕ → ℕ) → List ℕ → Option (List ℕ × List ℕ) → SpecRead VersionAndBuild
spaced_cut place text None = two_words_read place text
spaced_cut place text (Some cut) =
    if is_equal_word cut.0 then
    (equal_at place 1 (drop 1 cut.0) >>= λ clause.
    build_word place (length cut.0 + 1) cut.1 >>= λ build.
    Ok (Some clause, Some build))
    else two_words_read place text

unfoldable pub spaced_read : (ℕ → ℕ) → List ℕ → SpecRead VersionAndBuild
spaced_read place text = spaced_cut place text (cut_first space text)

-- how many `=` a word that begins with `=` begins with, two at most
abbrev pub lead_of : List ℕ → ℕ
lead_of word = if begins_with equals (drop 1 word) then 2 else 1

-- the version of such a word: it ends at the next `=`
abbrev pub before_equals : Option (List ℕ × List ℕ) → List ℕ → List ℕ
before_equals None text = text
before_equals (Some cut) text = cut.0

abbrev pub version_of : List ℕ → List ℕ
version_of word = before_equals (cut_first equals (drop (lead_of word) word)) (drop (lead_of word) word)

-- `=V`, `==V`, `=V=B` or `==V=B`
abbrev pub joined_cut : (ℕ → ℕ) → List ℕ → ℕ → Option (List ℕ × List ℕ) → SpecRead VersionAndBuild
joined_cut place word lead None = clause_at place 0 0 word >>= λ clause. Ok (Some clause, None)
joined_cut place word lead (Some cut) = do
  clause ← if lead == 1 then equal_at place 1 cut.0 else clause_at place 0 0 (codes "==" ++ cut.0)
  build ← build_at (place (lead + length cut.0 + 1)) cut.1
  Ok (Some clause, Some build)

unfoldable pub joined_read : (ℕ → ℕ) → List ℕ → SpecRead VersionAndBuild
joined_read place word = joined_cut place word (lead_of word) (cut_first equals (drop (lead_of word) word))

-- What begins with `=` directly behind the name: one such word, or words of a version clause that goes on behind its first test.
abbrev pub equals_cut : (ℕ → ℕ) → List ℕ → Option (List ℕ × List ℕ) → SpecRead VersionAndBuild
equals_cut place text None = if list_any is_sign (version_of text) then two_words_read place text else joined_read place text
equals_cut place text (Some cut) =
    if list_any is_sign (version_of cut.0) then two_words_read place text
    else (joined_read place cut.0 >>= λ wanted. Err (place (length cut.0 + 1), Words))

unfoldable pub equals_read : (ℕ → ℕ) → List ℕ → SpecRead VersionAndBuild
equals_read place text = equals_cut place text (cut_first space text)

-- The characters that stay, and whether a space parts them from the name. A space before `,` or `|` doesn't.
unfoldable pub wanted_read : (ℕ → ℕ) → Bool → List ℕ → SpecRead VersionAndBuild
wanted_read place spaced [] = Ok (None, None)
wanted_read place spaced (b ∷ bs) =
    if is_joint b then Err (place 0, Words)
    else if spaced then spaced_read place (b ∷ bs)
    else if b == equals then equals_read place (b ∷ bs)
    else if is_comparison b then two_words_read place (b ∷ bs)
    else Err (place 0, Words)

-- what follows a name, from a place on
unfoldable pub followed_read : ℕ → List ℕ → SpecRead VersionAndBuild
followed_read at text = wanted_read (λ i. at + place_of text i) (begins_with space text) (kept text)

-- What stands before the brackets.

abbrev pub with_wanted : Given → VersionAndBuild → Given
with_wanted given wanted = record given { version = wanted.0; build = wanted.1 }

-- a name and what follows it, from a place on
unfoldable pub name_read : Given → ℕ → List ℕ → SpecRead Front
name_read given at text =
    if position_or_len ends_name text == 0 then Err (at, Name)
    else
    (followed_read (at + position_or_len ends_name text) (drop (position_or_len ends_name text) text) >>= λ wanted.
    Ok (map to_ascii_lowercase (before_first ends_name text), with_wanted given wanted))

-- a channel, or a channel and a subdir round the first `/`
abbrev pub channel_cut : List ℕ → Option (List ℕ × List ℕ) → SpecRead Given
channel_cut text None = channel_at 0 text >>= λ channel. Ok (record nothing { channel = Some channel })
channel_cut text (Some cut) = do
  channel ← channel_at 0 cut.0
  subdir ← channel_at 0 cut.1
  Ok (record nothing { channel = Some channel; subdir = Some subdir })

unfoldable pub channel_read : List ℕ → SpecRead Given
channel_read text = channel_cut text (cut_first slash text)

abbrev pub front_cut : List ℕ → Option (List ℕ × List ℕ) → SpecRead Front
front_cut text None = name_read nothing 0 text
front_cut text (Some cut) = channel_read cut.0 >>= λ given. name_read given (length cut.0 + 2) cut.1

unfoldable pub front_read : List ℕ → SpecRead Front
front_read text = front_cut text (cut_colons text)

-- The items in the brackets.

-- the quote in which the next character stands, if it does
abbrev pub quote_behind : Option ℕ → ℕ → Option ℕ
quote_behind None b = if is_quote b then Some b else None
quote_behind (Some mark) b = if b == mark then None else Some mark

-- `,` in no quotes
abbrev pub ends_item : Option ℕ → ℕ → Bool
ends_item None b = b == comma
ends_item (Some mark) b = false

-- the place of the first `,` in no quotes, counted on from a place
abbrev pub item_end : ℕ → Option ℕ → List ℕ → Option ℕ
item_end at mark [] = None
item_end at mark (b ∷ bs) = if ends_item mark b then Some at else item_end (at + 1) (quote_behind mark b) bs

-- the items: the pieces at each `,` that stands in no quotes
abbrev pub items_of : Option ℕ → List ℕ → List (List ℕ)
items_of mark [] = [] ∷ []
items_of mark (b ∷ bs) = if ends_item mark b then [] ∷ items_of None bs else onto_first b (items_of (quote_behind mark b) bs)

abbrev pub key_of : List ℕ → Option ItemKey
key_of text =
    if pointwise nat_eq text (codes "version") then Some keys.Version
    else if pointwise nat_eq text (codes "build") then Some keys.Build
    else if pointwise nat_eq text (codes "build_number") then Some keys.BuildNumber
    else if pointwise nat_eq text (codes "channel") then Some keys.Channel
    else if pointwise nat_eq text (codes "subdir") then Some keys.Subdir
    else None

-- a text that holds no such mark
abbrev pub without_quote : ℕ → List ℕ → Option (List ℕ)
without_quote mark text = if list_any (is_byte mark) text then None else Some text

-- what stands in quotes, of which the first stands before the text
abbrev pub quoted : ℕ → List ℕ → Option (List ℕ)
quoted mark text = option_and_then (without_quote mark) (without_last mark text)

-- A value as it is written from a place on: it and its place. It is bare, or stands in quotes and holds none of these.
abbrev pub value_of : ℕ → List ℕ → Option (ℕ × List ℕ)
value_of at [] = Some (at, [])
value_of at (b ∷ bs) =
    if is_quote b then option_map (λ text. (at + 1, text)) (quoted b bs)
    else if list_any bars_bare (b ∷ bs) then None
    else Some (at, b ∷ bs)

-- an item of this key stood before
abbrev pub has_key : Given → ItemKey → Bool
has_key given keys.Version = is_some given.version
has_key given keys.Build = is_some given.build
has_key given keys.BuildNumber = is_some given.number
has_key given keys.Channel = is_some given.channel
has_key given keys.Subdir = is_some given.subdir

-- a number that is wanted
abbrev pub number_or : ℕ → Option ℕ → SpecRead ℕ
number_or at None = Err (at, Key)
number_or at (Some n) = Ok n

-- a version clause in the brackets, of which spaces are dropped as of one before them
unfoldable pub clause_value : ℕ → List ℕ → SpecRead (List ℕ)
clause_value at text = clause_at (λ i. at + place_of text i) 0 0 (kept text)

-- the value of an item that begins at the first place, which itself stands at the other
unfoldable pub put : Given → ItemKey → ℕ → ℕ × List ℕ → SpecRead Given
put given keys.Version at value = clause_value value.0 value.1 >>= λ x. Ok (record given { version = Some x })
put given keys.Build at value = build_at value.0 value.1 >>= λ x. Ok (record given { build = Some x })
put given keys.BuildNumber at value =
    number_or at (digits_below 18446744073709551616 value.1) >>= λ x. Ok (record given { number = Some x })
put given keys.Channel at value = channel_at value.0 value.1 >>= λ x. Ok (record given { channel = Some x })
put given keys.Subdir at value = channel_at value.0 value.1 >>= λ x. Ok (record given { subdir = Some x })

abbrev pub item_key : Given → ℕ → Option ItemKey → Option (ℕ × List ℕ) → SpecRead Given
item_key given at None value = Err (at, Key)
item_key given at (Some key) None = Err (at, Key)
item_key given at (Some key) (Some value) = if has_key given key then Err (at, Key) else put given key at value

abbrev pub item_cut : Given → ℕ → Option (List ℕ × List ℕ) → SpecRead Given
item_cut given at None = Err (at, Key)
item_cut given at (Some cut) = item_key given at (key_of cut.0) (value_of (at + length cut.0 + 1) cut.1)

-- an item, `key=value`, behind what is given before
unfoldable pub item_read : Given → ℕ → List ℕ → SpecRead Given
item_read given at item = item_cut given at (cut_first equals item)

-- items of which the first begins at a place
unfoldable pub items_read : Given → ℕ → List (List ℕ) → SpecRead Given
items_read given at [] = Ok given
items_read given at (item ∷ items) = item_read given at item >>= λ next. items_read next (at + length item + 1) items

-- The whole.

-- what stands before the brackets, and what stands in them: they begin at the last `[` of a text that ends with `]`
abbrev pub brackets_of : List ℕ → Option (List ℕ × List ℕ)
brackets_of text = option_and_then (cut_last open_bracket) (without_last close_bracket text)

-- where a build is given, a version is too, in the form that it has beside a build
abbrev pub version_beside : Option (List ℕ) → Option (List ℕ) → Option (List ℕ)
version_beside None version = version
version_beside (Some build) version = Some (beside_build (unwrap_or version (codes "*")))

-- what is given in the brackets wins
abbrev pub spec_parts : Front → Given → Parts
spec_parts front given =
    let build = option_or given.build front.1.build in
    record {
      channel = option_or given.channel front.1.channel;
      subdir = option_or given.subdir front.1.subdir;
      name = front.0;
      version = version_beside build (option_or given.version front.1.version);
      build = build;
      number = given.number;
    }

abbrev pub spec_cut : List ℕ → Option (List ℕ × List ℕ) → SpecRead Parts
spec_cut text None = front_read text >>= λ front. Ok (spec_parts front nothing)
spec_cut text (Some cut) = do
  front ← front_read cut.0
  given ← items_read nothing (length cut.0 + 1) (items_of None cut.1)
  Ok (spec_parts front given)

-- what a specification without spaces at its ends says
unfoldable pub spec_read : List ℕ → SpecRead Parts
spec_read text = spec_cut text (brackets_of text)
