-- The table of tests and what is read: each text of the table is read as its test, and nothing else is read.
use Rattle.std.proofs.Common.{◌≡◌, ℕ, zero, suc, ◌-◌, ◌<◌, Bool, true, false, nat_eq, List, [], ◌∷◌, ◌++◌, length, take, drop, codes, Option, None, Some, refl, sym, ap, subst, ◌∙◌, lit<, arith, true≢false, append_assoc, length-append}
use Rattle.std.proofs.lemmas.List.{take_at}
use Rattle.std.proofs.lemmas.List.Folds.{list_all-append}
use Rattle.std.specs.Prelude.{if◌then◌else◌, ◌==◌, ◌&&◌, ◌||◌, Contains, is_none, option_and_then, slice_get}
use Rattle.std.specs.Cmp.Lexicographic.{pointwise}
use Rattle.std.specs.List.{AllByRecursion, list_all}
use Rattle.std.specs.Option.{option_map, option_map_or}
use Rattle.conda_base.specs.Signs.{dot, equals, exclamation, greater, less, space, star, tilde}
use Rattle.conda_base.specs.Texts.{begins_with, cut_last, ends_with}
use Rattle.conda_version.specs.declared.error.VersionWhy.{VersionWhy}
use Rattle.conda_version.specs.Grammar.{offence}
use Rattle.conda_version.specs.Text.{trimmed}
use Rattle.conda_clause.specs.declared.test.Sign.{Sign}
use Rattle.conda_clause.specs.declared.test.Sign.TheVariants.{Above, AtLeast, AtMost, Below, Double, Near, Plain, Single, Unequal}
use Rattle.conda_clause.specs.declared.test.Test.{Test}
use Rattle.conda_clause.specs.declared.test.Test.TheVariants.{Any, Is, IsAbove, IsAtLeast, IsAtMost, IsBelow, IsNear, IsNot, Starts, StartsNot}
use Rattle.conda_clause.specs.Tests.{IsFaultless, IsTest, is_any, is_equal_sign, is_version_char, shortened, sign_len, sign_of, signed, test_of, test_texts, test_with, version_text, without_star}
use Rattle.conda_clause.proofs.TestLemmas.{all_more, and_both, and_left, and_right, NoDotEnd, test_equal, test_found, unlike, version_chars, version_is}

-- Characters of tests.

-- a character of a version, or a star
abbrev pub is_beside : ℕ → Bool
is_beside b = is_version_char b || b == star

pub version_beside : (v : List ℕ) → IsFaultless v → list_all is_beside v ≡ true
version_beside v h = all_more is_version_char is_beside (λ b k. ap (λ q. q || b == star) k) v (version_chars v h)

-- Texts and their ends.

get_at : (xs ys : List ℕ) (y : ℕ) → slice_get (xs ++ y ∷ ys) (length xs) ≡ Some y
get_at [] ys y = refl
get_at (x ∷ xs) ys y = get_at xs ys y

len_less : (xs : List ℕ) (y : ℕ) → length (xs ++ y ∷ []) - 1 ≡ length xs
len_less xs y = omega (arith, length-append xs (y ∷ []))

-- a text ends with its last character
pub ends_at : (xs : List ℕ) (k y : ℕ) → ends_with k (xs ++ y ∷ []) ≡ (y == k)
ends_at xs k y =
    ap (λ n. option_map_or (λ b. b == k) (slice_get (xs ++ y ∷ []) n) false) (len_less xs y)
    ∙ ap (λ o. option_map_or (λ b. b == k) o false) (get_at xs [] y)

pub shortened_is : (xs : List ℕ) (y : ℕ) → shortened (xs ++ y ∷ []) ≡ xs
shortened_is xs y = ap (λ n. take n (xs ++ y ∷ [])) (len_less xs y) ∙ take_at xs (y ∷ []) (length xs) refl

last_is : (k x : ℕ) (xs : List ℕ) → option_map_or (λ b. b == k) (slice_get (x ∷ xs) (length xs)) false ≡ true
    → x ∷ xs ≡ take (length xs) (x ∷ xs) ++ k ∷ []
last_is k x [] h = ap (λ b. b ∷ []) (test_equal x k h)
last_is k x (y ∷ ys) h = ap (λ r. x ∷ r) (last_is k y ys h)

pub ends_split : (k : ℕ) (xs : List ℕ) → ends_with k xs ≡ true → xs ≡ shortened xs ++ k ∷ []
ends_split k [] h = absurd cc
ends_split k (x ∷ xs) h =
    let e : length (x ∷ xs) - 1 ≡ length xs = omega arith in
    last_is k x xs (sym (ap (λ n. option_map_or (λ b. b == k) (slice_get (x ∷ xs) n) false) e) ∙ h)
    ∙ ap (λ n. take n (x ∷ xs) ++ k ∷ []) (sym e)

-- no text of such characters ends with another one
pub never_ends : (p : ℕ → Bool) (k : ℕ) (xs : List ℕ) → list_all p xs ≡ true → p k ≡ false → ends_with k xs ≡ false
never_ends p k xs h f = by_end (ends_with k xs) refl
  where
    by_end : (j : Bool) → ends_with k xs ≡ j → j ≡ false
    by_end false e = refl
    by_end true e =
        let front : List ℕ = shortened xs in
        let both : (list_all p front && (p k && true)) ≡ true =
        sym (ap (list_all p) (ends_split k xs e) ∙ list_all-append p front (k ∷ [])) ∙ h in
        let at_end = and_left (p k) true (and_right (list_all p front) (p k && true) both) in
        absurd (true≢false (sym at_end ∙ f))

-- characters of versions are no spaces, so nothing is trimmed
pub chars_bare : ((text : List ℕ) → begins_with space text ≡ false → ends_with space text ≡ false → trimmed text ≡ text) → (v : List ℕ)
    → list_all is_version_char v ≡ true → trimmed v ≡ v
chars_bare law v h = law v (no_front v h) (never_ends is_version_char space v h refl)
  where
    no_front : (w : List ℕ) → list_all is_version_char w ≡ true → begins_with space w ≡ false
    no_front [] k = refl
    no_front (b ∷ bs) k = unlike is_version_char b space (and_left (is_version_char b) (list_all is_version_char bs) k) refl

-- A sign, a version, and how the text ends.

pub data Ending : Type 0 where
  bare : Ending
  star_only : Ending
  dot_star : Ending

abbrev pub ended : Ending → List ℕ → List ℕ
ended bare v = v
ended star_only v = v ++ codes "*"
ended dot_star v = v ++ codes ".*"

abbrev pub has_star : Ending → Bool
has_star bare = false
has_star star_only = true
has_star dot_star = true

abbrev pub behind_sign : Sign → List ℕ → List ℕ
behind_sign Plain w = w
behind_sign Single w = codes "=" ++ w
behind_sign Double w = codes "==" ++ w
behind_sign Unequal w = codes "!=" ++ w
behind_sign Below w = codes "<" ++ w
behind_sign AtMost w = codes "<=" ++ w
behind_sign Above w = codes ">" ++ w
behind_sign AtLeast w = codes ">=" ++ w
behind_sign Near w = codes "~=" ++ w

no_equals : (w : List ℕ) → list_all is_beside w ≡ true → begins_with equals w ≡ false
no_equals [] h = refl
no_equals (c ∷ cs) h = unlike is_beside c equals (and_left (is_beside c) (list_all is_beside cs) h) refl

sign_by : (e l g x n q : Bool) → Sign
sign_by e l g x n q =
    if e then (if q then Double else Single)
    else if l then (if q then AtMost else Below)
    else if g then (if q then AtLeast else Above)
    else if x && q then Unequal
    else if n && q then Near
    else Plain

plain_by : (x n : Bool) → sign_by false false false x n false ≡ Plain
unfolding sign_by
plain_by true true = refl
plain_by true false = refl
plain_by false true = refl
plain_by false false = refl

-- characters of versions and stars are no sign
pub plain_sign : (w : List ℕ) → list_all is_beside w ≡ true → sign_of w ≡ Plain
unfolding sign_by
plain_sign [] h = refl
plain_sign (b ∷ bs) h =
    let first = and_left (is_beside b) (list_all is_beside bs) h in
    let rest = and_right (is_beside b) (list_all is_beside bs) h in
    ap (λ e. sign_by e (b == less) (b == greater) (b == exclamation) (b == tilde) (begins_with equals bs))
    (unlike is_beside b equals first refl)
    ∙ ap (λ l. sign_by false l (b == greater) (b == exclamation) (b == tilde) (begins_with equals bs)) (unlike is_beside b less first refl)
    ∙ ap (λ g. sign_by false false g (b == exclamation) (b == tilde) (begins_with equals bs)) (unlike is_beside b greater first refl)
    ∙ ap (sign_by false false false (b == exclamation) (b == tilde)) (no_equals bs rest)
    ∙ plain_by (b == exclamation) (b == tilde)

pub sign_found : (sign : Sign) (w : List ℕ) → list_all is_beside w ≡ true → sign_of (behind_sign sign w) ≡ sign
sign_found Plain w h = plain_sign w h
sign_found Single w h = ap (λ q. if q then Double else Single) (no_equals w h)
sign_found Double w h = refl
sign_found Unequal w h = refl
sign_found Below w h = ap (λ q. if q then AtMost else Below) (no_equals w h)
sign_found AtMost w h = refl
sign_found Above w h = ap (λ q. if q then AtLeast else Above) (no_equals w h)
sign_found AtLeast w h = refl
sign_found Near w h = refl

signed_found : (sign : Sign) (w : List ℕ) → w ≡ drop (sign_len sign) (behind_sign sign w)
signed_found Plain w = refl
signed_found Single w = refl
signed_found Double w = refl
signed_found Unequal w = refl
signed_found Below w = refl
signed_found AtMost w = refl
signed_found Above w = refl
signed_found AtLeast w = refl
signed_found Near w = refl

pub ended_beside : (ending : Ending) (v : List ℕ) → IsFaultless v → list_all is_beside (ended ending v) ≡ true
ended_beside bare v h = version_beside v h
ended_beside star_only v h = list_all-append is_beside v (codes "*") ∙ and_both (list_all is_beside v) true (version_beside v h) refl
ended_beside dot_star v h = list_all-append is_beside v (codes ".*") ∙ and_both (list_all is_beside v) true (version_beside v h) refl

grouped : (v : List ℕ) → v ++ codes ".*" ≡ (v ++ codes ".") ++ codes "*"
grouped v = sym (append_assoc v (codes ".") (codes "*"))

star_seen : (ending : Ending) (v : List ℕ) → IsFaultless v → ends_with star (ended ending v) ≡ has_star ending
star_seen bare v h = never_ends is_version_char star v (version_chars v h) refl
star_seen star_only v h = ends_at v star star
star_seen dot_star v h = ap (ends_with star) (grouped v) ∙ ends_at (v ++ codes ".") star star

without_by : Bool → Bool → List ℕ → List ℕ
without_by s d text = if s then (if d then shortened (shortened text) else shortened text) else text

star_off : (law : NoDotEnd) (ending : Ending) (v : List ℕ) → IsFaultless v → without_star (ended ending v) ≡ v
unfolding without_by
star_off law bare v h = ap (λ s. without_by s (ends_with dot (shortened v)) v) (star_seen bare v h)
star_off law star_only v h =
    let short : shortened (v ++ codes "*") ≡ v = shortened_is v star in
    ap (λ s. without_by s (ends_with dot (shortened (v ++ codes "*"))) (v ++ codes "*")) (star_seen star_only v h)
    ∙ ap (λ d. without_by true d (v ++ codes "*")) (ap (ends_with dot) short ∙ law v h) ∙ short
star_off law dot_star v h =
    let short : shortened (v ++ codes ".*") ≡ v ++ codes "." = ap shortened (grouped v) ∙ shortened_is (v ++ codes ".") star in
    ap (λ s. without_by s (ends_with dot (shortened (v ++ codes ".*"))) (v ++ codes ".*")) (star_seen dot_star v h)
    ∙ ap (λ d. without_by true d (v ++ codes ".*")) (ap (ends_with dot) short ∙ ends_at v dot dot)
    ∙ ap shortened short ∙ shortened_is v dot

not_star : (sign : Sign) (b : ℕ) (bs : List ℕ) → (b == star) ≡ false → is_any sign (b ∷ bs) ≡ false
not_star sign b bs h = ap (λ k. is_equal_sign sign && (k && pointwise nat_eq bs [])) h ∙ never (is_equal_sign sign)
  where
    never : (k : Bool) → (k && false) ≡ false
    never true = refl
    never false = refl

not_any : (sign : Sign) (ending : Ending) (v : List ℕ) → IsFaultless v → is_any sign (ended ending v) ≡ false
not_any sign ending [] h = absurd cc
not_any sign ending (b ∷ bs) h =
    by_ending ending (unlike is_version_char b star
    (and_left (is_version_char b) (list_all is_version_char bs) (version_chars (b ∷ bs) h)) refl)
  where
    by_ending : (e : Ending) → (b == star) ≡ false → is_any sign (ended e (b ∷ bs)) ≡ false
    by_ending bare f = not_star sign b bs f
    by_ending star_only f = not_star sign b (bs ++ codes "*") f
    by_ending dot_star f = not_star sign b (bs ++ codes ".*") f

-- A test is read by its sign, its version and its star.
pub form : (law : NoDotEnd) (sign : Sign) (ending : Ending) (v : List ℕ) → IsFaultless v
    → test_of (behind_sign sign (ended ending v)) ≡ test_with sign (has_star ending) v
form law sign ending v h =
    let w : List ℕ = ended ending v in
    sym (test_found (behind_sign sign w) sign (sign_len sign) w (has_star ending) v (sym (sign_found sign w (ended_beside ending v h))) refl
    (signed_found sign w)
    (not_any sign ending v h) (sym (star_seen ending v h)) (ap version_text (star_off law ending v h) ∙ version_is v h))

-- What is in the table is read.

pub of_all : (P : List ℕ → Type 0) (xs : List (List ℕ)) → AllByRecursion P xs → (x : List ℕ) → Contains xs x → P x
of_all P [] all x (k, less, is) = absurd (omega arith)
of_all P (y ∷ ys) all x (zero, less, is) = subst P is all.0
of_all P (y ∷ ys) all x (suc k, less, is) = of_all P ys all.1 x (k, omega arith, is)

near_read : (v front last : List ℕ) → IsFaultless front → cut_last dot v ≡ Some (front, last)
    → test_with Near false v ≡ Some (IsNear v front)
near_read v front last h e =
    ap (λ cut. option_map (λ f. IsNear v f) (option_and_then (λ halves. version_text halves.0) cut)) e
    ∙ ap (option_map (λ f. IsNear v f)) (version_is front h)

pub table_read : (law : NoDotEnd) (text : List ℕ) (test : Test) → IsTest text test → test_of text ≡ Some test
table_read law text Any h = of_all (λ t. test_of t ≡ Some Any) (test_texts Any) (refl, (refl, (refl, tt))) text h.1
table_read law text (Is v) h =
    of_all (λ t. test_of t ≡ Some (Is v)) (test_texts (Is v)) (form law Plain bare v h.0, (form law Double bare v h.0, tt)) text h.1
table_read law text (IsNot v) h = of_all (λ t. test_of t ≡ Some (IsNot v)) (test_texts (IsNot v)) (form law Unequal bare v h.0, tt) text h.1
table_read law text (IsBelow v) h =
    of_all (λ t. test_of t ≡ Some (IsBelow v)) (test_texts (IsBelow v))
    (form law Below bare v h.0, (form law Below star_only v h.0, (form law Below dot_star v h.0, tt))) text h.1
table_read law text (IsAtMost v) h =
    of_all (λ t. test_of t ≡ Some (IsAtMost v)) (test_texts (IsAtMost v))
    (form law AtMost bare v h.0, (form law AtMost star_only v h.0, (form law AtMost dot_star v h.0, tt))) text h.1
table_read law text (IsAbove v) h =
    of_all (λ t. test_of t ≡ Some (IsAbove v)) (test_texts (IsAbove v))
    (form law Above bare v h.0, (form law Above star_only v h.0, (form law Above dot_star v h.0, tt))) text h.1
table_read law text (IsAtLeast v) h =
    of_all (λ t. test_of t ≡ Some (IsAtLeast v)) (test_texts (IsAtLeast v))
    (form law AtLeast bare v h.0, (form law AtLeast star_only v h.0, (form law AtLeast dot_star v h.0, tt))) text h.1
table_read law text (Starts v) h =
    of_all (λ t. test_of t ≡ Some (Starts v)) (test_texts (Starts v)) (
      form law Single bare v h.0,
      (
        form law Single star_only v h.0,
        (
          form law Single dot_star v h.0,
          (
            form law Double star_only v h.0,
            (
              form law Double dot_star v h.0,
              (form law Plain star_only v h.0, (form law Plain dot_star v h.0, tt)),
            ),
          ),
        ),
      ),
    )
    text h.1
table_read law text (StartsNot v) h =
    of_all (λ t. test_of t ≡ Some (StartsNot v)) (test_texts (StartsNot v))
    (form law Unequal star_only v h.0, (form law Unequal dot_star v h.0, tt)) text h.1
table_read law text (IsNear v front) h =
    of_all (λ t. test_of t ≡ Some (IsNear v front)) (test_texts (IsNear v front))
    (form law Near bare v h.0.0 ∙ near_read v front h.0.2 h.0.1 h.0.3, tt) text h.1

-- What is read is in the table.

given : (text : List ℕ) (test found : Test) → Some found ≡ Some test → IsTest text found → IsTest text test
given text test found e h = let same : found ≡ test = cc in subst (IsTest text) same h

pub formed : (sign : Sign) (ending : Ending) (v : List ℕ) (test : Test) → IsFaultless v → test_with sign (has_star ending) v ≡ Some test
    → IsTest (behind_sign sign (ended ending v)) test
formed Plain bare v test h e = given v test (Is v) e (h, (0, lit< tt, refl))
formed Plain star_only v test h e = given (v ++ codes "*") test (Starts v) e (h, (5, lit< tt, refl))
formed Plain dot_star v test h e = given (v ++ codes ".*") test (Starts v) e (h, (6, lit< tt, refl))
formed Single bare v test h e = given (codes "=" ++ v) test (Starts v) e (h, (0, lit< tt, refl))
formed Single star_only v test h e = given (codes "=" ++ v ++ codes "*") test (Starts v) e (h, (1, lit< tt, refl))
formed Single dot_star v test h e = given (codes "=" ++ v ++ codes ".*") test (Starts v) e (h, (2, lit< tt, refl))
formed Double bare v test h e = given (codes "==" ++ v) test (Is v) e (h, (1, lit< tt, refl))
formed Double star_only v test h e = given (codes "==" ++ v ++ codes "*") test (Starts v) e (h, (3, lit< tt, refl))
formed Double dot_star v test h e = given (codes "==" ++ v ++ codes ".*") test (Starts v) e (h, (4, lit< tt, refl))
formed Unequal bare v test h e = given (codes "!=" ++ v) test (IsNot v) e (h, (0, lit< tt, refl))
formed Unequal star_only v test h e = given (codes "!=" ++ v ++ codes "*") test (StartsNot v) e (h, (0, lit< tt, refl))
formed Unequal dot_star v test h e = given (codes "!=" ++ v ++ codes ".*") test (StartsNot v) e (h, (1, lit< tt, refl))
formed Below bare v test h e = given (codes "<" ++ v) test (IsBelow v) e (h, (0, lit< tt, refl))
formed Below star_only v test h e = given (codes "<" ++ v ++ codes "*") test (IsBelow v) e (h, (1, lit< tt, refl))
formed Below dot_star v test h e = given (codes "<" ++ v ++ codes ".*") test (IsBelow v) e (h, (2, lit< tt, refl))
formed AtMost bare v test h e = given (codes "<=" ++ v) test (IsAtMost v) e (h, (0, lit< tt, refl))
formed AtMost star_only v test h e = given (codes "<=" ++ v ++ codes "*") test (IsAtMost v) e (h, (1, lit< tt, refl))
formed AtMost dot_star v test h e = given (codes "<=" ++ v ++ codes ".*") test (IsAtMost v) e (h, (2, lit< tt, refl))
formed Above bare v test h e = given (codes ">" ++ v) test (IsAbove v) e (h, (0, lit< tt, refl))
formed Above star_only v test h e = given (codes ">" ++ v ++ codes "*") test (IsAbove v) e (h, (1, lit< tt, refl))
formed Above dot_star v test h e = given (codes ">" ++ v ++ codes ".*") test (IsAbove v) e (h, (2, lit< tt, refl))
formed AtLeast bare v test h e = given (codes ">=" ++ v) test (IsAtLeast v) e (h, (0, lit< tt, refl))
formed AtLeast star_only v test h e = given (codes ">=" ++ v ++ codes "*") test (IsAtLeast v) e (h, (1, lit< tt, refl))
formed AtLeast dot_star v test h e = given (codes ">=" ++ v ++ codes ".*") test (IsAtLeast v) e (h, (2, lit< tt, refl))
formed Near star_only v test h e = absurd cc
formed Near dot_star v test h e = absurd cc
formed Near bare v test h e = by_cut (cut_last dot v) refl e
  where
    by_front : (front last : List ℕ) (o : Option (ℕ × VersionWhy)) → offence front ≡ o → cut_last dot v ≡ Some (front, last)
        → option_map (λ f. IsNear v f) (if is_none o then Some front else None) ≡ Some test → IsTest (codes "~=" ++ v) test
    by_front front last None good cut f = given (codes "~=" ++ v) test (IsNear v front) f ((h, good, last, cut), (0, lit< tt, refl))
    by_front front last (Some found) good cut f = absurd cc

    by_cut : (o : Option (List ℕ × List ℕ)) → cut_last dot v ≡ o
        → option_map (λ f. IsNear v f) (option_and_then (λ halves. version_text halves.0) o) ≡ Some test → IsTest (codes "~=" ++ v) test
    by_cut None cut f = absurd cc
    by_cut (Some halves) cut f = by_front halves.0 halves.1 (offence halves.0) refl cut f

-- a text is its sign and what is behind it
equals_first : (bs : List ℕ) → begins_with equals bs ≡ true → bs ≡ equals ∷ drop 1 bs
equals_first [] h = absurd cc
equals_first (c ∷ cs) h = ap (λ d. d ∷ cs) (test_equal c equals h)

split_by : (b : ℕ) (bs : List ℕ) (e l g x n q : Bool) → (b == equals) ≡ e → (b == less) ≡ l → (b == greater) ≡ g → (b == exclamation) ≡ x
    → (b == tilde) ≡ n
    → begins_with equals bs ≡ q → b ∷ bs ≡ behind_sign (sign_by e l g x n q) (drop (sign_len (sign_by e l g x n q)) (b ∷ bs))
unfolding sign_by
split_by b bs true l g x n true he hl hg hx hn hq = ap (λ c. c ∷ bs) (test_equal b equals he) ∙ ap (λ r. equals ∷ r) (equals_first bs hq)
split_by b bs true l g x n false he hl hg hx hn hq = ap (λ c. c ∷ bs) (test_equal b equals he)
split_by b bs false true g x n true he hl hg hx hn hq = ap (λ c. c ∷ bs) (test_equal b less hl) ∙ ap (λ r. less ∷ r) (equals_first bs hq)
split_by b bs false true g x n false he hl hg hx hn hq = ap (λ c. c ∷ bs) (test_equal b less hl)
split_by b bs false false true x n true he hl hg hx hn hq =
    ap (λ c. c ∷ bs) (test_equal b greater hg) ∙ ap (λ r. greater ∷ r) (equals_first bs hq)
split_by b bs false false true x n false he hl hg hx hn hq = ap (λ c. c ∷ bs) (test_equal b greater hg)
split_by b bs false false false true n true he hl hg hx hn hq =
    ap (λ c. c ∷ bs) (test_equal b exclamation hx) ∙ ap (λ r. exclamation ∷ r) (equals_first bs hq)
split_by b bs false false false true true false he hl hg hx hn hq = refl
split_by b bs false false false true false false he hl hg hx hn hq = refl
split_by b bs false false false false true true he hl hg hx hn hq =
    ap (λ c. c ∷ bs) (test_equal b tilde hn) ∙ ap (λ r. tilde ∷ r) (equals_first bs hq)
split_by b bs false false false false true false he hl hg hx hn hq = refl
split_by b bs false false false false false true he hl hg hx hn hq = refl
split_by b bs false false false false false false he hl hg hx hn hq = refl

sign_split : (text : List ℕ) → text ≡ behind_sign (sign_of text) (signed text)
unfolding sign_by
sign_split [] = refl
sign_split (b ∷ bs) =
    split_by b bs (b == equals) (b == less) (b == greater) (b == exclamation) (b == tilde)
    (begins_with equals bs) refl refl refl refl refl refl

-- and what is behind it is a text with or without a star
star_split : (s : List ℕ) → (ending : Ending) × (s ≡ ended ending (without_star s)) × (ends_with star s ≡ has_star ending)
star_split s = by_star (ends_with star s) (ends_with dot (shortened s)) refl refl
  where
    by_star : (k j : Bool) → ends_with star s ≡ k → ends_with dot (shortened s) ≡ j
        → (ending : Ending) × (s ≡ ended ending (if k then (if j then shortened (shortened s) else shortened s) else s))
        × (k ≡ has_star ending)
    by_star false j e f = (bare, refl, refl)
    by_star true false e f = (star_only, ends_split star s e, refl)
    by_star true true e f = (
      dot_star,
      ends_split star s e ∙ ap (λ t. t ++ codes "*") (ends_split dot (shortened s) f)
          ∙ append_assoc (shortened (shortened s)) (codes ".") (codes "*"),
      refl,
    )

any_is : (sign : Sign) (w : List ℕ) → is_any sign w ≡ true → (is_equal_sign sign ≡ true) × (w ≡ codes "*")
any_is sign [] h = absurd (true≢false (sym (and_right (is_equal_sign sign) false h)))
any_is sign (c ∷ []) h = (
  and_left (is_equal_sign sign) (nat_eq c star && true) h,
  ap (λ d. d ∷ []) (test_equal c star (and_left (nat_eq c star) true (and_right (is_equal_sign sign) (nat_eq c star && true) h))),
)
any_is sign (c ∷ d ∷ ds) h =
    absurd (true≢false (sym (and_right (nat_eq c star) false (and_right (is_equal_sign sign) (nat_eq c star && false) h))))

any_formed : (sign : Sign) → is_equal_sign sign ≡ true → IsTest (behind_sign sign (codes "*")) Any
any_formed Plain h = (tt, (0, lit< tt, refl))
any_formed Single h = (tt, (1, lit< tt, refl))
any_formed Double h = (tt, (2, lit< tt, refl))
any_formed Unequal h = absurd cc
any_formed Below h = absurd cc
any_formed AtMost h = absurd cc
any_formed Above h = absurd cc
any_formed AtLeast h = absurd cc
any_formed Near h = absurd cc

pub version_text_some : (x v : List ℕ) → version_text x ≡ Some v → IsFaultless x × (x ≡ v)
version_text_some x v e = by_offence (offence x) refl e
  where
    by_offence : (o : Option (ℕ × VersionWhy)) → offence x ≡ o → (if is_none o then Some x else None) ≡ Some v → IsFaultless x × (x ≡ v)
    by_offence None f k = let same : x ≡ v = cc in (f, same)
    by_offence (Some found) f k = absurd cc

pub read_table : (text : List ℕ) (test : Test) → test_of text ≡ Some test → IsTest text test
read_table text test h = by_any (is_any (sign_of text) (signed text)) refl (version_text (without_star (signed text))) refl h
  where
    by_any : (k : Bool) → is_any (sign_of text) (signed text) ≡ k → (o : Option (List ℕ)) → version_text (without_star (signed text)) ≡ o
        → (if k then Some Any else option_and_then (test_with (sign_of text) (ends_with star (signed text))) o) ≡ Some test
        → IsTest text test
    by_any true e o f g =
        let any = any_is (sign_of text) (signed text) e in
        let whole : text ≡ behind_sign (sign_of text) (codes "*") = sign_split text ∙ ap (behind_sign (sign_of text)) any.1 in
        given text test Any g (subst (λ t. IsTest t Any) (sym whole) (any_formed (sign_of text) any.0))
    by_any false e None f g = absurd cc
    by_any false e (Some v) f g =
        let version = version_text_some (without_star (signed text)) v f in
        let split = star_split (signed text) in
        let whole : text ≡ behind_sign (sign_of text) (ended split.0 v) =
        sign_split text ∙ ap (behind_sign (sign_of text)) (split.1 ∙ ap (ended split.0) version.1) in
        let found : test_with (sign_of text) (has_star split.0) v ≡ Some test = sym (ap (λ s. test_with (sign_of text) s v) split.2) ∙ g in
        subst (λ t. IsTest t test) (sym whole) (formed (sign_of text) split.0 v test (subst IsFaultless version.1 version.0) found)

-- What a test looks like.

-- a character of a test
abbrev pub is_test_char : ℕ → Bool
is_test_char b = is_beside b || (b == equals || b == less || b == greater || b == exclamation || b == tilde)

some_version : (v : List ℕ) → IsFaultless v → 0 < length v
some_version [] h = absurd cc
some_version (b ∷ bs) h = omega arith

-- behind its sign stands something, of characters of versions and stars
pub record IsBody (w : List ℕ) : Type 0 where
  pub some : 0 < length w
  pub chars : list_all is_beside w ≡ true

ended_body : (ending : Ending) (v : List ℕ) → IsFaultless v → IsBody (ended ending v)
ended_body ending v h = record { some = by_ending ending (some_version v h); chars = ended_beside ending v h }
  where
    by_ending : (e : Ending) → 0 < length v → 0 < length (ended e v)
    by_ending bare k = k
    by_ending star_only k = omega (arith, length-append v (codes "*"))
    by_ending dot_star k = omega (arith, length-append v (codes ".*"))

pub test_body : (text : List ℕ) (test : Test) → test_of text ≡ Some test → IsBody (signed text)
test_body text test h = by_any (is_any (sign_of text) (signed text)) refl (version_text (without_star (signed text))) refl h
  where
    by_any : (k : Bool) → is_any (sign_of text) (signed text) ≡ k → (o : Option (List ℕ)) → version_text (without_star (signed text)) ≡ o
        → (if k then Some Any else option_and_then (test_with (sign_of text) (ends_with star (signed text))) o) ≡ Some test
        → IsBody (signed text)
    by_any true e o f g = subst IsBody (sym (any_is (sign_of text) (signed text) e).1) (record { some = lit< tt; chars = refl })
    by_any false e None f g = absurd cc
    by_any false e (Some v) f g =
        let split = star_split (signed text) in
        subst IsBody (sym split.1) (ended_body split.0 (without_star (signed text)) (version_text_some (without_star (signed text)) v f).0)

behind_chars : (sign : Sign) (w : List ℕ) → list_all is_test_char w ≡ true → list_all is_test_char (behind_sign sign w) ≡ true
behind_chars Plain w h = h
behind_chars Single w h = h
behind_chars Double w h = h
behind_chars Unequal w h = h
behind_chars Below w h = h
behind_chars AtMost w h = h
behind_chars Above w h = h
behind_chars AtLeast w h = h
behind_chars Near w h = h

pub test_chars : (text : List ℕ) (test : Test) → test_of text ≡ Some test → list_all is_test_char text ≡ true
test_chars text test h =
    let more : list_all is_test_char (signed text) ≡ true = all_more is_beside is_test_char
    (λ b k. ap (λ q. q || (b == equals || b == less || b == greater || b == exclamation || b == tilde)) k) (signed text)
    (test_body text test h).chars in
    ap (list_all is_test_char) (sign_split text) ∙ behind_chars (sign_of text) (signed text) more
