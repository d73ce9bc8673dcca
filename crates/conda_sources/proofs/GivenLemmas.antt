-- A virtual package that is given has a dist, with the build `0`.
use Rattle.std.proofs.Common.{subst, not, append_assoc, ◌≡◌, ◌≢◌, ◌↔◌, ℕ, ◌+◌, ◌-◌, ◌≤◌, ◌<◌, ◌⊎◌, inl, inr, Bool, true, false, cond, List, [], ◌∷◌, ◌++◌, length, drop, Option, Some, None, refl, sym, ap, ◌∙◌, arith, length-append}
use Rattle.std.specs.Prelude.{All, ◌==◌, ◌&&◌, ◌||◌, nat_eq, nat_le, nat_lt, codes, is_ok, is_some, map, reverse, Ok, Err}
use Rattle.std.specs.Char.{to_ascii_lowercase}
use Rattle.std.specs.Int.{is_in_range}
use Rattle.std.specs.List.{AllByRecursion, after_first, list_all, list_any, starts_with}
use Rattle.std.proofs.lemmas.Bool.{and_left, and_parts, cond-true, eqb-true, false≢true, false_from_ne_true, le-ltb, leb-true, not-true, lt-leb, lt-ltb, ltb-true, ne_eqb, or_cases, or_from, or_parts, true≢false}
use Rattle.std.proofs.lemmas.List.{reverse-append}
use Rattle.std.proofs.lemmas.List.Elements.{All-append, All-cons, All-from_recursion, All-head, All-map, All-nil, All-tail, All-weaker}
use Rattle.conda_base.specs.Reads.{unless}
use Rattle.conda_base.specs.Signs.{dash, equals, underscore}
use Rattle.conda_base.specs.Texts.{IsFreeOf, begins_with, is_byte, is_empty}
use Rattle.conda_path.specs.Dists.{IsDist, IsSplit, begins_badly, dist_text, is_bad_byte, is_dist, names_file}
use Rattle.conda_path.specs.Files.{IsFileOf, cut_ending}
use Rattle.conda_path.specs.Paths.{is_control, is_control_or_space}
use Rattle.conda_version.specs.Grammar.{is_plain, offence, version_read}
use Rattle.conda_version.specs.Text.{holds, plain, trimmed}
use Rattle.conda_version.specs.declared.error.VersionWhy.{VersionWhy}
use Rattle.conda_words.specs.Values.{is_label_byte, is_virtual, is_virtual_name, is_virtual_version, virtual_name, virtual_version}
use Rattle.conda_words.specs.declared.command.Virtual as words
use Rattle.conda_index.specs.Pools.{virtual_dist}
use Rattle.conda_index.specs.declared.virtuals.Virtual.{Virtual}
use Rattle.conda_sources.specs.Virtuals.{IsGiven, have_one_name, last_of_each, of_words, usual, virtual_list}

-- ---- bytes

-- a byte that no dist holds is one of these
bad_cases : (b : ℕ) → is_bad_byte b ≡ true → (b < 33) ⊎ ((b ≡ 127) ⊎ ((b ≡ 47) ⊎ (b ≡ 58)))
bad_cases b h = colon (or_cases (is_control_or_space b || b == 47) (b == 58) h)
  where
    control : (nat_lt b 32 ≡ true) ⊎ ((b == 127) ≡ true) → (b < 33) ⊎ ((b ≡ 127) ⊎ ((b ≡ 47) ⊎ (b ≡ 58)))
    control (inl e) = let low : b < 32 = ltb-true b 32 e in inl (omega (arith, low))
    control (inr e) = inr (inl (eqb-true b 127 e))

    blank : (is_control b ≡ true) ⊎ ((b == 32) ≡ true) → (b < 33) ⊎ ((b ≡ 127) ⊎ ((b ≡ 47) ⊎ (b ≡ 58)))
    blank (inl e) = control (or_cases (nat_lt b 32) (b == 127) e)
    blank (inr e) = let same : b ≡ 32 = eqb-true b 32 e in inl (omega (arith, same))

    slash : (is_control_or_space b ≡ true) ⊎ ((b == 47) ≡ true) → (b < 33) ⊎ ((b ≡ 127) ⊎ ((b ≡ 47) ⊎ (b ≡ 58)))
    slash (inl e) = blank (or_cases (is_control b) (b == 32) e)
    slash (inr e) = inr (inr (inl (eqb-true b 47 e)))

    colon : ((is_control_or_space b || b == 47) ≡ true) ⊎ ((b == 58) ≡ true) → (b < 33) ⊎ ((b ≡ 127) ⊎ ((b ≡ 47) ⊎ (b ≡ 58)))
    colon (inl e) = slash (or_cases (is_control_or_space b) (b == 47) e)
    colon (inr e) = inr (inr (inr (eqb-true b 58 e)))

-- a test that no such byte passes
good_from : (test : ℕ → Bool) → ((b : ℕ) → b < 33 → test b ≡ false) → test 127 ≡ false → test 47 ≡ false → test 58 ≡ false
    → (b : ℕ) → test b ≡ true → is_bad_byte b ≡ false
good_from test low delete slash colon b h = false_from_ne_true (is_bad_byte b) (λ bad. by (bad_cases b bad))
  where
    no : (c : ℕ) → b ≡ c → test c ≡ false → ⊥
    no c e none = true≢false (sym h ∙ ap test e ∙ none)

    by : (b < 33) ⊎ ((b ≡ 127) ⊎ ((b ≡ 47) ⊎ (b ≡ 58))) → ⊥
    by (inl e) = true≢false (sym h ∙ low b e)
    by (inr (inl e)) = no 127 e delete
    by (inr (inr (inl e))) = no 47 e slash
    by (inr (inr (inr e))) = no 58 e colon

below_range : (low high b : ℕ) → b < low → is_in_range low high b ≡ false
below_range low high b h = and_left (nat_le low b) (nat_le b high) (lt-leb low b h)

below_byte : (c b : ℕ) → b < c → (b == c) ≡ false
below_byte c b h = ne_eqb b c (λ e. omega (arith, e, h))

low_label : (b : ℕ) → b < 33 → is_label_byte b ≡ false
low_label b h =
    or_from _ _ (or_from _ _ (or_from _ _
    (or_from _ _ (or_from _ _ (below_range 48 57 b (omega (arith, h))) (below_range 65 90 b (omega (arith, h)))) (below_range 97 122 b (omega (arith, h))))
    (below_byte 95 b (omega (arith, h)))) (below_byte 45 b (omega (arith, h)))) (below_byte 46 b (omega (arith, h)))

label_good : (b : ℕ) → is_label_byte b ≡ true → is_bad_byte b ≡ false
label_good = good_from is_label_byte low_label refl refl refl

low_plain : (b : ℕ) → b < 33 → is_plain (to_ascii_lowercase b) ≡ false
low_plain b h =
    let same : to_ascii_lowercase b ≡ b = cond-true (nat_lt b 65) b (cond (nat_lt b 91) (b + 32) b) (lt-ltb b 65 (omega (arith, h))) in
    ap is_plain same
    ∙ or_from _ _ (or_from _ _ (or_from _ _ (or_from _ _ (below_range 48 57 b (omega (arith, h)))
    (or_from _ _ (below_range 97 122 b (omega (arith, h))) (below_byte 95 b (omega (arith, h))))) (below_byte 46 b (omega (arith, h))))
    (below_byte 43 b (omega (arith, h)))) (below_byte 33 b (omega (arith, h)))

plain_good : (b : ℕ) → is_plain (to_ascii_lowercase b) ≡ true → is_bad_byte b ≡ false
plain_good = good_from (λ b. is_plain (to_ascii_lowercase b)) low_plain refl refl refl

-- ---- texts

abbrev IsGood : List ℕ → Type 0
IsGood = AllByRecursion (λ b. is_bad_byte b ≡ false)

labels_good : (name : List ℕ) → list_all is_label_byte name ≡ true → IsGood name
labels_good [] h = tt
labels_good (b ∷ rest) h =
    let both = and_parts (is_label_byte b) (list_all is_label_byte rest) h in (label_good b both.0, labels_good rest both.1)

lowers_good : (text : List ℕ) → list_all is_plain (map to_ascii_lowercase text) ≡ true → IsGood text
lowers_good [] h = tt
lowers_good (b ∷ rest) h =
    let both = and_parts (is_plain (to_ascii_lowercase b)) (list_all is_plain (map to_ascii_lowercase rest)) h in
    (plain_good b both.0, lowers_good rest both.1)

-- a text without a dash is plain in lower case
plain_lower : (text : List ℕ) → holds dash text ≡ false → plain text ≡ map to_ascii_lowercase text
plain_lower text h = rw h refl

good_append : (xs ys : List ℕ) → IsGood xs → IsGood ys → IsGood (xs ++ ys)
good_append [] ys g h = h
good_append (x ∷ xs) ys g h = (g.0, good_append xs ys g.1 h)

free_of : (c : ℕ) (text : List ℕ) → list_any (is_byte c) text ≡ false → IsFreeOf c text
free_of c [] h = tt
free_of c (b ∷ rest) h = let both = or_parts (b == c) (list_any (is_byte c) rest) h in (both.0, free_of c rest both.1)

-- ---- a name that begins with two underscores

begins : (name : List ℕ) → starts_with nat_eq name (codes "__") ≡ true → (rest : List ℕ) × (name ≡ underscore ∷ rest)
begins [] h = absurd (false≢true h)
begins (b ∷ rest) h = (rest, ap (λ c. c ∷ rest) (sym (eqb-true 95 b (and_parts (nat_eq 95 b) _ h).0)))

-- ---- no text that ends with `0` is that of a package file

module _ (endings : (file stem : List ℕ) → (cut_ending file ≡ Some stem) ↔ IsFileOf file stem) where
  no_file : (front : List ℕ) → names_file (front ++ 48 ∷ []) ≡ false
  no_file front = by (cut_ending (front ++ 48 ∷ [])) refl
    where
      turned : reverse (front ++ 48 ∷ []) ≡ 48 ∷ reverse front
      turned = reverse-append front (48 ∷ [])

      not_of : (stem : List ℕ) → IsFileOf (front ++ 48 ∷ []) stem → ⊥
      not_of stem (inl e) =
          true≢false (ap (begins_with 48) (sym turned ∙ ap reverse e ∙ reverse-append stem (codes ".tar.bz2")))
      not_of stem (inr e) =
          true≢false (ap (begins_with 48) (sym turned ∙ ap reverse e ∙ reverse-append stem (codes ".conda")))

      by : (o : Option (List ℕ)) → cut_ending (front ++ 48 ∷ []) ≡ o → is_some o ≡ false
      by None e = refl
      by (Some stem) e = absurd (not_of stem ((endings (front ++ 48 ∷ []) stem).0 e))

-- ---- a version that reads

ok_reads : (text : List ℕ) → trimmed text ≡ text → is_ok (version_read text) ≡ true → (version_read text ≡ Ok text) × (offence text ≡ None)
ok_reads text bare h = by (offence (trimmed text)) refl h
  where
    by : (o : Option (ℕ × VersionWhy)) → offence (trimmed text) ≡ o → is_ok (unless o (trimmed text)) ≡ true
        → (version_read text ≡ Ok text) × (offence text ≡ None)
    by None e k = (ap (λ p. unless p (trimmed text)) e ∙ ap Ok bare, ap offence (sym bare) ∙ e)
    by (Some f) e k = absurd (false≢true k)

some_version : (text : List ℕ) → offence text ≡ None → text ≢ []
some_version text none e = absurd (by (sym (ap offence e) ∙ none))
  where
    by : offence [] ≡ None → ⊥
    by h = true≢false (ap is_some h)

-- ---- a virtual package that is given

-- what its option was tested for
record IsTested (given : words.Virtual) : Type 0 where
  name : is_virtual_name given.name ≡ true
  short : length given.name + length given.version + 3 ≤ 255
  version : is_virtual_version given.version ≡ true
  bare : trimmed given.version ≡ given.version

tested : ((text : List ℕ) → trimmed (trimmed text) ≡ trimmed text) → (given : words.Virtual) → IsGiven given → IsTested given
tested twice given (value, good, same) =
    let front = and_parts (is_virtual_name (virtual_name value) && nat_le (length (virtual_name value) + length (virtual_version value) + 3) 255)
    (is_virtual_version (virtual_version value)) good in
    let first = and_parts (is_virtual_name (virtual_name value)) (nat_le (length (virtual_name value) + length (virtual_version value) + 3) 255) front.0 in
    subst IsTested same (record {
      name = first.0;
      short = leb-true (length (virtual_name value) + length (virtual_version value) + 3) 255 first.1;
      version = front.1;
      bare = twice (after_first (is_byte equals) value);
    })

pub given_reads : ((text : List ℕ) → trimmed (trimmed text) ≡ trimmed text) → (given : words.Virtual) → IsGiven given
    → version_read given.version ≡ Ok given.version
given_reads twice given h =
    let t = tested twice given h in
    (ok_reads given.version t.bare (and_parts (is_ok (version_read given.version)) (not (holds dash given.version)) t.version).0).0

-- the last byte of a dist with the build `0` by itself
last_apart : (name version : List ℕ)
    → dist_text name version (codes "0") ≡ (name ++ dash ∷ (version ++ dash ∷ [])) ++ 48 ∷ []
last_apart name version =
    ap (λ r. name ++ dash ∷ r) (sym (append_assoc version (dash ∷ []) (48 ∷ [])))
    ∙ sym (append_assoc name (dash ∷ (version ++ dash ∷ [])) (48 ∷ []))

-- the laws of dists, endings and versions
pub record Laws : Type 0 where
  pub rule : (text : List ℕ) → (is_dist text ≡ true) ↔ IsDist text
  pub endings : (file stem : List ℕ) → (cut_ending file ≡ Some stem) ↔ IsFileOf file stem
  pub chars : (text : List ℕ) → offence text ≡ None → list_all is_plain (plain text) ≡ true
  pub twice : (text : List ℕ) → trimmed (trimmed text) ≡ trimmed text

-- its name, version and build are those of a dist
abbrev pub HasDist : Virtual → Type 0
HasDist v = is_dist (virtual_dist v) ≡ true

module _ (laws : Laws) where
  pub given_dist : (given : words.Virtual) → IsGiven given → HasDist (of_words given)
  given_dist given h =
      let t = tested laws.twice given h in
      let parts = and_parts (is_ok (version_read given.version)) (not (holds dash given.version)) t.version in
      let reads = ok_reads given.version t.bare parts.0 in
      let no_dash : holds dash given.version ≡ false = not-true (holds dash given.version) parts.1 in
      let named = and_parts (starts_with nat_eq given.name (codes "__")) (list_all is_label_byte given.name) t.name in
      let front = begins given.name named.0 in
      let behind : List ℕ = dash ∷ (given.version ++ dash ∷ codes "0") in
      let lower : list_all is_plain (map to_ascii_lowercase given.version) ≡ true =
      ap (list_all is_plain) (sym (plain_lower given.version no_dash)) ∙ laws.chars given.version reads.1
      in
      (laws.rule (given.name ++ behind)).1 (record {
        split = (
          given.name,
          given.version,
          codes "0",
          record {
            text_is = refl;
            name_some = λ e. true≢false (ap is_empty (sym e ∙ front.1));
            version_some = some_version given.version reads.1;
            build_some = λ e. true≢false (ap is_empty (sym e));
            version_plain = free_of dash given.version no_dash;
            build_plain = (refl, tt);
          },
        );
        bytes = good_append given.name behind (labels_good given.name named.1)
            (refl, good_append given.version (dash ∷ codes "0") (lowers_good given.version lower) (refl, (refl, tt)));
        front = ap (λ n. begins_badly (n ++ behind)) front.1;
        no_file = ap names_file (last_apart given.name given.version) ∙ no_file laws.endings (given.name ++ dash ∷ (given.version ++ dash ∷ []));
        short = omega (arith, t.short, length-append given.name behind, length-append given.version (dash ∷ codes "0"));
      })

  last_all : (P : Virtual → Type 0) (all : List Virtual) → All P all → All P (last_of_each all)
  last_all P [] h = All-nil P
  last_all P (one ∷ others) h = by (list_any (have_one_name one) others) (last_all P others (All-tail P one others h))
    where
      by : (b : Bool) → All P (last_of_each others) → All P (cond b (last_of_each others) (one ∷ last_of_each others))
      by true more = more
      by false more = All-cons P one (last_of_each others) (All-head P one others h) more

  pub list_dists : (given : List words.Virtual) → All IsGiven given → All HasDist (virtual_list given)
  list_dists given h =
      last_all HasDist (usual ++ map of_words given)
      (All-append HasDist usual (map of_words given) (All-from_recursion HasDist usual (refl, (refl, (refl, (refl, tt)))))
      (All-map HasDist of_words given (All-weaker IsGiven (λ g. HasDist (of_words g)) given_dist given h)))
