-- The text of blocks is read as these blocks.
use Rattle.std.proofs.Common.{◌≡◌, ◌≢◌, ◌⊎◌, inl, inr, ℕ, ◌+◌, ◌<◌, ◌≤◌, ◌/◌, ◌%◌, Bool, true, false, ◌||◌, ◌&&◌, not, cond, eqb, List, [], ◌∷◌, ◌++◌, map, reverse, append_assoc, Some, refl, sym, ap, ◌∙◌, subst, arith, lit<, get_or, zero, suc}
use Rattle.std.specs.Prelude.{IsUtf8, Ok, codes}
use Rattle.std.specs.List.{AllByRecursion, flat_map, list_any}
use Rattle.std.proofs.lemmas.Bool.{eqb-true, true≢false}
use Rattle.std.proofs.lemmas.Grind.{flat_map-append}
use Rattle.std.proofs.lemmas.List.{append-nil, reverse-append}
use Rattle.std.proofs.lemmas.List.Elements.{All-from_recursion}
use Rattle.std.proofs.lemmas.List.Splits.{slice_split_at}
use Rattle.std.proofs.lemmas.Str.{IsUtf8-append, IsUtf8-from_ascii, IsUtf8-nil}
use Rattle.conda_base.specs.Texts.{begins_with, is_byte}
use Rattle.conda_path.specs.Dists.{IsDist, is_bad_byte, is_bad_front, begins_badly}
use Rattle.conda_history.specs.declared.line.Line.{Line}
use Rattle.conda_history.specs.declared.line.Line.TheVariants.{Nothing, Header, Removed, Added, Plain}
use Rattle.conda_history.specs.declared.read.Open.{Open}
use Rattle.conda_history.specs.declared.read.Reading.{Reading}
use Rattle.conda_history.specs.declared.revision.Block.{Block}
use Rattle.conda_history.specs.declared.stamp.Stamp.{Stamp}
use Rattle.conda_history.specs.Blocks.{IsBlock, is_header, is_plain, is_signed}
use Rattle.conda_history.specs.Names.{Names}
use Rattle.conda_history.specs.Reading.{are_whole, block_of, closed, history_read, lines_read, named, no_names, open_with, start}
use Rattle.conda_history.specs.Says.{AreLines, IsBare, IsUnsigned, Means, NamesDist, is_blank, lines_of}
use Rattle.conda_history.specs.Sets.{IsIn, with_all, without_all}
use Rattle.conda_history.specs.Stamps.{Exists, header_text, moment_text}
use Rattle.conda_history.specs.Texts.{AreTexts, added_line, dists_text, ended, history_text, removed_line, shown}
use Rattle.conda_history.proofs.BlockLemmas.{block_same, names_after, whole_after}
use Rattle.conda_history.proofs.HistoryLemmas.{read_of_text}
use Rattle.conda_history.proofs.LineLemmas.{Rules, line_found, line_read}
use Rattle.conda_history.proofs.RunLemmas.{run, run_append, run_lines}
use Rattle.conda_history.proofs.SetLemmas.{Sorted, empty_sorted, in_with, in_without, same_members, sorted_ascend, sorted_with, sorted_without, with_in, without_in}
use Rattle.conda_history.proofs.StampLemmas.{short_of}

-- ---- a line as it is written

abbrev line_text : Line → List ℕ
line_text Nothing = []
line_text (Header s) = header_text s
line_text (Removed d) = 45 ∷ d
line_text (Added d) = 43 ∷ d
line_text (Plain d) = d

abbrev entries : Block → List Line
entries b = cond b.whole (map Plain b.added) (map Removed b.removed ++ map Added b.added)

abbrev block_lines : Block → List Line
block_lines b = Header b.stamp ∷ entries b

-- what a line that is written has
IsShown : Line → Type 0
IsShown Nothing = Unit {0}
IsShown (Header s) = Exists s
IsShown (Removed d) = IsDist d × IsUtf8 d
IsShown (Added d) = IsDist d × IsUtf8 d
IsShown (Plain d) = IsDist d × IsUtf8 d

-- ---- its bytes

last_same : (xs ys : List ℕ) (a b : ℕ) → xs ++ a ∷ [] ≡ ys ++ b ∷ [] → a ≡ b
last_same xs ys a b e =
    let turned : a ∷ reverse xs ≡ b ∷ reverse ys = sym (reverse-append xs (a ∷ [])) ∙ ap reverse e ∙ reverse-append ys (b ∷ []) in
    cc

last_of_all : (P : ℕ → Type 0) (rest : List ℕ) (b : ℕ) → AllByRecursion P (rest ++ b ∷ []) → P b
last_of_all P [] b h = h.0
last_of_all P (x ∷ rest) b h = last_of_all P rest b h.1

-- bytes that are no blanks neither begin nor end with one
full_bare : (text : List ℕ) → AllByRecursion (λ b. is_blank b ≡ false) text → IsBare text
full_bare text h = record {
  front = λ b rest e. let r = subst (AllByRecursion (λ b. is_blank b ≡ false)) e h in r.0;
  back = λ rest b e. last_of_all (λ b. is_blank b ≡ false) rest b (subst (AllByRecursion (λ b. is_blank b ≡ false)) e h);
}

by_byte : (c b : ℕ) → is_bad_byte b ≡ false → is_bad_byte c ≡ true → (eqb b c ≡ false)
by_byte c b h k = by (eqb b c) refl
  where
    by : (v : Bool) → eqb b c ≡ v → v ≡ false
    by true e = absurd (true≢false (sym k ∙ sym (ap is_bad_byte (eqb-true b c e)) ∙ h))
    by false e = refl

byte_full : (b : ℕ) → is_bad_byte b ≡ false → is_blank b ≡ false
byte_full b h =
    ap (λ v. v || eqb b 13) (by_byte 32 b h refl) ∙ by_byte 13 b h refl

dist_full : (d : List ℕ) → AllByRecursion (λ b. is_bad_byte b ≡ false) d → AllByRecursion (λ b. is_blank b ≡ false) d
dist_full [] h = tt
dist_full (b ∷ d) h = (byte_full b h.0, dist_full d h.1)

dist_plain : (d : List ℕ) → AllByRecursion (λ b. is_bad_byte b ≡ false) d → AllByRecursion (λ b. is_byte 10 b ≡ false) d
dist_plain [] h = tt
dist_plain (b ∷ d) h = (by_byte 10 b h.0 refl, dist_plain d h.1)

front_not : (c : ℕ) (d : List ℕ) → begins_badly d ≡ false → is_bad_front c ≡ true → begins_with c d ≡ false
front_not c [] h k = refl
front_not c (b ∷ d) h k = by (eqb b c) refl
  where
    by : (v : Bool) → eqb b c ≡ v → v ≡ false
    by true e = absurd (true≢false (sym k ∙ sym (ap is_bad_front (eqb-true b c e)) ∙ h))
    by false e = refl

-- ---- it says what it is

whole_line : (text : List ℕ) → text ≡ [] ++ (text ++ [])
whole_line text = sym (append-nil text)

names_itself : (d : List ℕ) → IsDist d → NamesDist d d
names_itself d r = record { file = d; channel = inl refl; ending = inl refl; rule = r }

unsigned : (d : List ℕ) → IsDist d → IsUnsigned d
unsigned d r = record {
  no_comment = front_not 35 d r.front refl;
  no_minus = front_not 45 d r.front refl;
  no_plus = front_not 43 d r.front refl;
  no_header = λ middle e. true≢false (sym (ap begins_badly e) ∙ r.front);
}

digits_ascii : (n : ℕ) → n ≤ 79 → 48 + n < 128
digits_ascii n h = omega arith

ascii_at : (text : List ℕ) → AllByRecursion (λ b. b < 128) text → (i : ℕ) → get_or text i 0 < 128
ascii_at [] h i = lit< tt
ascii_at (x ∷ xs) h zero = h.0
ascii_at (x ∷ xs) h (suc i) = ascii_at xs h.1 i

ascii_utf8 : (text : List ℕ) → AllByRecursion (λ b. b < 128) text → IsUtf8 text
ascii_utf8 text h = IsUtf8-from_ascii text (ascii_at text h)

header_utf8 : (s : Stamp) → Exists s → IsUtf8 (header_text s)
header_utf8 s e =
    let h = short_of s e in
    let yy : s.year / 100 / 10 ≤ 79 = omega (arith, h.year) in
    let yc : s.year / 100 % 10 ≤ 79 = omega arith in
    let yt : s.year % 100 / 10 ≤ 79 = omega arith in
    let yo : s.year % 100 % 10 ≤ 79 = omega arith in
    let mt : s.month / 10 ≤ 79 = omega (arith, h.month) in
    let dt : s.day / 10 ≤ 79 = omega (arith, h.day) in
    let ht : s.hour / 10 ≤ 79 = omega (arith, h.hour) in
    let nt : s.minute / 10 ≤ 79 = omega (arith, h.minute) in
    let st : s.second / 10 ≤ 79 = omega (arith, h.second) in
    ascii_utf8 (header_text s) (
      omega arith,
      (
        omega arith,
        (
          omega arith,
          (
            omega arith,
            (
              digits_ascii _ yy,
              (
                digits_ascii _ yc,
                (
                  digits_ascii _ yt,
                  (
                    digits_ascii _ yo,
                    (
                      omega arith,
                      (
                        digits_ascii _ mt,
                        (
                          omega arith,
                          (
                            omega arith,
                            (
                              digits_ascii _ dt,
                              (
                                omega arith,
                                (
                                  omega arith,
                                  (
                                    digits_ascii _ ht,
                                    (
                                      omega arith,
                                      (
                                        omega arith,
                                        (
                                          digits_ascii _ nt,
                                          (
                                            omega arith,
                                            (
                                              omega arith,
                                              (
                                                digits_ascii _ st,
                                                (
                                                  omega arith,
                                                  (omega arith, (omega arith, (omega arith, (omega arith, tt)))),
                                                ),
                                              ),
                                            ),
                                          ),
                                        ),
                                      ),
                                    ),
                                  ),
                                ),
                              ),
                            ),
                          ),
                        ),
                      ),
                    ),
                  ),
                ),
              ),
            ),
          ),
        ),
      ),
    )

header_bare : (s : Stamp) → IsBare (header_text s)
header_bare s = record {
  front = λ b rest e. let same : 61 ≡ b = cc in ap is_blank (sym same);
  back = λ rest b e.
      let ends : header_text s ≡ (codes "==> " ++ (moment_text s ++ codes " <=")) ++ 61 ∷ [] = refl in
      let same : 61 ≡ b = last_same (codes "==> " ++ (moment_text s ++ codes " <=")) rest 61 b (sym ends ∙ e) in
      ap is_blank (sym same);
}

shown_means : (l : Line) → IsShown l → Means (line_text l) l
unfolding IsShown
shown_means Nothing h = record {
  utf8 = IsUtf8-nil;
  text = [];
  stripped = record { front = []; back = []; whole = refl; blank_front = refl; blank_back = refl; bare = full_bare [] tt };
  says = inl refl;
}
shown_means (Header s) h = record {
  utf8 = header_utf8 s h;
  text = header_text s;
  stripped = record { front = []; back = []; whole = whole_line (header_text s); blank_front = refl; blank_back = refl; bare = header_bare s };
  says = record { front = 32 ∷ []; back = 32 ∷ []; whole = refl; spaces_front = refl; spaces_back = refl; moment = h };
}
shown_means (Removed d) h = record {
  utf8 = IsUtf8-append (45 ∷ []) d (ascii_utf8 (45 ∷ []) (lit< tt, tt)) h.1;
  text = 45 ∷ d;
  stripped = record { front = []; back = []; whole = whole_line (45 ∷ d); blank_front = refl; blank_back = refl; bare = full_bare (45 ∷ d) (refl, dist_full d h.0.bytes) };
  says = (d, refl, names_itself d h.0);
}
shown_means (Added d) h = record {
  utf8 = IsUtf8-append (43 ∷ []) d (ascii_utf8 (43 ∷ []) (lit< tt, tt)) h.1;
  text = 43 ∷ d;
  stripped = record { front = []; back = []; whole = whole_line (43 ∷ d); blank_front = refl; blank_back = refl; bare = full_bare (43 ∷ d) (refl, dist_full d h.0.bytes) };
  says = (d, refl, names_itself d h.0);
}
shown_means (Plain d) h = record {
  utf8 = h.1;
  text = d;
  stripped = record { front = []; back = []; whole = whole_line d; blank_front = refl; blank_back = refl; bare = full_bare d (dist_full d h.0.bytes) };
  says = (unsigned d h.0, names_itself d h.0);
}

-- ---- its line in the text

digit_plain : (n : ℕ) → is_byte 10 (48 + n) ≡ false
digit_plain n = by (eqb (48 + n) 10) refl
  where
    by : (v : Bool) → eqb (48 + n) 10 ≡ v → v ≡ false
    by true e = absurd (omega (arith, eqb-true (48 + n) 10 e))
    by false e = refl

header_plain : (s : Stamp) → AllByRecursion (λ b. is_byte 10 b ≡ false) (header_text s)
header_plain s = (
  refl,
  (
    refl,
    (
      refl,
      (
        refl,
        (
          digit_plain _,
          (
            digit_plain _,
            (
              digit_plain _,
              (
                digit_plain _,
                (
                  refl,
                  (
                    digit_plain _,
                    (
                      digit_plain _,
                      (
                        refl,
                        (
                          digit_plain _,
                          (
                            digit_plain _,
                            (
                              refl,
                              (
                                digit_plain _,
                                (
                                  digit_plain _,
                                  (
                                    refl,
                                    (
                                      digit_plain _,
                                      (
                                        digit_plain _,
                                        (
                                          refl,
                                          (
                                            digit_plain _,
                                            (
                                              digit_plain _,
                                              (refl, (refl, (refl, (refl, tt)))),
                                            ),
                                          ),
                                        ),
                                      ),
                                    ),
                                  ),
                                ),
                              ),
                            ),
                          ),
                        ),
                      ),
                    ),
                  ),
                ),
              ),
            ),
          ),
        ),
      ),
    ),
  ),
)

line_plain : (l : Line) → IsShown l → AllByRecursion (λ b. is_byte 10 b ≡ false) (line_text l)
unfolding IsShown
line_plain Nothing h = tt
line_plain (Header s) h = header_plain s
line_plain (Removed d) h = (refl, dist_plain d h.0.bytes)
line_plain (Added d) h = (refl, dist_plain d h.0.bytes)
line_plain (Plain d) h = dist_plain d h.0.bytes

abbrev lines_text : List Line → List ℕ
lines_text ls = flat_map (λ l. ended (line_text l)) ls

pieces : (ls : List Line) → AllByRecursion IsShown ls → lines_of (lines_text ls) ≡ map line_text ls ++ [] ∷ []
pieces [] h = refl
pieces (l ∷ ls) h =
    ap lines_of (append_assoc (line_text l) (10 ∷ []) (lines_text ls))
    ∙ slice_split_at (is_byte 10) (line_text l) 10 (lines_text ls) (All-from_recursion (λ b. is_byte 10 b ≡ false) (line_text l) (line_plain l h.0)) refl
    ∙ ap (λ r. line_text l ∷ r) (pieces ls h.1)

are_lines : (ls : List Line) → AllByRecursion IsShown ls → AreLines (map line_text ls ++ [] ∷ []) (ls ++ Nothing ∷ [])
unfolding IsShown
are_lines [] h = (shown_means Nothing tt, tt)
are_lines (l ∷ ls) h = (shown_means l h.0, are_lines ls h.1)

-- ---- the text is that of the lines

maps_text : (g : List ℕ → Line) (f : List ℕ → List ℕ) → ((d : List ℕ) → ended (line_text (g d)) ≡ f d) → (ds : List (List ℕ))
    → lines_text (map g ds) ≡ flat_map f ds
maps_text g f e [] = refl
maps_text g f e (d ∷ ds) = ap (λ t. t ++ lines_text (map g ds)) (e d) ∙ ap (λ t. f d ++ t) (maps_text g f e ds)

dists_of : (b : Block) → lines_text (entries b) ≡ dists_text b
dists_of b = by b.whole
  where
    by : (v : Bool) → lines_text (cond v (map Plain b.added) (map Removed b.removed ++ map Added b.added))
        ≡ cond v (flat_map ended b.added) (flat_map removed_line b.removed ++ flat_map added_line b.added)
    by true = maps_text Plain ended (λ d. refl) b.added
    by false =
        flat_map-append (λ l. ended (line_text l)) (map Removed b.removed) (map Added b.added)
        ∙ ap (λ t. t ++ lines_text (map Added b.added)) (maps_text Removed removed_line (λ d. refl) b.removed)
        ∙ ap (λ t. flat_map removed_line b.removed ++ t) (maps_text Added added_line (λ d. refl) b.added)

text_lines : (bs : List Block) → history_text bs ≡ lines_text (flat_map block_lines bs)
text_lines [] = refl
text_lines (b ∷ bs) =
    ap (λ t. (ended (header_text b.stamp) ++ t) ++ history_text bs) (sym (dists_of b))
    ∙ ap (λ t. lines_text (block_lines b) ++ t) (text_lines bs)
    ∙ sym (flat_map-append (λ l. ended (line_text l)) (block_lines b) (flat_map block_lines bs))

-- ---- what a block's lines name

removed_names : (n : Names) (ds : List (List ℕ)) → (names_after n (map Removed ds)).removed ≡ with_all n.removed ds
removed_names n [] = refl
removed_names n (d ∷ ds) = removed_names (named n (Removed d)) ds

removed_added : (n : Names) (ds : List (List ℕ)) → (names_after n (map Removed ds)).added ≡ without_all n.added ds
removed_added n [] = refl
removed_added n (d ∷ ds) = removed_added (named n (Removed d)) ds

added_names : (n : Names) (ds : List (List ℕ)) → (names_after n (map Added ds)).added ≡ with_all n.added ds
added_names n [] = refl
added_names n (d ∷ ds) = added_names (named n (Added d)) ds

added_removed : (n : Names) (ds : List (List ℕ)) → (names_after n (map Added ds)).removed ≡ without_all n.removed ds
added_removed n [] = refl
added_removed n (d ∷ ds) = added_removed (named n (Added d)) ds

plain_names : (n : Names) (ds : List (List ℕ)) → (names_after n (map Plain ds)).plain ≡ with_all n.plain ds
plain_names n [] = refl
plain_names n (d ∷ ds) = plain_names (named n (Plain d)) ds

names_both : (n : Names) (ls ms : List Line) → names_after n (ls ++ ms) ≡ names_after (names_after n ls) ms
names_both n [] ms = refl
names_both n (l ∷ ls) ms = names_both (named n l) ls ms

nothing_out : (ds : List (List ℕ)) → without_all [] ds ≡ []
nothing_out [] = refl
nothing_out (d ∷ ds) = nothing_out ds

-- an ascending list put into nothing is that list
all_put : (ds : List (List ℕ)) → Sorted ds → with_all [] ds ≡ ds
all_put ds s =
    same_members (with_all [] ds) ds (sorted_with ds [] empty_sorted) s
    (λ d i. by d (in_with d ds [] i)) (λ d i. with_in d ds [] (inl i))
  where
    by : (d : List ℕ) → IsIn d ds ⊎ IsIn d [] → IsIn d ds
    by d (inl i) = i
    by d (inr i) = absurd i

-- nothing is taken out that isn't there
none_out : (set ds : List (List ℕ)) → Sorted set → ((d : List ℕ) → IsIn d set → IsIn d ds → ⊥) → without_all set ds ≡ set
none_out set ds s apart =
    same_members (without_all set ds) set (sorted_without ds set s) s
    (λ d i. let r = in_without d ds set s i in r.0) (λ d i. without_in d ds set i (apart d i))

no_signs : (g : List ℕ → Line) (p : Line → Bool) → ((d : List ℕ) → p (g d) ≡ false) → (ds : List (List ℕ)) → list_any p (map g ds) ≡ false
no_signs g p h [] = refl
no_signs g p h (d ∷ ds) = ap (λ v. v || list_any p (map g ds)) (h d) ∙ no_signs g p h ds

any_both : (p : Line → Bool) (ls ms : List Line) → list_any p ls ≡ false → list_any p ms ≡ false → list_any p (ls ++ ms) ≡ false
any_both p [] ms h k = k
any_both p (l ∷ ls) ms h k = by (p l) refl h (any_both p ls ms)
  where
    by : (v : Bool) → p l ≡ v → v || list_any p ls ≡ false → (list_any p ls ≡ false → list_any p ms ≡ false → list_any p (ls ++ ms) ≡ false) → p l || list_any p (ls ++ ms) ≡ false
    by true e g f = absurd (true≢false g)
    by false e g f = ap (λ w. w || list_any p (ls ++ ms)) e ∙ f g k

and_false : (v : Bool) → v && false ≡ false
and_false true = refl
and_false false = refl

any_plain : (ds : List (List ℕ)) → ds ≢ [] → list_any is_plain (map Plain ds) ≡ true
any_plain [] h = absurd (h refl)
any_plain (d ∷ ds) h = refl

block_back : (b : Block) → IsBlock b → block_of b.stamp (names_after no_names (entries b)) ≡ b
block_back b h = by b.whole refl
  where
    whole : List Line
    whole = map Plain b.added

    signs : List Line
    signs = map Removed b.removed ++ map Added b.added

    are_one : b.whole ≡ true → are_whole (names_after no_names whole) ≡ true
    are_one e =
        whole_after whole
        ∙ ap (λ v. not v && list_any is_plain whole) (no_signs Plain is_signed (λ d. refl) b.added)
        ∙ any_plain b.added (h.whole_added e)

    are_none : are_whole (names_after no_names signs) ≡ false
    are_none =
        whole_after signs
        ∙ ap (λ v. not (list_any is_signed signs) && v)
        (any_both is_plain (map Removed b.removed) (map Added b.added) (no_signs Removed is_plain (λ d. refl) b.removed) (no_signs Added is_plain (λ d. refl) b.added))
        ∙ and_false (not (list_any is_signed signs))

    first : Names
    first = names_after no_names (map Removed b.removed)

    removed : (names_after no_names signs).removed ≡ b.removed
    removed =
        ap (λ (n : Names). n.removed) (names_both no_names (map Removed b.removed) (map Added b.added))
        ∙ added_removed first b.added
        ∙ ap (λ r. without_all r b.added) (removed_names no_names b.removed ∙ all_put b.removed (sorted_ascend b.removed h.removed_ascend))
        ∙ none_out b.removed b.added (sorted_ascend b.removed h.removed_ascend) h.apart

    added : (names_after no_names signs).added ≡ b.added
    added =
        ap (λ (n : Names). n.added) (names_both no_names (map Removed b.removed) (map Added b.added))
        ∙ added_names first b.added
        ∙ ap (λ r. with_all r b.added) (removed_added no_names b.removed ∙ nothing_out b.removed)
        ∙ all_put b.added (sorted_ascend b.added h.added_ascend)

    plain : (names_after no_names whole).plain ≡ b.added
    plain = plain_names no_names b.added ∙ all_put b.added (sorted_ascend b.added h.added_ascend)

    by : (v : Bool) → b.whole ≡ v → block_of b.stamp (names_after no_names (cond v whole signs)) ≡ b
    by true e =
        ap (λ v. cond v (record { stamp = b.stamp; removed = []; added = (names_after no_names whole).plain; whole = true })
        (record { stamp = b.stamp; removed = (names_after no_names whole).removed; added = (names_after no_names whole).added; whole = false })) (are_one e)
        ∙ block_same (record { stamp = b.stamp; removed = []; added = (names_after no_names whole).plain; whole = true }) b refl (sym (h.whole_removed e)) plain (sym e)
    by false e =
        ap (λ v. cond v (record { stamp = b.stamp; removed = []; added = (names_after no_names signs).plain; whole = true })
        (record { stamp = b.stamp; removed = (names_after no_names signs).removed; added = (names_after no_names signs).added; whole = false })) are_none
        ∙ block_same (record { stamp = b.stamp; removed = (names_after no_names signs).removed; added = (names_after no_names signs).added; whole = false }) b refl removed added (sym e)

-- ---- the lines are read as the blocks

abbrev opened : List Block → Open → Reading
opened d o = record { done = d; current = Some o }

run_body : (d : List Block) (o : Open) (body : List Line) → list_any is_header body ≡ false
    → run (opened d o) body ≡ Some (opened d (record { stamp = o.stamp; names = names_after o.names body }))
run_body d o [] h = refl
run_body d o (Nothing ∷ body) h = run_body d o body h
run_body d o (Header s ∷ body) h = absurd (true≢false h)
run_body d o (Removed k ∷ body) h = run_body d (open_with o (Removed k)) body h
run_body d o (Added k ∷ body) h = run_body d (open_with o (Added k)) body h
run_body d o (Plain k ∷ body) h = run_body d (open_with o (Plain k)) body h

no_header : (b : Block) → list_any is_header (entries b) ≡ false
no_header b = by b.whole
  where
    by : (v : Bool) → list_any is_header (cond v (map Plain b.added) (map Removed b.removed ++ map Added b.added)) ≡ false
    by true = no_signs Plain is_header (λ d. refl) b.added
    by false =
        any_both is_header (map Removed b.removed) (map Added b.added) (no_signs Removed is_header (λ d. refl) b.removed) (no_signs Added is_header (λ d. refl) b.added)

record Ends (r : Reading) (ls : List Line) (blocks : List Block) : Type 0 where
  last : Reading
  runs : run r ls ≡ Some last
  closes : closed last ≡ blocks

run_all : (r : Reading) (bs : List Block) → AllByRecursion IsBlock bs → Ends r (flat_map block_lines bs) (closed r ++ bs)
run_all r [] h = record { last = r; runs = refl; closes = sym (append-nil (closed r)) }
run_all r (b ∷ bs) h =
    let next = opened (closed r) (record { stamp = b.stamp; names = names_after no_names (entries b) }) in
    let more = run_all next bs h.1 in
    record {
      last = more.last;
      runs =
          run_append r (block_lines b) (flat_map block_lines bs) next
          (run_body (closed r) (record { stamp = b.stamp; names = no_names }) (entries b) (no_header b))
          ∙ more.runs;
      closes =
          more.closes ∙ append_assoc (closed r) (block_of b.stamp (names_after no_names (entries b)) ∷ []) bs
          ∙ ap (λ x. closed r ++ x ∷ bs) (block_back b h.0);
    }

-- ---- all of it

both_all : {X : Type 0} (P : X → Type 0) (xs ys : List X) → AllByRecursion P xs → AllByRecursion P ys → AllByRecursion P (xs ++ ys)
both_all P [] ys p q = q
both_all P (x ∷ xs) ys p q = (p.0, both_all P xs ys p.1 q)

front_all : {X : Type 0} (P : X → Type 0) (xs ys : List X) → AllByRecursion P (xs ++ ys) → AllByRecursion P xs × AllByRecursion P ys
front_all P [] ys h = (tt, h)
front_all P (x ∷ xs) ys h = let r = front_all P xs ys h.1 in ((h.0, r.0), r.1)

map_shown : (g : List ℕ → Line) → ((d : List ℕ) → IsDist d → IsUtf8 d → IsShown (g d)) → (ds : List (List ℕ))
    → AllByRecursion IsDist ds → AllByRecursion IsUtf8 ds → AllByRecursion IsShown (map g ds)
map_shown g f [] r u = tt
map_shown g f (d ∷ ds) r u = (f d r.0 u.0, map_shown g f ds r.1 u.1)

block_shown : (b : Block) → IsBlock b → AllByRecursion IsUtf8 (shown b) → AllByRecursion IsShown (block_lines b)
unfolding IsShown
block_shown b h u = (h.stamp, by b.whole u)
  where
    by : (v : Bool) → AllByRecursion IsUtf8 (cond v b.added (b.removed ++ b.added))
        → AllByRecursion IsShown (cond v (map Plain b.added) (map Removed b.removed ++ map Added b.added))
    by true x = map_shown Plain (λ d r y. (r, y)) b.added h.added x
    by false x =
        let parts = front_all IsUtf8 b.removed b.added x in
        both_all IsShown (map Removed b.removed) (map Added b.added)
        (map_shown Removed (λ d r y. (r, y)) b.removed h.removed parts.0) (map_shown Added (λ d r y. (r, y)) b.added h.added parts.1)

blocks_shown : (bs : List Block) → AllByRecursion IsBlock bs → AreTexts bs → AllByRecursion IsShown (flat_map block_lines bs)
blocks_shown [] h u = tt
blocks_shown (b ∷ bs) h u = both_all IsShown (block_lines b) (flat_map block_lines bs) (block_shown b h.0 u.0) (blocks_shown bs h.1 u.1)

pub text_read_back : Rules → (bs : List Block) → AllByRecursion IsBlock bs → AreTexts bs → history_read (history_text bs) ≡ Ok (record { blocks = bs })
text_read_back rules bs h u =
    let ls = flat_map block_lines bs in
    let good = blocks_shown bs h u in
    let all = run_all start bs h in
    let ran : run start (ls ++ Nothing ∷ []) ≡ Some all.last = run_append start ls (Nothing ∷ []) all.last all.runs in
    read_of_text (history_text bs) all.last bs
    (ap (λ t. lines_read 1 start (lines_of t)) (text_lines bs)
    ∙ ap (lines_read 1 start) (pieces ls good)
    ∙ run_lines (line_found rules) (line_read rules) 1 start (map line_text ls ++ [] ∷ []) (ls ++ Nothing ∷ []) all.last (are_lines ls good) ran)
    all.closes
