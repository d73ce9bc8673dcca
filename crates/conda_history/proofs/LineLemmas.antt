-- What a line is read as is what it says, and a line that says something is read as it.
use Rattle.std.proofs.Common.{◌≡◌, ◌≢◌, ◌↔◌, ◌⊎◌, inl, inr, ℕ, ◌+◌, ◌/◌, ◌%◌, Bool, true, false, cond, eqb, List, [], ◌∷◌, ◌++◌, reverse, append_assoc, Option, Some, None, refl, sym, ap, ◌∙◌, arith, subst}
use Rattle.std.specs.Prelude.{IfOk, IsUtf8, Result, codes, is_some, option_and_then, option_map, unwrap_or}
use Rattle.std.specs.List.{AllByRecursion}
use Rattle.std.specs.Str.{is_utf8}
use Rattle.std.proofs.lemmas.Bool.{eqb-true, true≢false}
use Rattle.std.proofs.lemmas.Grind.{reverse_onto}
use Rattle.std.proofs.lemmas.List.{reverse-reverse}
use Rattle.std.proofs.lemmas.Option.{same_Some}
use Rattle.std.proofs.lemmas.Str.{IsUtf8-from_is_utf8, is_utf8-from_IsUtf8}
use Rattle.conda_base.specs.Texts.{IsFreeOf, cut_last}
use Rattle.conda_path.specs.Dists.{IsDist, is_bad_byte, is_dist}
use Rattle.conda_path.specs.Files.{IsFileOf, cut_ending}
use Rattle.conda_history.specs.declared.line.Line.{Line}
use Rattle.conda_history.specs.declared.line.Line.TheVariants.{Nothing, Header, Removed, Added, Plain}
use Rattle.conda_history.specs.declared.stamp.Stamp.{Stamp}
use Rattle.conda_history.specs.Stamps.{moment_text, stamp_of}
use Rattle.conda_history.specs.Lines.{before_mark, before_one, behind_colons, behind_mark, behind_one, dist_of, dist_part, entry_of, file_of, header_of, is_end, line_of, middle_of, named_of, said_of, said_with, says_nothing, without_ends}
use Rattle.conda_history.specs.Says.{IsHeader, IsUnsigned, Means, NamesDist, Says}
use Rattle.conda_history.proofs.EndLemmas.{between, is_last, last_is, one_is, spaces_ends, whole_of}
use Rattle.conda_history.proofs.StampLemmas.{moment_found, moment_read}

-- ---- what the reader of lines is told

pub said_as : {E : Type 0} (r : Result (Option Line) E) (x y : Option Line) → x ≡ y → IfOk r (λ l. l ≡ y) → IfOk r (λ l. l ≡ x)
said_as r x y e h = subst (λ z. IfOk r (λ l. l ≡ z)) (sym e) h

pub entry_minus : (text rest : List ℕ) → behind_one 45 text ≡ Some rest → entry_of text ≡ option_map Removed (dist_of rest)
entry_minus text rest h = ap entry_of (one_is 45 text rest h)

pub entry_plus : (text rest : List ℕ) → behind_one 43 text ≡ Some rest → entry_of text ≡ option_map Added (dist_of rest)
entry_plus text rest h = ap entry_of (one_is 43 text rest h)

pub line_is : (raw text : List ℕ) → text ≡ raw → IsUtf8 raw → line_of raw ≡ said_of (without_ends 13 text)
unfolding line_of
line_is raw text e u = rw (is_utf8-from_IsUtf8 raw u) (ap (λ t. said_of (without_ends 13 t)) (sym e))

pub line_none : (raw : List ℕ) → (IsUtf8 raw → ⊥) → line_of raw ≡ None
unfolding line_of
line_none raw n = by (is_utf8 raw) refl
  where
    by : (v : Bool) → is_utf8 raw ≡ v → cond v (said_of (without_ends 13 raw)) None ≡ None
    by true e = absurd (n (IsUtf8-from_is_utf8 raw e))
    by false e = refl

-- ---- options

map_some : {X Y : Type 0} (f : X → Y) (o : Option X) (y : Y) → option_map f o ≡ Some y → (x : X) × (o ≡ Some x) × (f x ≡ y)
map_some f (Some x) y h = (x, refl, cc)
map_some f None y h = cc

then_some : {X Y : Type 0} (f : X → Option Y) (o : Option X) (y : Y) → option_and_then f o ≡ Some y → (x : X) × (o ≡ Some x) × (f x ≡ Some y)
then_some f (Some x) y h = (x, refl, h)
then_some f None y h = cc

-- ---- the marks of a header line

mark_is : (text rest : List ℕ) → behind_mark text ≡ Some rest → text ≡ codes "==>" ++ rest
mark_is text rest h =
    let third = then_some (behind_one 62) (option_and_then (behind_one 61) (behind_one 61 text)) rest h in
    let second = then_some (behind_one 61) (behind_one 61 text) third.0 third.1 in
    one_is 61 text second.0 second.1
    ∙ ap (λ r. 61 ∷ r) (one_is 61 second.0 third.0 second.2)
    ∙ ap (λ r. 61 ∷ 61 ∷ r) (one_is 62 third.0 rest third.2)

end_is : (text front : List ℕ) → before_mark text ≡ Some front → text ≡ front ++ codes "<=="
end_is text front h =
    let third = then_some (before_one 60) (option_and_then (before_one 61) (before_one 61 text)) front h in
    let second = then_some (before_one 61) (before_one 61 text) third.0 third.1 in
    last_is 61 text second.0 second.1
    ∙ ap (λ r. r ++ (61 ∷ [])) (last_is 61 second.0 third.0 second.2 ∙ ap (λ r. r ++ (61 ∷ [])) (last_is 60 third.0 front third.2))
    ∙ append_assoc (front ++ (60 ∷ [])) (61 ∷ []) (61 ∷ [])
    ∙ append_assoc front (60 ∷ []) (61 ∷ 61 ∷ [])

is_end_mark : (front : List ℕ) → before_mark (front ++ codes "<==") ≡ Some front
is_end_mark front =
    let one : before_one 61 (front ++ codes "<==") ≡ Some ((front ++ (60 ∷ [])) ++ (61 ∷ [])) =
    is_last 61 (front ++ codes "<==") ((front ++ (60 ∷ [])) ++ (61 ∷ []))
    (sym (append_assoc (front ++ (60 ∷ [])) (61 ∷ []) (61 ∷ []) ∙ append_assoc front (60 ∷ []) (61 ∷ 61 ∷ []))) in
    let two : before_one 61 ((front ++ (60 ∷ [])) ++ (61 ∷ [])) ≡ Some (front ++ (60 ∷ [])) = is_last 61 ((front ++ (60 ∷ [])) ++ (61 ∷ [])) (front ++ (60 ∷ [])) refl in
    let three : before_one 60 (front ++ (60 ∷ [])) ≡ Some front = is_last 60 (front ++ (60 ∷ [])) front refl in
    ap (λ o. option_and_then (before_one 60) (option_and_then (before_one 61) o)) one
    ∙ ap (option_and_then (before_one 60)) two ∙ three

middle_is : (text middle : List ℕ) → middle_of text ≡ Some middle → text ≡ codes "==>" ++ (middle ++ codes "<==")
middle_is text middle h =
    let parts = then_some before_mark (behind_mark text) middle h in
    mark_is text parts.0 parts.1 ∙ ap (λ r. codes "==>" ++ r) (end_is parts.0 middle parts.2)

is_middle : (text middle : List ℕ) → text ≡ codes "==>" ++ (middle ++ codes "<==") → middle_of text ≡ Some middle
is_middle text middle e = ap middle_of e ∙ is_end_mark middle

no_middle : (text : List ℕ) → ((middle : List ℕ) → text ≢ codes "==>" ++ (middle ++ codes "<==")) → middle_of text ≡ None
no_middle text n = by (middle_of text) refl
  where
    by : (o : Option (List ℕ)) → middle_of text ≡ o → o ≡ None
    by None e = refl
    by (Some middle) e = absurd (n middle (middle_is text middle e))

-- ---- a dist in a line

-- what conda_path and conda_base say of dists, endings and cuts
pub record Rules : Type 0 where
  pub dist : (text : List ℕ) → (is_dist text ≡ true) ↔ IsDist text
  pub ending : (file stem : List ℕ) → (cut_ending file ≡ Some stem) ↔ IsFileOf file stem
  pub cut : (mark : ℕ) (text before behind : List ℕ) → (cut_last mark text ≡ Some (before, behind)) ↔ ((text ≡ before ++ mark ∷ behind) × IsFreeOf mark behind)
  pub uncut : (mark : ℕ) (text : List ℕ) → (cut_last mark text ≡ None) ↔ IsFreeOf mark text

good_byte : (b : ℕ) → is_bad_byte b ≡ false → (eqb b 58) ≡ false
good_byte b h = by (eqb b 58) refl
  where
    by : (v : Bool) → eqb b 58 ≡ v → v ≡ false
    by true e = absurd (true≢false (sym (ap is_bad_byte (eqb-true b 58 e)) ∙ h))
    by false e = refl

free_dist : (d : List ℕ) → AllByRecursion (λ b. is_bad_byte b ≡ false) d → IsFreeOf 58 d
free_dist [] h = tt
free_dist (b ∷ d) h = (good_byte b h.0, free_dist d h.1)

both_free : (x y : List ℕ) → IsFreeOf 58 x → IsFreeOf 58 y → IsFreeOf 58 (x ++ y)
both_free [] y p q = q
both_free (b ∷ x) y p q = (p.0, both_free x y p.1 q)

free_file : (file d : List ℕ) → IsDist d → (file ≡ d) ⊎ IsFileOf file d → IsFreeOf 58 file
free_file file d r (inl e) = subst (IsFreeOf 58) (sym e) (free_dist d r.bytes)
free_file file d r (inr (inl e)) =
    subst (IsFreeOf 58) (sym e) (both_free d (codes ".tar.bz2") (free_dist d r.bytes) (refl, (refl, (refl, (refl, (refl, (refl, (refl, (refl, tt)))))))))
free_file file d r (inr (inr e)) =
    subst (IsFreeOf 58) (sym e) (both_free d (codes ".conda") (free_dist d r.bytes) (refl, (refl, (refl, (refl, (refl, (refl, tt)))))))

module _ (rules : Rules) where
  file_channel : (text file : List ℕ) → file_of text ≡ file → (text ≡ file) ⊎ ((channel : List ℕ) × (text ≡ channel ++ (codes "::" ++ file)))
  file_channel text file h = by (cut_last 58 text) refl h
    where
      Q : Type 0
      Q = (text ≡ file) ⊎ ((channel : List ℕ) × (text ≡ channel ++ (codes "::" ++ file)))

      colon : (before behind : List ℕ) → text ≡ before ++ 58 ∷ behind → (o : Option (List ℕ)) → before_one 58 before ≡ o
          → cond (is_some o) behind text ≡ file → Q
      colon before behind e None f g = inl g
      colon before behind e (Some channel) f g =
          inr (
            channel,
            e ∙ ap (λ b. b ++ 58 ∷ behind) (last_is 58 before channel f)
                ∙ append_assoc channel (58 ∷ []) (58 ∷ behind) ∙ ap (λ r. channel ++ 58 ∷ 58 ∷ r) g,
          )

      by : (o : Option (List ℕ × List ℕ)) → cut_last 58 text ≡ o → behind_colons text o ≡ file → Q
      by None e g = inl g
      by (Some halves) e g =
          colon halves.0 halves.1 ((rules.cut 58 text halves.0 halves.1).0 e).0 (before_one 58 halves.0) refl g

  channel_file : (text file : List ℕ) → IsFreeOf 58 file → (text ≡ file) ⊎ ((channel : List ℕ) × (text ≡ channel ++ (codes "::" ++ file)))
      → file_of text ≡ file
  channel_file text file free (inl e) = ap (behind_colons text) (ap (cut_last 58) e ∙ (rules.uncut 58 file).1 free) ∙ e
  channel_file text file free (inr m) =
      let front = m.0 ++ (58 ∷ []) in
      let whole : text ≡ front ++ 58 ∷ file = m.1 ∙ sym (append_assoc m.0 (58 ∷ []) (58 ∷ file)) in
      ap (behind_colons text) ((rules.cut 58 text front file).1 (whole, free))
      ∙ ap (λ o. cond (is_some o) file text) (is_last 58 front m.0 refl)

  names_found : (text d : List ℕ) → dist_of text ≡ Some d → NamesDist text d
  names_found text d h = by (is_dist (dist_part text)) refl h
    where
      ending : (o : Option (List ℕ)) → cut_ending (file_of text) ≡ o → unwrap_or o (file_of text) ≡ d → (file_of text ≡ d) ⊎ IsFileOf (file_of text) d
      ending None e g = inl g
      ending (Some stem) e g = inr ((rules.ending (file_of text) d).0 (e ∙ ap Some g))

      by : (v : Bool) → is_dist (dist_part text) ≡ v → cond v (Some (dist_part text)) None ≡ Some d → NamesDist text d
      by true e g =
          let same : dist_part text ≡ d = same_Some (dist_part text) d g in
          record {
            file = file_of text;
            channel = file_channel text (file_of text) refl;
            ending = ending (cut_ending (file_of text)) refl same;
            rule = subst IsDist same ((rules.dist (dist_part text)).0 e);
          }
      by false e g = cc

  part_of : (file d : List ℕ) → IsDist d → (file ≡ d) ⊎ IsFileOf file d → unwrap_or (cut_ending file) file ≡ d
  part_of file d r (inl e) = ap (λ f. unwrap_or (cut_ending f) f) e ∙ by (cut_ending d) r.no_file
    where
      by : (o : Option (List ℕ)) → is_some o ≡ false → unwrap_or o d ≡ d
      by None e = refl
      by (Some stem) e = absurd (true≢false e)
  part_of file d r (inr e) = ap (λ o. unwrap_or o file) ((rules.ending file d).1 e)

  names_read : (text d : List ℕ) → NamesDist text d → dist_of text ≡ Some d
  names_read text d m =
      let file : file_of text ≡ m.file = channel_file text m.file (free_file m.file d m.rule m.ending) m.channel in
      let part : dist_part text ≡ d = ap (λ f. unwrap_or (cut_ending f) f) file ∙ part_of m.file d m.rule m.ending in
      ap (λ p. cond (is_dist p) (Some p) None) part ∙ ap (λ v. cond v (Some d) None) ((rules.dist d).1 m.rule)

  -- ---- a line between its blanks

  entry_found : (text : List ℕ) (l : Line) → says_nothing text ≡ false → ((middle : List ℕ) → text ≢ codes "==>" ++ (middle ++ codes "<==")) → entry_of text ≡ Some l → Says text l
  entry_found [] l some none h = cc
  entry_found (b ∷ rest) l some none h = by (eqb b 45) refl (eqb b 43) refl h
    where
      removed : b ≡ 45 → option_map Removed (dist_of rest) ≡ Some l → Says (b ∷ rest) l
      removed e g =
          let m = map_some Removed (dist_of rest) l g in
          subst (Says (b ∷ rest)) m.2 (rest, ap (λ n. n ∷ rest) e, names_found rest m.0 m.1)

      added : b ≡ 43 → option_map Added (dist_of rest) ≡ Some l → Says (b ∷ rest) l
      added e g =
          let m = map_some Added (dist_of rest) l g in
          subst (Says (b ∷ rest)) m.2 (rest, ap (λ n. n ∷ rest) e, names_found rest m.0 m.1)

      plain : eqb b 45 ≡ false → eqb b 43 ≡ false → option_map Plain (dist_of (b ∷ rest)) ≡ Some l → Says (b ∷ rest) l
      plain e f g =
          let m = map_some Plain (dist_of (b ∷ rest)) l g in
          subst (Says (b ∷ rest)) m.2 (record { no_comment = some; no_minus = e; no_plus = f; no_header = none }, names_found (b ∷ rest) m.0 m.1)

      by : (v : Bool) → eqb b 45 ≡ v → (w : Bool) → eqb b 43 ≡ w
          → cond v (option_map Removed (dist_of rest)) (cond w (option_map Added (dist_of rest)) (option_map Plain (dist_of (b ∷ rest)))) ≡ Some l
          → Says (b ∷ rest) l
      by true e w f g = removed (eqb-true b 45 e) g
      by false e true f g = added (eqb-true b 43 f) g
      by false e false f g = plain e f g

  nothing_found : (text : List ℕ) → says_nothing text ≡ true → (text ≡ []) ⊎ ((rest : List ℕ) × (text ≡ 35 ∷ rest))
  nothing_found [] h = inl refl
  nothing_found (b ∷ rest) h = inr (rest, ap (λ n. n ∷ rest) (eqb-true b 35 h))

  header_found : (text middle : List ℕ) (l : Line) → text ≡ codes "==>" ++ (middle ++ codes "<==") → header_of middle ≡ Some l → Says text l
  header_found text middle l e h =
      let m = map_some Header (stamp_of (without_ends 32 middle)) l h in
      let w = whole_of 32 middle in
      let f = moment_found (without_ends 32 middle) m.0 m.1 in
      subst (Says text) m.2 (record {
        front = w.front;
        back = w.back;
        whole = e ∙ ap (λ x. codes "==>" ++ (x ++ codes "<==")) (w.whole ∙ ap (λ x. w.front ++ (x ++ w.back)) f.0);
        spaces_front = sym (spaces_ends w.front) ∙ w.all_front;
        spaces_back = sym (spaces_ends w.back) ∙ w.all_back;
        moment = f.1;
      })

  said_found : (text : List ℕ) (l : Line) → said_of text ≡ Some l → Says text l
  said_found text l h = by (middle_of text) refl h
    where
      nothing : (v : Bool) → says_nothing text ≡ v → middle_of text ≡ None → cond v (Some Nothing) (entry_of text) ≡ Some l → Says text l
      nothing true e f g = subst (Says text) (same_Some Nothing l g) (nothing_found text e)
      nothing false e f g =
          entry_found text l e (λ middle q. let r : None ≡ Some middle = sym f ∙ is_middle text middle q in cc) g

      by : (o : Option (List ℕ)) → middle_of text ≡ o → said_with text o ≡ Some l → Says text l
      by None e g = nothing (says_nothing text) refl e g
      by (Some middle) e g = header_found text middle l (middle_is text middle e) g

  -- a moment's text begins and ends with a digit
  digit_no_end : (n : ℕ) → is_end 32 (48 + n) ≡ false
  digit_no_end n = by (eqb (48 + n) 32) refl
    where
      by : (v : Bool) → eqb (48 + n) 32 ≡ v → is_end 32 (48 + n) ≡ false
      by true e = absurd (omega (arith, eqb-true (48 + n) 32 e))
      by false e = rw e refl

  header_said : (text : List ℕ) (s : Stamp) → IsHeader text s → said_of text ≡ Some (Header s)
  header_said text s m =
      let middle = m.front ++ (moment_text s ++ m.back) in
      let inner : without_ends 32 middle ≡ moment_text s =
      between 32 m.front (moment_text s) m.back (spaces_ends m.front ∙ m.spaces_front) (spaces_ends m.back ∙ m.spaces_back)
      (λ b rest e. let same : 48 + s.year / 100 / 10 ≡ b = cc in ap (is_end 32) (sym same) ∙ digit_no_end (s.year / 100 / 10))
      (λ b rest e. let same : 48 + s.second % 10 ≡ b = cc in ap (is_end 32) (sym same) ∙ digit_no_end (s.second % 10)) in
      ap (said_with text) (is_middle text middle m.whole)
      ∙ ap (option_map Header) (ap stamp_of inner ∙ moment_read s m.moment)

  plain_said : (text d : List ℕ) → IsUnsigned text → NamesDist text d → named_of text ≡ Some (Plain d)
  plain_said [] d u m = let e : dist_of [] ≡ Some d = names_read [] d m in let f : None ≡ Some d = e in cc
  plain_said (b ∷ rest) d u m = rw (u.no_comment, u.no_minus, u.no_plus) (ap (option_map Plain) (names_read (b ∷ rest) d m))

  says_read : (text : List ℕ) (l : Line) → Says text l → said_of text ≡ Some l
  says_read text Nothing (inl e) = ap said_of e
  says_read text Nothing (inr m) = ap said_of m.1
  says_read text (Header s) m = header_said text s m
  says_read text (Removed d) m = ap said_of m.1 ∙ ap (option_map Removed) (names_read m.0 d m.2)
  says_read text (Added d) m = ap said_of m.1 ∙ ap (option_map Added) (names_read m.0 d m.2)
  says_read text (Plain d) m = ap (said_with text) (no_middle text m.0.no_header) ∙ plain_said text d m.0 m.1

  -- ---- a line

  pub line_found : (raw : List ℕ) (l : Line) → line_of raw ≡ Some l → Means raw l
  unfolding line_of
  line_found raw l h = by (is_utf8 raw) refl h
    where
      by : (v : Bool) → is_utf8 raw ≡ v → cond v (said_of (without_ends 13 raw)) None ≡ Some l → Means raw l
      by true e g =
          let w = whole_of 13 raw in
          record {
            utf8 = IsUtf8-from_is_utf8 raw e;
            text = without_ends 13 raw;
            stripped = record {
              front = w.front;
              back = w.back;
              whole = w.whole;
              blank_front = w.all_front;
              blank_back = w.all_back;
              bare = record { front = w.bare_front; back = w.bare_back };
            };
            says = said_found (without_ends 13 raw) l g;
          }
      by false e g = cc

  pub line_read : (raw : List ℕ) (l : Line) → Means raw l → line_of raw ≡ Some l
  line_read raw l m =
      let s = m.stripped in
      let inner : without_ends 13 raw ≡ m.text =
      ap (without_ends 13) s.whole
      ∙ between 13 s.front m.text s.back s.blank_front s.blank_back s.bare.front
      (λ b rest e. s.bare.back (reverse rest) b (turned b rest e)) in
      line_is raw raw refl m.utf8 ∙ ap said_of inner ∙ says_read m.text l m.says
    where
      turned : (b : ℕ) (rest : List ℕ) → reverse m.text ≡ b ∷ rest → m.text ≡ reverse rest ++ (b ∷ [])
      turned b rest e = sym (reverse-reverse m.text) ∙ ap reverse e ∙ reverse_onto rest b []
