-- The brackets of a normal form are brackets of the grammar.
use Rattle.std.proofs.Common.{◌≡◌, ◌<◌, ℕ, subst, Bool, true, false, true≢false, cond, List, [], ◌∷◌, ◌++◌, refl, sym, ap, arith, append_assoc}
use Rattle.std.proofs.lemmas.Bool.Decides.{nat_tests}
use Rattle.std.specs.Cmp.{first_so, second_so}
use Rattle.std.specs.Str.{all_ascii_digits}
use Rattle.std.specs.Prelude.{None, Some, IfSome, Option, codes}
use Rattle.std.specs.Char.{is_ascii_digit}
use Rattle.std.specs.Fmt.{decimal}
use Rattle.conda_base.specs.Signs.{open_bracket}
use Rattle.conda_base.specs.Texts.{IsFreeOf, is_byte}
use Rattle.conda_base.specs.Numbers.{digits_below, has_leading_zero, is_digits}
use Rattle.conda_spec.specs.declared.given.Given.{Given}
use Rattle.conda_spec.specs.Grammar.{IsItem, IsItems}
use Rattle.conda_spec.specs.Grammar.IsItem.{build_number as item_number, subdir as item_subdir}
use Rattle.conda_spec.specs.Grammar.IsItems.{last, more}
use Rattle.conda_spec.specs.Grammar.IsValue.{bare}
use Rattle.conda_spec.specs.Parts.{bars_bare, bars_channel, IsFreeWord, NoneOf, nothing}
use Rattle.conda_spec.specs.Text.{brackets_text}
use Rattle.conda_spec.proofs.LowerLaws.{Laws}
use Rattle.conda_spec.proofs.PieceLemmas.{AllOf, fewer, none_in_both, none_of_all}
use Rattle.conda_spec.proofs.KeptLemmas.{is_space}

-- The digits of a number.

number_reads : (l : Laws) (n : ℕ) → n < 18446744073709551616 → digits_below 18446744073709551616 (decimal n) ≡ Some n
number_reads l n h = by (has_leading_zero (decimal n)) ((l.number 18446744073709551616 (decimal n) n (omega arith)).1 (refl, h))
  where
    by : (k : Bool) → cond k None (digits_below 18446744073709551616 (decimal n)) ≡ Some n
        → digits_below 18446744073709551616 (decimal n) ≡ Some n
    by true e = absurd (cc)
    by false e = e

digits_all : (text : List ℕ) → all_ascii_digits text ≡ true → AllOf is_ascii_digit text
digits_all [] h = tt
digits_all (d ∷ ds) h =
    (first_so (is_ascii_digit d) (all_ascii_digits ds) h, digits_all ds (second_so (is_ascii_digit d) (all_ascii_digits ds) h))

digits_are : (l : Laws) (n : ℕ) → n < 18446744073709551616 → AllOf is_ascii_digit (decimal n)
digits_are l n h = by (decimal n) (((l.digits 18446744073709551616 (decimal n) n).0 (number_reads l n h)).0)
  where
    by : (text : List ℕ) → is_digits text ≡ true → AllOf is_ascii_digit text
    by [] e = absurd (true≢false (sym e))
    by (d ∷ ds) e = digits_all (d ∷ ds) e

-- What stands in brackets.

no_bar_in_digit : (b : ℕ) → is_ascii_digit b ≡ true → bars_bare b ≡ false
no_bar_in_digit b h = grind (arith, nat_tests)

no_bar_in_subdir : (b : ℕ) → bars_channel b ≡ false → bars_bare b ≡ false
no_bar_in_subdir b h = grind (arith, nat_tests)

number_item : (l : Laws) (given : Given) (n : ℕ) → n < 18446744073709551616 → given.number ≡ None
    → IsItem given (codes "build_number=" ++ decimal n) (record given { number = Some n })
number_item l given n h new =
    item_number given (decimal n) (decimal n) n new
    (bare (decimal n) (none_of_all is_ascii_digit bars_bare no_bar_in_digit (decimal n) (digits_are l n h))) (number_reads l n h)

subdir_item : (given : Given) (subdir : List ℕ) → IsFreeWord bars_channel subdir → given.subdir ≡ None
    → IsItem given (codes "subdir=" ++ subdir) (record given { subdir = Some subdir })
subdir_item given subdir h new =
    item_subdir given subdir subdir new (bare subdir (fewer bars_channel bars_bare no_bar_in_subdir subdir h.1)) h

-- there are brackets
abbrev pub HasBrackets : Option ℕ → Option (List ℕ) → Type 0
HasBrackets None None = ⊥
HasBrackets None (Some subdir) = Unit {0}
HasBrackets (Some number) subdir = Unit {0}

-- what stands in the brackets of the normal form
pub inner : Option ℕ → Option (List ℕ) → List ℕ
inner None None = []
inner (Some number) None = codes "build_number=" ++ decimal number
inner None (Some subdir) = codes "subdir=" ++ subdir
inner (Some number) (Some subdir) = (codes "build_number=" ++ decimal number) ++ (44 ∷ (codes "subdir=" ++ subdir))

-- the items give the number and the subdir
pub items_give : (l : Laws) (number : Option ℕ) (subdir : Option (List ℕ)) → HasBrackets number subdir
    → IfSome number (λ n. n < 18446744073709551616) → IfSome subdir (IsFreeWord bars_channel)
    → IsItems nothing (inner number subdir) (record nothing { number = number; subdir = subdir })
unfolding inner
items_give l None None some h k = absurd some
items_give l (Some n) None some h k =
    last nothing (record nothing { number = Some n }) (codes "build_number=" ++ decimal n) (number_item l nothing n h refl)
items_give l None (Some subdir) some h k =
    last nothing (record nothing { subdir = Some subdir }) (codes "subdir=" ++ subdir) (subdir_item nothing subdir k refl)
items_give l (Some n) (Some subdir) some h k =
    let one : Given = record nothing { number = Some n } in
    let both : Given = record nothing { number = Some n; subdir = Some subdir } in
    more nothing one both (codes "build_number=" ++ decimal n) (codes "subdir=" ++ subdir) (number_item l nothing n h refl)
    (last one both (codes "subdir=" ++ subdir) (subdir_item one subdir k refl))

-- Where the brackets begin and end.

-- a character that stands in no brackets of a normal form
pub record IsNotInner (p : ℕ → Bool) : Type 0 where
  pub digit : (b : ℕ) → is_ascii_digit b ≡ true → p b ≡ false
  pub subdir : (b : ℕ) → bars_channel b ≡ false → p b ≡ false
  pub number_key : NoneOf p (codes "build_number=")
  pub subdir_key : NoneOf p (codes "subdir=")
  pub comma : p 44 ≡ false

not_in_number : (l : Laws) (p : ℕ → Bool) → IsNotInner p → (n : ℕ) → n < 18446744073709551616
    → NoneOf p (codes "build_number=" ++ decimal n)
not_in_number l p f n h =
    none_in_both p (codes "build_number=") (decimal n) f.number_key (none_of_all is_ascii_digit p f.digit (decimal n) (digits_are l n h))

not_in_subdir : (p : ℕ → Bool) → IsNotInner p → (subdir : List ℕ) → IsFreeWord bars_channel subdir → NoneOf p (codes "subdir=" ++ subdir)
not_in_subdir p f subdir h = none_in_both p (codes "subdir=") subdir f.subdir_key (fewer bars_channel p f.subdir subdir h.1)

not_inner : (l : Laws) (p : ℕ → Bool) → IsNotInner p → (number : Option ℕ) (subdir : Option (List ℕ))
    → IfSome number (λ n. n < 18446744073709551616) → IfSome subdir (IsFreeWord bars_channel)
    → NoneOf p (inner number subdir)
unfolding inner
not_inner l p f None None h k = tt
not_inner l p f (Some n) None h k = not_in_number l p f n h
not_inner l p f None (Some subdir) h k = not_in_subdir p f subdir k
not_inner l p f (Some n) (Some subdir) h k =
    none_in_both p (codes "build_number=" ++ decimal n) (44 ∷ (codes "subdir=" ++ subdir)) (not_in_number l p f n h)
    (f.comma, not_in_subdir p f subdir k)

opening_not_inner : IsNotInner (is_byte open_bracket)
opening_not_inner = record {
  digit = λ b h. grind (arith, nat_tests);
  subdir = λ b h. grind (arith, nat_tests);
  number_key = (refl, (refl, (refl, (refl, (refl, (refl, (refl, (refl, (refl, (refl, (refl, (refl, (refl, tt)))))))))))));
  subdir_key = (refl, (refl, (refl, (refl, (refl, (refl, (refl, tt)))))));
  comma = refl;
}

space_not_inner : IsNotInner is_space
space_not_inner = record {
  digit = λ b h. grind (arith, nat_tests);
  subdir = λ b h. grind (arith, nat_tests);
  number_key = (refl, (refl, (refl, (refl, (refl, (refl, (refl, (refl, (refl, (refl, (refl, (refl, (refl, tt)))))))))))));
  subdir_key = (refl, (refl, (refl, (refl, (refl, (refl, (refl, tt)))))));
  comma = refl;
}

-- no `[` stands in them
pub no_opening : (l : Laws) (number : Option ℕ) (subdir : Option (List ℕ)) → IfSome number (λ n. n < 18446744073709551616)
    → IfSome subdir (IsFreeWord bars_channel) → IsFreeOf open_bracket (inner number subdir)
no_opening l number subdir h k = not_inner l (is_byte open_bracket) opening_not_inner number subdir h k

-- the brackets hold what stands in them
pub brackets_hold : (number : Option ℕ) (subdir : Option (List ℕ)) → HasBrackets number subdir
    → brackets_text number subdir ≡ 91 ∷ (inner number subdir ++ (93 ∷ []))
unfolding inner
brackets_hold None None some = absurd some
brackets_hold (Some n) None some = refl
brackets_hold None (Some subdir) some = refl
brackets_hold (Some n) (Some subdir) some =
    ap (λ t. codes "[build_number=" ++ t) (sym (append_assoc (decimal n) (codes ",subdir=" ++ subdir) (codes "]")))

spaceless : (l : Laws) (number : Option ℕ) (subdir : Option (List ℕ)) → HasBrackets number subdir
    → IfSome number (λ n. n < 18446744073709551616) → IfSome subdir (IsFreeWord bars_channel)
    → NoneOf is_space (brackets_text number subdir)
spaceless l number subdir some h k =
    subst (NoneOf is_space) (sym (brackets_hold number subdir some))
    (refl, none_in_both is_space (inner number subdir) (93 ∷ []) (not_inner l is_space space_not_inner number subdir h k) (refl, tt))

-- no space stands in the brackets
pub brackets_hold_no_space : (l : Laws) (number : Option ℕ) (subdir : Option (List ℕ)) → IfSome number (λ n. n < 18446744073709551616)
    → IfSome subdir (IsFreeWord bars_channel)
    → NoneOf is_space (brackets_text number subdir)
brackets_hold_no_space l None None h k = tt
brackets_hold_no_space l (Some n) subdir h k = spaceless l (Some n) subdir tt h k
brackets_hold_no_space l None (Some subdir) h k = spaceless l None (Some subdir) tt h k
