-- What a reading of items answers, by its items.
use Rattle.std.proofs.Common.{◌≡◌, ℕ, ◌⊎◌, inl, inr, Bool, true, false, List, [], ◌∷◌, ◌++◌, refl}
use Rattle.std.specs.Prelude.{Option, None, Some, Ok, Err, if◌then◌else◌, not, ◌&&◌, ◌||◌, is_none}
use Rattle.conda_base.specs.Reads.{Read, ◌>>=◌, unless}
use Rattle.conda_words.specs.Cut.{given}
use Rattle.conda_words.specs.Reading.{lacks_value, with_any_value, with_item, with_items}
use Rattle.conda_words.specs.Table.{Subcommand, is_kind, repeats}
use Rattle.conda_words.specs.declared.cut.Item.{Item}
use Rattle.conda_words.specs.declared.reading.Reading.{Reading}
use Rattle.conda_words.specs.declared.table.Kind.{Kind}
use Rattle.conda_words.specs.declared.table.Kind.TheVariants as kinds
use Rattle.conda_words.proofs.CutLemmas.{AreWhole, IsWhole}

-- ---- one read after another

pub record BothOk {A B F : Type 0} (m : Read A F) (next : A → Read B F) (y : B) : Type 0 where
  pub value : A
  pub first : m ≡ Ok value
  pub second : next value ≡ Ok y

pub bind_ok : {A B F : Type 0} (m : Read A F) (next : A → Read B F) (y : B) → (m >>= next) ≡ Ok y → BothOk m next y
bind_ok (Ok x) next y h = record { value = x; first = refl; second = h }
bind_ok (Err f) next y h = cc

-- the second read answers a fault
pub record SecondErr {A B F : Type 0} (m : Read A F) (next : A → Read B F) (f : F) : Type 0 where
  pub value : A
  pub first : m ≡ Ok value
  pub second : next value ≡ Err f

err_same : {A B F : Type 0} (g f : F) (m : Read B F) (n : Read A F) → m ≡ Err g → n ≡ Err g → m ≡ Err f → n ≡ Err f
err_same g f m n e d h = cc

pub bind_err : {A B F : Type 0} (m : Read A F) (next : A → Read B F) (f : F) → (m >>= next) ≡ Err f → (m ≡ Err f) ⊎ SecondErr m next f
bind_err (Ok x) next f h = inr (record { value = x; first = refl; second = h })
bind_err (Err g) next f h = inl (err_same g f (Err g) (Err g) refl refl h)

pub unless_ok : {A F : Type 0} (o : Option F) (x y : A) → unless o x ≡ Ok y → (o ≡ None) × (x ≡ y)
unless_ok None x y h = (refl, (cc))
unless_ok (Some f) x y h = cc

pub unless_err : {A F : Type 0} (o : Option F) (x : A) (f : F) → unless o x ≡ Err f → o ≡ Some f
unless_err None x f h = cc
unless_err (Some g) x f h = cc

-- ---- items

not_err : {A F : Type 0} (b : Bool) (f : F) (m : Read A F) (y : A) → (if b then Err f else m) ≡ Ok y → m ≡ Ok y
not_err true f m y h = cc
not_err false f m y h = h

known_value : (sub : Subcommand) (before : List Item) (r next : Reading) (kind : Kind) (at : ℕ) (value : Option (List ℕ))
    → with_any_value sub before r kind at value ≡ Ok next → is_none value ≡ false → is_kind kind kinds.Strange ≡ false
known_value sub before r next kinds.Strange at None h there = cc
known_value sub before r next kinds.Strange at (Some value) h there = cc
known_value sub before r next kinds.Word at value h there = refl
known_value sub before r next kinds.Prefix at value h there = refl
known_value sub before r next kinds.Channel at value h there = refl
known_value sub before r next kinds.ChannelDir at value h there = refl
known_value sub before r next kinds.PkgsDir at value h there = refl
known_value sub before r next kinds.Jobs at value h there = refl
known_value sub before r next kinds.Virtual at value h there = refl
known_value sub before r next kinds.Revision at value h there = refl
known_value sub before r next kinds.Revisions at value h there = refl
known_value sub before r next kinds.Copy at value h there = refl

pub or_false : (a b : Bool) → (a || b) ≡ false → (a ≡ false) × (b ≡ false)
or_false true b h = cc
or_false false b h = (refl, h)

whole_item : (sub : Subcommand) (before : List Item) (r next : Reading) (i : Item) → with_item sub before r i ≡ Ok next
    → is_none i.value ≡ false → IsWhole i
unfolding with_item
whole_item sub before r next i h there = record {
  known = known_value sub before r next i.kind i.value_at i.value
      (not_err (not (repeats sub i.kind) && given i.kind before) _ _ next h) there;
  there = there;
}

pub right_whole : (sub : Subcommand) (before : List Item) (r last : Reading) (is : List Item) → with_items sub before r is ≡ Ok last
    → lacks_value is ≡ false → AreWhole is
right_whole sub before r last [] h there = tt
right_whole sub before r last (i ∷ is) h there =
    let parts = bind_ok (with_item sub before r i) (λ next. with_items sub (before ++ i ∷ []) next is) last h in
    let all = or_false (is_none i.value) (lacks_value is) there in
    (whole_item sub before r parts.value i parts.first all.0, right_whole sub (before ++ i ∷ []) parts.value last is parts.second all.1)
