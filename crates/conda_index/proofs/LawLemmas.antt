-- What the first channel of a name, its pool and an entry without a star mean.
use Rattle.std.specs.Prelude.{◌≡◌, ◌↔◌, ℕ, ◌||◌, ◌&&◌, Bool, true, false, cond, List, [], ◌∷◌, ◌++◌, Contains, Option, None, Some, find}
use Rattle.std.proofs.Common.{refl, ap, sym, ◌∙◌}
use Rattle.std.proofs.lemmas.Cmp.{nat_list_eq_equiv}
use Rattle.std.proofs.lemmas.List.Elements.{All-from_recursion}
use Rattle.std.specs.List.{AllByRecursion, list_any}
use Rattle.std.specs.Option.{option_map}
use Rattle.conda_base.specs.Signs.{star}
use Rattle.conda_base.specs.Texts.{IsFreeOf, is_byte}
use Rattle.conda_spec.specs.Parts.{Parts}
use Rattle.conda_record.specs.Rules.{HasNoGlob, IsWellFormed}
use Rattle.conda_record.specs.declared.pkg_record.PkgRecord.{PkgRecord}
use Rattle.conda_encode.specs.Variables.{IsPlain}
use Rattle.conda_index.specs.Names.{is_named}
use Rattle.conda_index.specs.Pools.{NamesPlainly, channel_pool, first_channel, is_of}
use Rattle.conda_index.proofs.GatherLemmas.{same_text}
use Rattle.conda_index.proofs.ReachLemmas.{in_filter, of_filter}

module _ (name channel : List ℕ) where
  abbrev pub Split : List PkgRecord → Type 0
  Split records =
      (before : List PkgRecord) × (pkg : PkgRecord) × (behind : List PkgRecord) × (records ≡ before ++ pkg ∷ behind)
      × AllByRecursion (λ other. is_named name other ≡ false) before × (is_named name pkg ≡ true) × (pkg.channel ≡ channel)

  pub splits : (records : List PkgRecord) → first_channel records name ≡ Some channel → Split records
  splits [] h = cc h
  splits (x ∷ xs) h = by (λ k. splits xs k) (is_named name x) refl h
    where
      by : (first_channel xs name ≡ Some channel → Split xs) → (b : Bool) → is_named name x ≡ b
          → option_map (λ (pkg : PkgRecord). pkg.channel) (cond b (Some x) (find (is_named name) xs)) ≡ Some channel → Split (x ∷ xs)
      by more true e k = ([], x, xs, refl, tt, e, cc k)
      by more false e k = let m = more k in (x ∷ m.0, m.1, m.2, ap (λ r. x ∷ r) m.3, (e, m.4), m.5, m.6)

  found : (before : List PkgRecord) (pkg : PkgRecord) (behind : List PkgRecord)
      → AllByRecursion (λ other. is_named name other ≡ false) before → is_named name pkg ≡ true
      → find (is_named name) (before ++ pkg ∷ behind) ≡ Some pkg
  found [] pkg behind h e = ap (λ b. cond b (Some pkg) (find (is_named name) behind)) e
  found (x ∷ xs) pkg behind h e =
      ap (λ b. cond b (Some x) (find (is_named name) (xs ++ pkg ∷ behind))) h.0 ∙ found xs pkg behind h.1 e

  pub joins : (records : List PkgRecord) → Split records → first_channel records name ≡ Some channel
  joins records s =
      ap (λ r. first_channel r name) s.3 ∙ ap (option_map (λ (pkg : PkgRecord). pkg.channel)) (found s.0 s.1 s.2 s.4 s.5) ∙ ap Some s.6

pub of_channel : (channel : Option (List ℕ)) (pkg : PkgRecord) → is_of channel pkg ≡ true → channel ≡ Some pkg.channel
of_channel None pkg h = cc h
of_channel (Some c) pkg h = ap Some (sym (same_text pkg.channel c h))

pub is_of_own : (channel : Option (List ℕ)) (pkg : PkgRecord) → channel ≡ Some pkg.channel → is_of channel pkg ≡ true
is_of_own channel pkg e = ap (λ c. is_of c pkg) e ∙ nat_list_eq_equiv.refl pkg.channel

first_true : (a b : Bool) → (a && b) ≡ true → a ≡ true
first_true true b h = refl
first_true false b h = cc h

second_true : (a b : Bool) → (a && b) ≡ true → b ≡ true
second_true true b h = h
second_true false b h = cc h

pub pool_law : (records : List PkgRecord) (name : List ℕ) (pkg : PkgRecord)
    → Contains (channel_pool records name) pkg
    ↔ (Contains records pkg × (is_named name pkg ≡ true) × (first_channel records name ≡ Some pkg.channel))
pool_law records name pkg = (there, back)
  where
    there : Contains (channel_pool records name) pkg
        → Contains records pkg × (is_named name pkg ≡ true) × (first_channel records name ≡ Some pkg.channel)
    there c =
        let f = of_filter (λ other. is_named name other && is_of (first_channel records name) other) records pkg c in
        (f.0, first_true _ _ f.1, of_channel (first_channel records name) pkg (second_true (is_named name pkg) _ f.1))

    back : Contains records pkg × (is_named name pkg ≡ true) × (first_channel records name ≡ Some pkg.channel)
        → Contains (channel_pool records name) pkg
    back h =
        in_filter (λ other. is_named name other && is_of (first_channel records name) other) records pkg h.0
        (ap (λ b. b && is_of (first_channel records name) pkg) h.1 ∙ is_of_own (first_channel records name) pkg h.2)

free : (text : List ℕ) → IsFreeOf star text → list_any (is_byte star) text ≡ false
free [] h = refl
free (b ∷ rest) h = ap (λ c. c || list_any (is_byte star) rest) h.0 ∙ free rest h.1

plain_all : (specs : List Parts) → AllByRecursion HasNoGlob specs → AllByRecursion IsPlain specs
plain_all [] h = tt
plain_all (spec ∷ specs) h = (free spec.name h.0, plain_all specs h.1)

pub plain_law : (pkg : PkgRecord) → IsWellFormed pkg → NamesPlainly pkg
plain_law pkg w = (
  All-from_recursion IsPlain pkg.depends (plain_all pkg.depends w.depends),
  All-from_recursion IsPlain pkg.constrains (plain_all pkg.constrains w.constrains),
)
