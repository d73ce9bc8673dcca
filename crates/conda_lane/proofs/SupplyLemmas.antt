-- What calls of a supply keep, they keep together.
use Rattle.std.proofs.Common.{◌≡◌, ◌⊎◌, inl, inr, ℕ, zero, suc, ◌+◌, ◌-◌, ◌^◌, ◌<◌, ◌≤◌, min, List, [], ◌∷◌, ◌++◌, length, Option, Some, None, IsSomeAnd, IfErr, Result, Ok, Err, refl, ap, subst, sym, ◌∙◌, arith}
use Rattle.std.specs.Prelude.{All, Contains, slice_get}
use Rattle.std.proofs.lemmas.List.Elements.{All-append, All-nil}
use Rattle.conda_device.specs.Fault.{Rose}
use Rattle.conda_checked.specs.declared.lack.Lack.{Lack}
use Rattle.conda_checked.specs.declared.lack.Lacks.{Lacks}
use Rattle.conda_path.specs.declared.values.Digest.{Digest}
use Rattle.conda_device.specs.Tree.{Tree}
use Rattle.conda_lane.specs.declared.change.Change.{Change}
use Rattle.conda_lane.specs.Calls.{Leads}
use Rattle.conda_lane.specs.Steps.{Goes, IsPut}
use Rattle.conda_lane.specs.Supplies.{Absent, AskedOnly, ChanFile, ChanHandle, EachHandle, HasCauseOf, HasSupplyCause, IsChanLack, IsChanPath, IsStoreLack, Keeps, KeepsChan, KeepsLacks, KeepsStore, LacksChan, LacksFile, LacksStore, Other, SomeHandle, StoreFile, StoreHandle, SupplyState, cause_of}
use Rattle.conda_lane.specs.declared.supply.SupplyErr.{SupplyErr}
use Rattle.conda_lane.specs.declared.supply.SupplyErr.TheVariants as supply
use Rattle.conda_lane.specs.declared.supply.Cause.{Cause}
use Rattle.conda_lane.specs.declared.supply.Cause.TheVariants as causes

append_nil : {A : Type 0} (xs : List A) → xs ≡ xs ++ []
append_nil [] = refl
append_nil (x ∷ xs) = ap (λ ys. x ∷ ys) (append_nil xs)

append_over : {A : Type 0} (xs ys zs : List A) → (xs ++ ys) ++ zs ≡ xs ++ (ys ++ zs)
append_over [] ys zs = refl
append_over (x ∷ xs) ys zs = ap (λ r. x ∷ r) (append_over xs ys zs)

-- ---- one handle

asked_self : (P : List ℕ → Type 0) (asked : Option (List (List ℕ))) → AskedOnly P asked asked
asked_self P None = tt
asked_self P (Some paths) = ([], append_nil paths, All-nil P)

asked_then : (P : List ℕ → Type 0) (a b c : Option (List (List ℕ))) → AskedOnly P a b → AskedOnly P b c → AskedOnly P a c
asked_then P None None c h i = i
asked_then P None (Some b) c h i = absurd h
asked_then P (Some a) None c h i = absurd h
asked_then P (Some a) (Some b) None h i = i
asked_then P (Some a) (Some b) (Some c) h i =
    (h.0 ++ i.0, i.1 ∙ ap (λ xs. xs ++ i.0) h.1 ∙ append_over a h.0 i.0, All-append P h.0 i.0 h.2 i.2)

lacks_self : (P : Lack → Type 0) (lacks : Lacks) → KeepsLacks P lacks lacks
lacks_self P lacks = record { absents = omega arith; mismatches = omega arith; last = inl refl }

lacks_then : (P : Lack → Type 0) (a b c : Lacks) → KeepsLacks P a b → KeepsLacks P b c → KeepsLacks P a c
lacks_then P a b c h i = record {
  absents = let x = h.absents in let y = i.absents in omega (arith, x, y);
  mismatches = let x = h.mismatches in let y = i.mismatches in omega (arith, x, y);
  last = elim i.last [
    | inl same ↦ elim h.last [
      | inl stays ↦ inl (same ∙ stays)
      | inr one ↦ inr (subst (λ o. IsSomeAnd o P) (sym same) one)
    ]
    | inr one ↦ inr one
  ];
}

chan_self : (files : List ChanFile) (place : ℕ) (h : ChanHandle) → KeepsChan files place h h
chan_self files place h = record { name = refl; told = refl; asked = asked_self (IsChanPath files place) h.asked; faults = omega arith; lacks = lacks_self (IsChanLack files place) h.lacks }

chan_then : (files : List ChanFile) (place : ℕ) (a b c : ChanHandle) → KeepsChan files place a b → KeepsChan files place b c → KeepsChan files place a c
chan_then files place a b c h i = record {
  name = i.name ∙ h.name;
  told = i.told ∙ h.told;
  asked = asked_then (IsChanPath files place) a.asked b.asked c.asked h.asked i.asked;
  faults = let x = h.faults in let y = i.faults in omega (arith, x, y);
  lacks = lacks_then (IsChanLack files place) a.lacks b.lacks c.lacks h.lacks i.lacks;
}

store_self : (files : List StoreFile) (place : ℕ) (h : StoreHandle) → KeepsStore files place h h
store_self files place h = record { touched = refl; faults = omega arith; lacks = lacks_self (IsStoreLack files place) h.lacks }

store_then : (files : List StoreFile) (place : ℕ) (a b c : StoreHandle) → KeepsStore files place a b → KeepsStore files place b c → KeepsStore files place a c
store_then files place a b c h i = record {
  touched = i.touched ∙ h.touched;
  faults = let x = h.faults in let y = i.faults in omega (arith, x, y);
  lacks = lacks_then (IsStoreLack files place) a.lacks b.lacks c.lacks h.lacks i.lacks;
}

-- ---- the handles

one_of : {A : Type 0} (o : Option A) (x y : A) → o ≡ Some x → o ≡ Some y → x ≡ y
one_of o x y h i = let e : Some x ≡ Some y = sym h ∙ i in cc

module _ {H : Type 0} (R : ℕ → H → H → Type 0) where
  each_self : ((place : ℕ) (h : H) → R place h h) → (hs : List H) → EachHandle R hs hs
  each_self self hs = record {
    count = refl;
    each = λ place was is at_was at_is. subst (λ x. R place was x) (one_of (slice_get hs place) was is at_was at_is) (self place was);
  }

none_some : {H : Type 0} (x : H) → None ≡ Some x → ⊥
none_some x e = cc

-- the handle at a place of a list that is as long
get_too : {H : Type 0} (xs ys : List H) (i : ℕ) (x : H) → length ys ≡ length xs → slice_get xs i ≡ Some x → (y : H) × (slice_get ys i ≡ Some y)
get_too [] ys i x same is = absurd (none_some x is)
get_too (a ∷ xs) [] i x same is = absurd (omega (arith, same))
get_too (a ∷ xs) (b ∷ ys) zero x same is = (b, refl)
get_too (a ∷ xs) (b ∷ ys) (suc i) x same is = get_too xs ys i x (omega (arith, same)) is

each_then : {H : Type 0} (R : ℕ → H → H → Type 0) → ((place : ℕ) (a b c : H) → R place a b → R place b c → R place a c) → (hs is js : List H) → EachHandle R hs is → EachHandle R is js → EachHandle R hs js
each_then R trans hs is js first second = record {
  count = second.count ∙ first.count;
  each = λ place was now at_was at_now.
      let mid = get_too hs is place was first.count at_was in
      trans place was mid.0 now (first.each place was mid.0 at_was mid.1) (second.each place mid.0 now mid.1 at_now);
}

pub keeps_self : (state : SupplyState) → Keeps state state
keeps_self state = record {
  goods = refl;
  kept = refl;
  chan_files = refl;
  store_files = refl;
  chans = each_self (KeepsChan state.chan_files) (chan_self state.chan_files) state.chans;
  stores = each_self (KeepsStore state.store_files) (store_self state.store_files) state.stores;
}

pub keeps_then : (a b c : SupplyState) → Keeps a b → Keeps b c → Keeps a c
keeps_then a b c h i = record {
  goods = i.goods ∙ h.goods;
  kept = i.kept ∙ h.kept;
  chan_files = i.chan_files ∙ h.chan_files;
  store_files = i.store_files ∙ h.store_files;
  chans = each_then (KeepsChan a.chan_files) (chan_then a.chan_files) a.chans b.chans c.chans h.chans (subst (λ f. EachHandle (KeepsChan f) b.chans c.chans) h.chan_files i.chans);
  stores = each_then (KeepsStore a.store_files) (store_then a.store_files) a.stores b.stores c.stores h.stores (subst (λ f. EachHandle (KeepsStore f) b.stores c.stores) h.store_files i.stores);
}

-- ---- a cause of the last call is one of all calls

rose_since : (a b c : ℕ) → a ≤ b → Rose b c → Rose a c
rose_since a b c le rose = omega (arith, le, rose)

-- what holds of a handle since a call holds since an earlier one
since : {H : Type 0} (K R : ℕ → H → H → Type 0) → ((place : ℕ) (a b c : H) → K place a b → R place b c → R place a c) → (hs is js : List H) → EachHandle K hs is → SomeHandle R is js → SomeHandle R hs js
since K R f hs is js each some =
    let was = get_too is hs some.place some.was (sym each.count) some.before_it in
    record {
      place = some.place;
      was = was.0;
      is = some.is;
      before_it = was.1;
      now_it = some.now_it;
      holds = f some.place was.0 some.was some.is (each.each some.place was.0 some.was was.1 some.before_it) some.holds;
    }

-- a count of lacks that has not fallen
abbrev pub NeverFalls : (Lacks → ℕ) → Type 1
NeverFalls count = (P : Lack → Type 0) (a b : Lacks) → KeepsLacks P a b → count a ≤ count b

chan_lacks_since : (count : Lacks → ℕ) (Found : Option Digest → Type 0) → NeverFalls count → (files : List ChanFile) (place : ℕ) (a b c : ChanHandle)
    → KeepsChan files place a b → LacksChan count Found files place b c → LacksChan count Found files place a c
chan_lacks_since count Found never files place a b c h i = record { rose = rose_since (count a.lacks) (count b.lacks) (count c.lacks) (never (IsChanLack files place) a.lacks b.lacks h.lacks) i.rose; last = i.last }

store_lacks_since : (count : Lacks → ℕ) (Found : Option Digest → Type 0) → NeverFalls count → (files : List StoreFile) (place : ℕ) (a b c : StoreHandle)
    → KeepsStore files place a b → LacksStore count Found files place b c → LacksStore count Found files place a c
store_lacks_since count Found never files place a b c h i = record {
  rose = rose_since (count a.lacks) (count b.lacks) (count c.lacks) (never (IsStoreLack files place) a.lacks b.lacks h.lacks) i.rose;
  file = i.file;
  one = i.one;
  handle = i.handle;
  last = i.last;
}

lacks_since : (count : Lacks → ℕ) (Found : Option Digest → Type 0) → NeverFalls count → (a b c : SupplyState) → Keeps a b → LacksFile count Found b c → LacksFile count Found a c
lacks_since count Found never a b c keeps h = elim h [
  | inl some ↦ inl (since (KeepsChan a.chan_files) (LacksChan count Found a.chan_files) (chan_lacks_since count Found never a.chan_files) a.chans b.chans c.chans keeps.chans
      (subst (λ f. SomeHandle (LacksChan count Found f) b.chans c.chans) keeps.chan_files some))
  | inr some ↦ inr (since (KeepsStore a.store_files) (LacksStore count Found a.store_files) (store_lacks_since count Found never a.store_files) a.stores b.stores c.stores keeps.stores
      (subst (λ f. SomeHandle (LacksStore count Found f) b.stores c.stores) keeps.store_files some))
]

cause_since : (e : SupplyErr) (a b c : SupplyState) → Keeps a b → HasSupplyCause e b c → HasSupplyCause e a c
cause_since supply.ChanFault a b c keeps h =
    since (KeepsChan a.chan_files) (λ place was is. Rose was.faults is.faults) (λ place x y z k r. rose_since x.faults y.faults z.faults k.faults r) a.chans b.chans c.chans keeps.chans h
cause_since supply.StoreFault a b c keeps h =
    since (KeepsStore a.store_files) (λ place was is. Rose was.faults is.faults) (λ place x y z k r. rose_since x.faults y.faults z.faults k.faults r) a.stores b.stores c.stores keeps.stores h
cause_since supply.Missing a b c keeps h = lacks_since (λ lacks. lacks.absents) Absent (λ P x y k. k.absents) a b c keeps h
cause_since supply.Damaged a b c keeps h = lacks_since (λ lacks. lacks.mismatches) Other (λ P x y k. k.mismatches) a b c keeps h
cause_since supply.Memory a b c keeps h = tt

pub stopped_since : (cause : Cause) (f g k : ℕ) (a b c : SupplyState) → f ≤ g → Keeps a b → HasCauseOf cause g k b c → HasCauseOf cause f k a c
stopped_since causes.LaneFault f g k a b c le keeps h = rose_since f g k le h
stopped_since causes.ChanFault f g k a b c le keeps h = cause_since SupplyErr.ChanFault a b c keeps h
stopped_since causes.StoreFault f g k a b c le keeps h = cause_since SupplyErr.StoreFault a b c keeps h
stopped_since causes.Missing f g k a b c le keeps h = cause_since SupplyErr.Missing a b c keeps h
stopped_since causes.Damaged f g k a b c le keeps h = cause_since SupplyErr.Damaged a b c keeps h
stopped_since causes.Memory f g k a b c le keeps h = tt

-- an error of the supply stops for its cause
pub supply_stops : (e : SupplyErr) (f k : ℕ) (a b : SupplyState) → HasSupplyCause e a b → HasCauseOf (cause_of e) f k a b
supply_stops supply.ChanFault f k a b h = h
supply_stops supply.StoreFault f k a b h = h
supply_stops supply.Missing f k a b h = h
supply_stops supply.Damaged f k a b h = h
supply_stops supply.Memory f k a b h = tt

-- ---- what is kept stays the same

pub put_kept : (now kept : Tree) (c : Change) (t u : Option Tree) → now ≡ kept → Leads (Goes (IsPut now) c) t u → Leads (Goes (IsPut kept) c) t u
put_kept now kept c t u same h = subst (λ k. Leads (Goes (IsPut k) c) t u) same h

pub went_kept : (now kept : Tree) (c : Change) (t u : Option Tree) → now ≡ kept → (u ≡ t) ⊎ Leads (Goes (IsPut now) c) t u → (u ≡ t) ⊎ Leads (Goes (IsPut kept) c) t u
went_kept now kept c t u same h = subst (λ k. (u ≡ t) ⊎ Leads (Goes (IsPut k) c) t u) same h
