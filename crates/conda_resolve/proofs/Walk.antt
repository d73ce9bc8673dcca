-- What is decided, by the variables: it is reached, and no name stands twice.
use Rattle.std.proofs.Common.{◌≡◌, ℕ, Bool, false, List, [], ◌∷◌, ◌++◌, refl, sym, ap, ◌∙◌, subst, inl, inr}
use Rattle.std.proofs.lemmas.List.{map-append}
use Rattle.std.specs.List.{Contains}
use Rattle.conda_spec.specs.Parts.{Parts}
use Rattle.conda_record.specs.declared.pkg_record.PkgRecord.{PkgRecord}
use Rattle.conda_record.specs.declared.pool.NamePool.{NamePool}
use Rattle.conda_encode.specs.Solution.{IsReached}
use Rattle.conda_encode.specs.Solution.IsReached.{needed, wanted}
use Rattle.conda_encode.specs.Variables.{IsPlain, IsRequest, records, variables}
use Rattle.conda_encode.specs.declared.asked.Asked.{Asked}
use Rattle.conda_encode.proofs.Members.{In, from_contains, in_either, in_left, in_map, in_right, number_once, numbered_in, of_map, to_contains}
use Rattle.conda_encode.proofs.Places.{named_own}
use Rattle.conda_encode.proofs.Sides.{AreSides, IsTrueOf, Numbered}
use Rattle.conda_resolve.specs.Choice.{is_decided}
use Rattle.conda_resolve.proofs.Naming.{called_by, name_of, other_name, pending, plain}

-- all of these are true
abbrev pub AllTrue : List NamePool → (ℕ → Bool) → List Numbered → Type 0
AllTrue pools v xs = (x : Numbered) → In x xs → IsTrueOf pools v x

-- no name stands twice
abbrev pub Differ : List Numbered → Type 0
Differ [] = Unit {0}
Differ (x ∷ xs) = ((y : Numbered) → In y xs → name_of x.1 ≡ name_of y.1 → ⊥) × Differ xs

pub record IsSound (pools : List NamePool) (items : List Asked) (xs : List Numbered) : Type 0 where
  pub numbered : (x : Numbered) → In x xs → In x (variables pools)
  pub differ : Differ xs
  pub reached : (m : PkgRecord) → In m (plain xs) → IsReached items (plain xs) m

pub nothing_sound : (pools : List NamePool) (items : List Asked) → IsSound pools items []
nothing_sound pools items = record { numbered = λ x i. absurd i; differ = tt; reached = λ m i. absurd i }

pub in_plain : (xs : List Numbered) (x : Numbered) → In x xs → In x.1 (plain xs)
in_plain xs x i = in_map (λ (x : Numbered). x.1) xs x i

pub of_plain : (xs : List Numbered) (m : PkgRecord) → In m (plain xs) → (x : Numbered) × In x xs × (x.1 ≡ m)
of_plain xs m i = of_map (λ (x : Numbered). x.1) xs m i

pub plain_more : (xs : List Numbered) (x : Numbered) → plain (xs ++ x ∷ []) ≡ plain xs ++ x.1 ∷ []
plain_more xs x = map-append (λ (x : Numbered). x.1) xs (x ∷ [])

pub record_in : (pools : List NamePool) (x : Numbered) → In x (variables pools) → Contains (records pools) x.1
record_in pools x i = to_contains (records pools) x.1 (numbered_in 1 (records pools) x i)

-- ---- one more

-- what is reached stays so in a greater set
pub reached_more : (items : List Asked) (set more : List PkgRecord) → ((m : PkgRecord) → Contains set m → Contains more m) → (m : PkgRecord) → IsReached items set m → IsReached items more m
reached_more items set more each m (wanted spec _ wants c named) = wanted spec m wants (each m c) named
reached_more items set more each m (needed n spec _ r d c named) = needed n spec m (reached_more items set more each n r) d (each m c) named

-- a true record that answers to a name that came up
pub record Answers (pools : List NamePool) (items : List Asked) (v : ℕ → Bool) (decided : List PkgRecord) (name : List ℕ) : Type 0 where
  pub found : Numbered
  pub is_true : IsTrueOf pools v found
  pub named : name ≡ name_of found.1
  pub reached : (set : List PkgRecord) → ((m : PkgRecord) → In m decided → IsReached items set m) → Contains set found.1 → IsReached items set found.1

pub answers : (pools : List NamePool) (items : List Asked) (v : ℕ → Bool) (xs : List Numbered) (name : List ℕ) → IsRequest pools items → AreSides pools items v → AllTrue pools v xs →
    In name (pending items (plain xs)) → Answers pools items v (plain xs) name
answers pools items v xs name request sides all i =
    elim (called_by items (plain xs) name i) [
      | inl w ↦
          let y = sides.wanted w.0 w.1 in
          let own = named_own w.0 y.0.1 (let P : Parts → Type 0 = λ s. IsPlain s in subst P w.1.3 (request.items_plain w.1.0 w.1.1)) y.2 in
          record {
            found = y.0;
            is_true = y.1;
            named = sym w.2 ∙ own;
            reached = λ set each c. wanted w.0 y.0.1 w.1 c y.2;
          }
      | inr w ↦
          let x = of_plain xs w.0 w.2 in
          let t = all x.0 x.1 in
          let P : PkgRecord → Type 0 = λ r. In w.1 r.depends in
          let d : In w.1 x.0.1.depends = subst P (sym x.2) w.3 in
          let y = sides.needed x.0 t w.1 d in
          let own = named_own w.1 y.0.1 (request.depends_plain x.0.1 (record_in pools x.0 t.0) w.1 (to_contains x.0.1.depends w.1 d)) y.2 in
          record {
            found = y.0;
            is_true = y.1;
            named = sym w.4 ∙ own;
            reached = λ set each c. needed w.0 w.1 y.0.1 (each w.0 w.2) (to_contains w.0.depends w.1 w.3) c y.2;
          }
    ]

pub differ_more : (xs : List Numbered) (x : Numbered) → Differ xs → ((y : Numbered) → In y xs → name_of y.1 ≡ name_of x.1 → ⊥) → Differ (xs ++ x ∷ [])
differ_more [] x d other = (λ y i. absurd i, tt)
differ_more (y ∷ ys) x d other = (
  λ z i e. elim (in_either ys (x ∷ []) z i) [
    | inl j ↦ d.0 z j e
    | inr (inl f) ↦ other y (inl refl) (e ∙ ap (λ (u : Numbered). name_of u.1) (sym f))
    | inr (inr j) ↦ absurd j
  ],
  differ_more ys x d.1 (λ z i. other z (inr i)),
)

-- a true record of a name that came up, and isn't decided, is that which answers to the name
pub one_more : (pools : List NamePool) (items : List Asked) (v : ℕ → Bool) (xs : List Numbered) (name : List ℕ) (x : Numbered) → IsRequest pools items → AreSides pools items v →
    AllTrue pools v xs → IsSound pools items xs → In name (pending items (plain xs)) → is_decided (plain xs) name ≡ false → IsTrueOf pools v x → name ≡ name_of x.1 →
    IsSound pools items (xs ++ x ∷ [])
one_more pools items v xs name x request sides all sound i free t own =
    let a = answers pools items v xs name request sides all i in
    let n : a.found.0 ≡ x.0 = sides.once a.found x a.is_true t (sym a.named ∙ own) in
    let same : a.found.1 ≡ x.1 = number_once 1 (records pools) a.found x a.is_true.0 t.0 n in
    let more : List PkgRecord = plain xs ++ x.1 ∷ [] in
    let each : (m : PkgRecord) → In m (plain xs) → IsReached items more m = λ m j.
    reached_more items (plain xs) more (λ k c. to_contains more k (in_left (plain xs) (x.1 ∷ []) k (from_contains (plain xs) k c))) m (sound.reached m j) in
    let P : PkgRecord → Type 0 = λ r. Contains more r → IsReached items more r in
    let here : IsReached items more x.1 = subst P same (a.reached more each) (to_contains more x.1 (in_right (plain xs) (x.1 ∷ []) x.1 (inl refl))) in
    let Q : List PkgRecord → Type 0 = λ rs. (m : PkgRecord) → In m rs → IsReached items rs m in
    let R : PkgRecord → Type 0 = λ m. IsReached items more m in
    record {
      numbered = λ y j. elim (in_either xs (x ∷ []) y j) [
        | inl h ↦ sound.numbered y h
        | inr (inl e) ↦ (let S : Numbered → Type 0 = λ u. In u (variables pools) in subst S e t.0)
        | inr (inr h) ↦ absurd h
      ];
      differ = differ_more xs x sound.differ (λ y j e. other_name (plain xs) name y.1 free (in_plain xs y j) (own ∙ sym e));
      reached = subst Q (sym (plain_more xs x)) (λ m j. elim (in_either (plain xs) (x.1 ∷ []) m j) [
        | inl h ↦ each m h
        | inr (inl e) ↦ subst R e here
        | inr (inr h) ↦ absurd h
      ]);
    }

pub all_more : (pools : List NamePool) (v : ℕ → Bool) (xs : List Numbered) (x : Numbered) → AllTrue pools v xs → IsTrueOf pools v x → AllTrue pools v (xs ++ x ∷ [])
all_more pools v xs x all t y j =
    elim (in_either xs (x ∷ []) y j) [
      | inl h ↦ all y h
      | inr (inl e) ↦ (let P : Numbered → Type 0 = λ u. IsTrueOf pools v u in subst P e t)
      | inr (inr h) ↦ absurd h
    ]

pub all_fewer : (pools : List NamePool) (v : ℕ → Bool) (xs : List Numbered) (x : Numbered) → AllTrue pools v (xs ++ x ∷ []) → AllTrue pools v xs × IsTrueOf pools v x
all_fewer pools v xs x all =
    (λ y j. all y (in_left xs (x ∷ []) y j), all x (in_right xs (x ∷ []) x (inl refl)))
