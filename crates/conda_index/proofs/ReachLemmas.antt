-- The names that are reached, and their pools.
use Rattle.std.specs.Prelude.{◌≡◌, ◌↔◌, ℕ, ◌+◌, ◌<◌, ◌≤◌, zero, suc, Bool, true, false, cond, if◌then◌else◌, List, [], ◌∷◌, ◌++◌, Contains, None, Some, filter, map, length, nat_eq, slice_get}
use Rattle.std.proofs.Common.{refl, ap, sym, ◌∙◌, subst, inl, inr, ◌⊎◌, arith, get_or, true≢false}
use Rattle.std.proofs.lemmas.Cmp.{by_ranked, ranked}
use Rattle.std.proofs.lemmas.Option.{slice_get_cases}
use Rattle.std.proofs.lemmas.Str.Ascii.{lowercase-lowercase}
use Rattle.std.proofs.lemmas.List.{append-nil, get_or_append_left, get_or_default}
use Rattle.std.proofs.lemmas.List.Elements.{Contains-append_cases, Contains-append_left, Contains-append_right, Contains-get_or, Contains-push_cases}
use Rattle.std.proofs.Common.{append_assoc}
use Rattle.std.specs.Char.{to_ascii_lowercase}
use Rattle.std.specs.Cmp.Lexicographic.{pointwise}
use Rattle.std.specs.Ordering.{nat_cmp}
use Rattle.std.specs.List.{flat_map, list_any}
use Rattle.indexmap.specs.IndexSet.{insert_all, insert_key}
use Rattle.indexmap.proofs.CallerLemmas.{Contains-insert_key}
use Rattle.conda_spec.specs.Parts.{Parts}
use Rattle.conda_record.specs.declared.pkg_record.PkgRecord.{PkgRecord}
use Rattle.conda_encode.specs.Matching.{lowered}
use Rattle.conda_encode.specs.declared.asked.AskKind.{AskKind}
use Rattle.conda_encode.specs.declared.asked.Asked.{Asked}
use Rattle.conda_index.specs.Pools.{pool_of}
use Rattle.conda_index.specs.Reached.{Reaches, needed, wanted}
use Rattle.conda_index.specs.Walk.{is_wanted, names_wanted, needs_of}
use Rattle.conda_index.proofs.GatherLemmas.{same_text}

-- ---- elements

pub first_in : {X : Type 0} (x : X) (xs : List X) → Contains (x ∷ xs) x
first_in x xs = (0, omega arith, refl)

pub later_in : {X : Type 0} (y x : X) (xs : List X) → Contains xs x → Contains (y ∷ xs) x
later_in y x xs c = (suc c.0, omega (arith, c.1), c.2)

pub in_cases : {X : Type 0} (y x : X) (xs : List X) → Contains (y ∷ xs) x → (y ≡ x) ⊎ Contains xs x
in_cases y x xs (zero, short, is) = inl is
in_cases y x xs (suc k, short, is) = inr (k, omega arith, is)

pub none_in : {X : Type 0} {P : Type 0} (x : X) → Contains [] x → P
none_in x c = absurd (omega (arith, c.1))

pub in_map : {X Y : Type 0} (f : X → Y) (xs : List X) (x : X) → Contains xs x → Contains (map f xs) (f x)
in_map f [] x c = none_in x c
in_map f (y ∷ ys) x c = by (λ d. in_map f ys x d) (in_cases y x ys c)
  where
    by : (Contains ys x → Contains (map f ys) (f x)) → ((y ≡ x) ⊎ Contains ys x) → Contains (f y ∷ map f ys) (f x)
    by more (inl e) = subst (λ z. Contains (f y ∷ map f ys) (f z)) e (first_in (f y) (map f ys))
    by more (inr d) = later_in (f y) (f x) (map f ys) (more d)

pub of_map : {X Y : Type 0} (f : X → Y) (xs : List X) (y : Y) → Contains (map f xs) y → (x : X) × (Contains xs x × (f x ≡ y))
of_map f [] y c = none_in y c
of_map {X} f (x ∷ xs) y c = by (λ d. of_map f xs y d) (in_cases (f x) y (map f xs) c)
  where
    by : (Contains (map f xs) y → (z : X) × (Contains xs z × (f z ≡ y))) → ((f x ≡ y) ⊎ Contains (map f xs) y)
        → (z : X) × (Contains (x ∷ xs) z × (f z ≡ y))
    by more (inl e) = (x, (first_in x xs, e))
    by more (inr d) = let m = more d in (m.0, (later_in x m.0 xs m.1.0, m.1.1))

pub of_flat_map : {X Y : Type 0} (f : X → List Y) (xs : List X) (y : Y) → Contains (flat_map f xs) y
    → (x : X) × (Contains xs x × Contains (f x) y)
of_flat_map f [] y c = none_in y c
of_flat_map {X} f (x ∷ xs) y c = by (λ d. of_flat_map f xs y d) (Contains-append_cases (f x) (flat_map f xs) y c)
  where
    by : (Contains (flat_map f xs) y → (z : X) × (Contains xs z × Contains (f z) y)) → (Contains (f x) y ⊎ Contains (flat_map f xs) y)
        → (z : X) × (Contains (x ∷ xs) z × Contains (f z) y)
    by more (inl d) = (x, (first_in x xs, d))
    by more (inr d) = let m = more d in (m.0, (later_in x m.0 xs m.1.0, m.1.1))

pub in_flat_map : {X Y : Type 0} (f : X → List Y) (xs : List X) (x : X) (y : Y) → Contains xs x → Contains (f x) y → Contains (flat_map f xs) y
in_flat_map f [] x y c d = none_in x c
in_flat_map f (z ∷ zs) x y c d = by (λ e. in_flat_map f zs x y e d) (in_cases z x zs c)
  where
    by : (Contains zs x → Contains (flat_map f zs) y) → ((z ≡ x) ⊎ Contains zs x) → Contains (f z ++ flat_map f zs) y
    by more (inl e) = Contains-append_left (f z) (flat_map f zs) y (subst (λ w. Contains (f w) y) (sym e) d)
    by more (inr e) = Contains-append_right (f z) (flat_map f zs) y (more e)

pub of_filter : {X : Type 0} (p : X → Bool) (xs : List X) (x : X) → Contains (filter p xs) x → Contains xs x × (p x ≡ true)
of_filter p [] x c = none_in x c
of_filter p (y ∷ ys) x c = by (λ d. of_filter p ys x d) (p y) refl c
  where
    split : (Contains (filter p ys) x → Contains ys x × (p x ≡ true)) → p y ≡ true → ((y ≡ x) ⊎ Contains (filter p ys) x)
        → Contains (y ∷ ys) x × (p x ≡ true)
    split more e (inl is) = (subst (Contains (y ∷ ys)) is (first_in y ys), ap p (sym is) ∙ e)
    split more e (inr d) = let m = more d in (later_in y x ys m.0, m.1)

    by : (Contains (filter p ys) x → Contains ys x × (p x ≡ true)) → (b : Bool) → p y ≡ b
        → Contains (cond b (y ∷ filter p ys) (filter p ys)) x → Contains (y ∷ ys) x × (p x ≡ true)
    by more true e d = split more e (in_cases y x (filter p ys) d)
    by more false e d = let m = more d in (later_in y x ys m.0, m.1)

pub in_filter : {X : Type 0} (p : X → Bool) (xs : List X) (x : X) → Contains xs x → p x ≡ true → Contains (filter p xs) x
in_filter p [] x c h = none_in x c
in_filter p (y ∷ ys) x c h = by (λ d. in_filter p ys x d h) (p y) refl (in_cases y x ys c)
  where
    by : (Contains ys x → Contains (filter p ys) x) → (b : Bool) → p y ≡ b → ((y ≡ x) ⊎ Contains ys x)
        → Contains (cond b (y ∷ filter p ys) (filter p ys)) x
    by more true e (inl is) = subst (Contains (y ∷ filter p ys)) is (first_in y (filter p ys))
    by more true e (inr d) = later_in y x (filter p ys) (more d)
    by more false e (inl is) = absurd (true≢false (sym h ∙ ap p (sym is) ∙ e))
    by more false e (inr d) = more d

-- ---- names that are inserted one after another

module _ where
  kept : (ks : List (List ℕ)) (x n : List ℕ) → Contains ks n → Contains (insert_key (pointwise nat_eq) ks x) n
  kept ks x n c = by (list_any (pointwise nat_eq x) ks)
    where
      by : (b : Bool) → Contains (if b then ks else ks ++ x ∷ []) n
      by true = c
      by false = Contains-append_left ks (x ∷ []) n c

  from_one : (ks : List (List ℕ)) (x n : List ℕ) → Contains (insert_key (pointwise nat_eq) ks x) n → Contains ks n ⊎ (x ≡ n)
  from_one ks x n = by (list_any (pointwise nat_eq x) ks)
    where
      by : (b : Bool) → Contains (if b then ks else ks ++ x ∷ []) n → Contains ks n ⊎ (x ≡ n)
      by true c = inl c
      by false c = Contains-push_cases ks x n c

pub inserted_old : (xs ks : List (List ℕ)) (n : List ℕ) → Contains ks n → Contains (insert_all (pointwise nat_eq) ks xs) n
inserted_old [] ks n c = c
inserted_old (x ∷ xs) ks n c = inserted_old xs (insert_key (pointwise nat_eq) ks x) n (kept ks x n c)

pub inserted_new : (xs ks : List (List ℕ)) (n : List ℕ) → Contains xs n → Contains (insert_all (pointwise nat_eq) ks xs) n
inserted_new [] ks n c = none_in n c
inserted_new (x ∷ xs) ks n c = by (λ d. inserted_new xs (insert_key (pointwise nat_eq) ks x) n d) (in_cases x n xs c)
  where
    by : (Contains xs n → Contains (insert_all (pointwise nat_eq) (insert_key (pointwise nat_eq) ks x) xs) n) → ((x ≡ n) ⊎ Contains xs n)
        → Contains (insert_all (pointwise nat_eq) (insert_key (pointwise nat_eq) ks x) xs) n
    by more (inl e) =
        inserted_old xs (insert_key (pointwise nat_eq) ks x) n
        (subst (Contains (insert_key (pointwise nat_eq) ks x)) e (Contains-insert_key (pointwise nat_eq) same_text ks x))
    by more (inr d) = more d

pub inserted_from : (xs ks : List (List ℕ)) (n : List ℕ) → Contains (insert_all (pointwise nat_eq) ks xs) n → Contains ks n ⊎ Contains xs n
inserted_from [] ks n c = inl c
inserted_from (x ∷ xs) ks n c = by (inserted_from xs (insert_key (pointwise nat_eq) ks x) n c)
  where
    first : (Contains ks n ⊎ (x ≡ n)) → Contains ks n ⊎ Contains (x ∷ xs) n
    first (inl d) = inl d
    first (inr e) = inr (subst (Contains (x ∷ xs)) e (first_in x xs))

    by : (Contains (insert_key (pointwise nat_eq) ks x) n ⊎ Contains xs n) → Contains ks n ⊎ Contains (x ∷ xs) n
    by (inl d) = first (from_one ks x n d)
    by (inr d) = inr (later_in x n xs d)

-- the names that were there stay at their places
pub inserted_behind : (xs ks : List (List ℕ)) → (tail : List (List ℕ)) × (insert_all (pointwise nat_eq) ks xs ≡ ks ++ tail)
inserted_behind [] ks = ([], sym (append-nil ks))
inserted_behind (x ∷ xs) ks = by (inserted_behind xs ks) (inserted_behind xs (ks ++ x ∷ [])) (list_any (pointwise nat_eq x) ks)
  where
    by : (tail : List (List ℕ)) × (insert_all (pointwise nat_eq) ks xs ≡ ks ++ tail)
        → (tail : List (List ℕ)) × (insert_all (pointwise nat_eq) (ks ++ x ∷ []) xs ≡ (ks ++ x ∷ []) ++ tail)
        → (b : Bool) → (tail : List (List ℕ)) × (insert_all (pointwise nat_eq) (if b then ks else ks ++ x ∷ []) xs ≡ ks ++ tail)
    by same more true = same
    by same more false = (x ∷ more.0, more.1 ∙ append_assoc ks (x ∷ []) more.0)

-- ---- what is reached

wanted_is : (item : Asked) → is_wanted item.kind ≡ true → item.kind ≡ AskKind.Wanted
wanted_is item h = by item.kind h
  where
    by : (k : AskKind) → is_wanted k ≡ true → k ≡ AskKind.Wanted
    by AskKind.Wanted h = refl
    by AskKind.Pinned h = cc h

module _ (index : List PkgRecord) (asked : List Asked) where
  pub wanted_reached : (name : List ℕ) → Contains (names_wanted asked) name → Reaches index asked name
  wanted_reached name c =
      let m = of_map (λ (item : Asked). lowered item.spec.name) (filter (λ (item : Asked). is_wanted item.kind) asked) name c in
      let f = of_filter (λ (item : Asked). is_wanted item.kind) asked m.0 m.1.0 in
      subst (Reaches index asked) m.1.1 (wanted m.0 f.0 (wanted_is m.0 f.1))

  pub needs_reached : (name : List ℕ) → Reaches index asked name → (n : List ℕ) → Contains (needs_of (pool_of index name)) n
      → Reaches index asked n
  needs_reached name r n c =
      let m = of_flat_map (λ (pkg : PkgRecord). map (λ (need : Parts). lowered need.name) pkg.depends) (pool_of index name) n c in
      let f = of_map (λ (need : Parts). lowered need.name) (m.0).depends n m.1.1 in
      subst (Reaches index asked) f.1.1 (needed name m.0 f.0 r m.1.0 f.1.0)

  -- names that have the wanted ones, and with each name what its pool needs, have all that are reached
  pub all_reached : (names : List (List ℕ)) → ((n : List ℕ) → Contains (names_wanted asked) n → Contains names n)
      → ((name n : List ℕ) → Contains names name → Contains (needs_of (pool_of index name)) n → Contains names n)
      → (name : List ℕ) → Reaches index asked name → Contains names name
  all_reached names begun closed name (wanted item c k) =
      begun (lowered item.spec.name)
      (in_map (λ (item : Asked). lowered item.spec.name) (filter (λ (item : Asked). is_wanted item.kind) asked) item
      (in_filter (λ (item : Asked). is_wanted item.kind) asked item c (ap is_wanted k)))
  all_reached names begun closed name (needed from pkg need r c d) =
      closed from (lowered need.name) (all_reached names begun closed from r)
      (in_flat_map (λ (pkg : PkgRecord). map (λ (need : Parts). lowered need.name) pkg.depends) (pool_of index from) pkg (lowered need.name)
      c (in_map (λ (need : Parts). lowered need.name) pkg.depends need d))

-- ---- the loop over the names

-- the names before this place are done: what their pools need is among the names
pub record Walked (index : List PkgRecord) (asked : List Asked) (names : List (List ℕ)) (at : ℕ) : Type 0 where
  pub sound : (n : List ℕ) → Contains names n → Reaches index asked n
  pub begun : (n : List ℕ) → Contains (names_wanted asked) n → Contains names n
  pub done : (k : ℕ) (d : List ℕ) → k < at → k < length names → (n : List ℕ) → Contains (needs_of (pool_of index (get_or names k d))) n → Contains names n

module _ (index : List PkgRecord) (asked : List Asked) where
  pub begins : (names : List (List ℕ)) → names ≡ insert_all (pointwise nat_eq) [] (names_wanted asked) → Walked index asked names 0
  begins names e = record {
    sound = λ n c. wanted_reached index asked n (from (inserted_from (names_wanted asked) [] n (subst (λ l. Contains l n) e c)));
    begun = λ n c. subst (λ l. Contains l n) (sym e) (inserted_new (names_wanted asked) [] n c);
    done = λ k d low. absurd (omega arith);
  }
    where
      from : {n : List ℕ} → (Contains [] n ⊎ Contains (names_wanted asked) n) → Contains (names_wanted asked) n
      from {n} (inl c) = none_in n c
      from (inr c) = c

  pub walks : (names more : List (List ℕ)) (at : ℕ) (name : List ℕ) → at < length names → name ≡ get_or names at name
      → more ≡ insert_all (pointwise nat_eq) names (needs_of (pool_of index name)) → Walked index asked names at
      → Walked index asked more (at + 1)
  walks names more at name short is e w = record {
    sound = λ n c. sound n (inserted_from needs names n (subst (λ l. Contains l n) e c));
    begun = λ n c. grown n (w.begun n c);
    done = done;
  }
    where
      needs : List (List ℕ)
      needs = needs_of (pool_of index name)

      reached : Reaches index asked name
      reached = w.sound name (subst (Contains names) (sym is) (Contains-get_or names at name short))

      sound : (n : List ℕ) → (Contains names n ⊎ Contains needs n) → Reaches index asked n
      sound n (inl c) = w.sound n c
      sound n (inr c) = needs_reached index asked name reached n c

      grown : (n : List ℕ) → Contains names n → Contains more n
      grown n c = subst (λ l. Contains l n) (sym e) (inserted_old needs names n c)

      tail : (t : List (List ℕ)) × (more ≡ names ++ t)
      tail = let b = inserted_behind needs names in (b.0, e ∙ b.1)

      there : (k : ℕ) (d : List ℕ) → k < length names → get_or more k d ≡ get_or names k d
      there k d h = ap (λ l. get_or l k d) tail.1 ∙ get_or_append_left names tail.0 d k h

      done : (k : ℕ) (d : List ℕ) → k < at + 1 → k < length more → (n : List ℕ) → Contains (needs_of (pool_of index (get_or more k d))) n
          → Contains more n
      done k d low long n c =
          by_ranked (k < at) (k ≡ at) (at < k) (nat_cmp k at) (ranked k at (nat_cmp k at) refl)
          (λ _ lt. grown n (w.done k d lt (omega arith) n
          (subst (λ m. Contains (needs_of (pool_of index m)) n) (there k d (omega arith)) c)))
          (λ _ same.
          let here : get_or more k d ≡ name =
          there k d (omega arith) ∙ ap (λ i. get_or names i d) same ∙ get_or_default names at d name short ∙ sym is
          in
          subst (λ l. Contains l n) (sym e)
          (inserted_new needs names n (subst (λ m. Contains (needs_of (pool_of index m)) n) here c)))
          (λ _ gt. absurd (omega arith))

  pub ends : (names : List (List ℕ)) (at : ℕ) → length names ≤ at → Walked index asked names at
      → (name : List ℕ) → Contains names name ↔ Reaches index asked name
  ends names at all w name = (w.sound name, all_reached index asked names w.begun closed name)
    where
      closed : (from n : List ℕ) → Contains names from → Contains (needs_of (pool_of index from)) n → Contains names n
      closed from n c need =
          w.done c.0 from (omega (arith, c.1)) c.1 n (subst (λ m. Contains (needs_of (pool_of index m)) n) (sym c.2) need)

-- a place behind which nothing stands
pub past : {X : Type 0} (xs : List X) (i : ℕ) → slice_get xs i ≡ None → length xs ≤ i
past {X} xs i e = by (slice_get_cases xs i).1
  where
    by : ((x : X) × (i < length xs) × (slice_get xs i ≡ Some x) × (get_or xs i x ≡ x)) ⊎ ((length xs ≤ i) × (slice_get xs i ≡ None)) → length xs ≤ i
    by (inl (x, short, there, is)) = let no : None ≡ Some x = sym e ∙ there in cc
    by (inr h) = h.0

-- ---- lower case

pub lowered_twice : (name : List ℕ) → lowered (lowered name) ≡ lowered name
lowered_twice [] = refl
lowered_twice (b ∷ bs) =
    ap (λ c. c ∷ lowered (lowered bs)) (lowercase-lowercase b) ∙ ap (λ r. to_ascii_lowercase b ∷ r) (lowered_twice bs)

pub reached_lowered : {index : List PkgRecord} {asked : List Asked} (name : List ℕ) → Reaches index asked name → lowered name ≡ name
reached_lowered name (wanted item c k) = lowered_twice item.spec.name
reached_lowered name (needed from pkg need r c d) = lowered_twice need.name
