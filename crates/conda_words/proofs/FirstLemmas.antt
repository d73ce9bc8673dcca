-- The first answer of a list, where each element is asked behind those before it.
use Rattle.std.proofs.Common.{◌≡◌, List, [], ◌∷◌, ◌++◌, refl, sym, ap, ◌∙◌, append_assoc}
use Rattle.std.specs.Prelude.{Option, None, Some}
use Rattle.std.proofs.lemmas.List.{append-nil}
use Rattle.std.specs.Option.{option_or}

pub or_none : {X : Type 0} (a b : Option X) → option_or a b ≡ None → (a ≡ None) × (b ≡ None)
or_none None b h = (refl, h)
or_none (Some x) b h = cc

module _ {A X : Type 0} (ask : List A → A → Option X) where
  -- behind these, the first answer
  abbrev pub first : List A → List A → Option X
  first before [] = None
  first before (i ∷ is) = option_or (ask before i) (first (before ++ i ∷ []) is)

  pub first_append : (before xs ys : List A) → first before (xs ++ ys) ≡ option_or (first before xs) (first (before ++ xs) ys)
  first_append before [] ys = ap (λ b. first b ys) (sym (append-nil before))
  first_append before (x ∷ xs) ys =
      ap (option_or (ask before x)) (first_append (before ++ x ∷ []) xs ys
      ∙ ap (λ b. option_or (first (before ++ x ∷ []) xs) (first b ys)) (append_assoc before (x ∷ []) xs))
      ∙ assoc (ask before x) (first (before ++ x ∷ []) xs) (first (before ++ x ∷ xs) ys)
    where
      assoc : (a b c : Option X) → option_or a (option_or b c) ≡ option_or (option_or a b) c
      assoc None b c = refl
      assoc (Some x) b c = refl

  -- no element has an answer
  abbrev pub NoneBehind : List A → List A → Type 0
  NoneBehind before is = (front : List A) (i : A) (behind : List A) → is ≡ front ++ i ∷ behind → ask (before ++ front) i ≡ None

  pub none_first : (before is : List A) → first before is ≡ None → NoneBehind before is
  none_first before [] h [] i behind e = cc
  none_first before [] h (x ∷ front) i behind e = cc
  none_first before (x ∷ xs) h [] i behind e =
      let same : x ≡ i = cc in
      ap (λ b. ask b i) (append-nil before) ∙ ap (ask before) (sym same) ∙ (or_none (ask before x) (first (before ++ x ∷ []) xs) h).0
  none_first before (x ∷ xs) h (y ∷ front) i behind e =
      let same : x ≡ y = cc in
      let rest : xs ≡ front ++ i ∷ behind = cc in
      ap (λ z. ask (before ++ z ∷ front) i) (sym same) ∙ ap (λ b. ask b i) (sym (append_assoc before (x ∷ []) front))
      ∙ none_first (before ++ x ∷ []) xs (or_none (ask before x) (first (before ++ x ∷ []) xs) h).1 front i behind rest

  pub first_none : (before is : List A) → NoneBehind before is → first before is ≡ None
  first_none before [] h = refl
  first_none before (x ∷ xs) h =
      ap (λ o. option_or o (first (before ++ x ∷ []) xs)) (ap (λ b. ask b x) (sym (append-nil before)) ∙ h [] x xs refl)
      ∙ first_none (before ++ x ∷ []) xs (λ front i behind e.
      ap (λ b. ask b i) (append_assoc before (x ∷ []) front) ∙ h (x ∷ front) i behind (ap (λ t. x ∷ t) e))

  -- the first element that has an answer
  pub record FirstBehind (before is : List A) (x : X) : Type 0 where
    pub front : List A
    pub bad : A
    pub behind : List A
    pub split : is ≡ front ++ bad ∷ behind
    pub right : first before front ≡ None
    pub wrong : ask (before ++ front) bad ≡ Some x

  pub some_first : (before is : List A) (x : X) → first before is ≡ Some x → FirstBehind before is x
  some_first before [] x h = cc
  some_first before (i ∷ is) x h = by (ask before i) refl h (some_first (before ++ i ∷ []) is x)
    where
      by : (o : Option X) → ask before i ≡ o → option_or o (first (before ++ i ∷ []) is) ≡ Some x
          → (first (before ++ i ∷ []) is ≡ Some x → FirstBehind (before ++ i ∷ []) is x) → FirstBehind before (i ∷ is) x
      by (Some y) e f rest = record {
        front = [];
        bad = i;
        behind = is;
        split = refl;
        right = refl;
        wrong = ap (λ b. ask b i) (append-nil before) ∙ e ∙ f;
      }
      by None e f rest =
          let more = rest f in record {
            front = i ∷ more.front;
            bad = more.bad;
            behind = more.behind;
            split = ap (λ l. i ∷ l) more.split;
            right = ap (λ o. option_or o (first (before ++ i ∷ []) more.front)) e ∙ more.right;
            wrong = ap (λ b. ask b more.bad) (sym (append_assoc before (i ∷ []) more.front)) ∙ more.wrong;
          }

  pub first_some : (before front : List A) (bad : A) (behind : List A) (x : X) → first before front ≡ None
      → ask (before ++ front) bad ≡ Some x
      → first before (front ++ bad ∷ behind) ≡ Some x
  first_some before front bad behind x right wrong =
      first_append before front (bad ∷ behind) ∙ ap (λ o. option_or o (first (before ++ front) (bad ∷ behind))) right
      ∙ ap (λ o. option_or o (first ((before ++ front) ++ bad ∷ []) behind)) wrong
