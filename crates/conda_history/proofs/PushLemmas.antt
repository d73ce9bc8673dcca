-- A text with one more block at its end.
use Rattle.std.proofs.Common.{◌≡◌, ℕ, ◌+◌, ◌<◌, true, false, cond, List, [], ◌∷◌, ◌++◌, append_assoc, length, drop, take, get_or, sym, ap, ◌∙◌, subst}
use Rattle.std.specs.Prelude.{IsUtf8}
use Rattle.std.specs.List.{AllByRecursion, flat_map}
use Rattle.std.proofs.lemmas.List.{drop_more, take_more}
use Rattle.conda_history.specs.declared.revision.Block.{Block}
use Rattle.conda_history.specs.Stamps.{header_text}
use Rattle.conda_history.specs.Texts.{block_text, ended, history_text, shown}

abbrev signed : List ℕ → List (List ℕ) → List ℕ
signed sign dists = flat_map (λ dist. sign ++ ended dist) dists

pub whole_text : (old mid now : List ℕ) (b : Block) (dists : List (List ℕ)) → b.whole ≡ true → mid ≡ old ++ ended (header_text b.stamp)
    → now ≡ mid ++ signed [] dists → dists ≡ b.added → now ≡ old ++ block_text b
whole_text old mid now b dists w e f g =
    f ∙ ap (λ m. m ++ signed [] dists) e ∙ append_assoc old (ended (header_text b.stamp)) (signed [] dists)
    ∙ ap (λ ds. old ++ (ended (header_text b.stamp) ++ signed [] ds)) g
    ∙ ap (λ v. old ++ (ended (header_text b.stamp) ++ cond v (flat_map ended b.added) (signed (45 ∷ []) b.removed ++ signed (43 ∷ []) b.added))) (sym w)

pub signed_text : (old mid mid2 now : List ℕ) (b : Block) (removed added : List (List ℕ)) → b.whole ≡ false → mid ≡ old ++ ended (header_text b.stamp)
    → mid2 ≡ mid ++ signed (45 ∷ []) removed → removed ≡ b.removed → now ≡ mid2 ++ signed (43 ∷ []) added → added ≡ b.added → now ≡ old ++ block_text b
signed_text old mid mid2 now b removed added w e f g h k =
    let head = ended (header_text b.stamp) in
    h ∙ ap (λ m. m ++ signed (43 ∷ []) added) (f ∙ ap (λ m. m ++ signed (45 ∷ []) removed) e)
    ∙ append_assoc (old ++ head) (signed (45 ∷ []) removed) (signed (43 ∷ []) added)
    ∙ append_assoc old head (signed (45 ∷ []) removed ++ signed (43 ∷ []) added)
    ∙ ap (λ ds. old ++ (head ++ (signed (45 ∷ []) ds ++ signed (43 ∷ []) added))) g
    ∙ ap (λ ds. old ++ (head ++ (signed (45 ∷ []) b.removed ++ signed (43 ∷ []) ds))) k
    ∙ ap (λ v. old ++ (head ++ cond v (flat_map ended b.added) (signed (45 ∷ []) b.removed ++ signed (43 ∷ []) b.added))) (sym w)

both_all : {X : Type 0} (P : X → Type 0) (xs ys : List X) → AllByRecursion P xs → AllByRecursion P ys → AllByRecursion P (xs ++ ys)
both_all P [] ys p q = q
both_all P (x ∷ xs) ys p q = (p.0, both_all P xs ys p.1 q)

pub whole_shown : (b : Block) (dists : List (List ℕ)) → b.whole ≡ true → AllByRecursion IsUtf8 dists → dists ≡ b.added → AllByRecursion IsUtf8 (shown b)
whole_shown b dists w u e =
    subst (AllByRecursion IsUtf8) (ap (λ v. cond v b.added (b.removed ++ b.added)) (sym w)) (subst (AllByRecursion IsUtf8) e u)

pub signed_shown : (b : Block) (removed added : List (List ℕ)) → b.whole ≡ false → AllByRecursion IsUtf8 removed → removed ≡ b.removed
    → AllByRecursion IsUtf8 added → added ≡ b.added → AllByRecursion IsUtf8 (shown b)
signed_shown b removed added w u e v f =
    subst (AllByRecursion IsUtf8) (ap (λ v. cond v b.added (b.removed ++ b.added)) (sym w))
    (both_all IsUtf8 b.removed b.added (subst (AllByRecursion IsUtf8) e u) (subst (AllByRecursion IsUtf8) f v))

-- one more of what a loop goes over
pub all_more : {X : Type 0} (P : X → Type 0) (xs : List X) (i : ℕ) (x : X) → i < length xs → x ≡ get_or xs i x → AllByRecursion P (take i xs) → P x
    → AllByRecursion P (take (i + 1) xs)
all_more P xs i x short is h p =
    subst (AllByRecursion P) (sym (take_more xs i x short))
    (both_all P (take i xs) (get_or xs i x ∷ []) h (subst P is p, tt))

pub text_more : (blocks : List Block) (i : ℕ) (b : Block) (old now all : List ℕ) → i < length blocks → b ≡ get_or blocks i b
    → old ++ history_text (drop i blocks) ≡ all → now ≡ old ++ block_text b → now ++ history_text (drop (i + 1) blocks) ≡ all
text_more blocks i b old now all short is h e =
    let rest = drop (i + 1) blocks in
    let tail : drop i blocks ≡ b ∷ rest = drop_more blocks i b short ∙ ap (λ x. x ∷ rest) (sym is) in
    ap (λ n. n ++ history_text rest) e ∙ append_assoc old (block_text b) (history_text rest)
    ∙ ap (λ bs. old ++ history_text bs) (sym tail) ∙ h

-- a date, a space and a time at the end of a text
pub parts_pushed : (old first second now date time : List ℕ) → first ≡ old ++ date → second ≡ first ++ 32 ∷ [] → now ≡ second ++ time
    → now ≡ old ++ (date ++ 32 ∷ time)
parts_pushed old first second now date time e f g =
    g ∙ ap (λ t. t ++ time) (f ∙ ap (λ t. t ++ 32 ∷ []) e)
    ∙ append_assoc (old ++ date) (32 ∷ []) time ∙ append_assoc old date (32 ∷ time)
