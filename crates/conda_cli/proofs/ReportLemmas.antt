-- How the texts of a report are joined.
use Rattle.std.proofs.Common.{◌≡◌, ◌++◌, ◌∷◌, ◌<◌, ◌+◌, ℕ, List, [], ap, sym, suc, length, get_or, drop, ◌∙◌, append_assoc, arith}
use Rattle.std.proofs.Math.Seq.{drop-cons}
use Rattle.std.proofs.Math.Utf8.{encode}
use Rattle.std.proofs.lemmas.Str.{encode_ascii}
use Rattle.conda_history.specs.declared.revision.Block.{Block}
use Rattle.conda_cli.specs.Report.{revision_text, revisions_from}

-- a text to which a piece, a character, a piece and a character were put, one after the other
pub four_pieces : (before one two three whole a c : List ℕ) (x y : ℕ) → x < 128 → y < 128
    → one ≡ before ++ a → two ≡ one ++ encode x → three ≡ two ++ c → whole ≡ three ++ encode y → whole ≡ before ++ (a ++ x ∷ (c ++ y ∷ []))
four_pieces before one two three whole a c x y small little p q r s =
    s ∙ ap (λ l. l ++ encode y) (r ∙ ap (λ l. l ++ c) (q ∙ ap (λ l. l ++ encode x) p))
    ∙ ap (λ k. (((before ++ a) ++ k) ++ c) ++ encode y) (encode_ascii x small)
    ∙ ap (λ k. (((before ++ a) ++ x ∷ []) ++ c) ++ k) (encode_ascii y little)
    ∙ append_assoc ((before ++ a) ++ x ∷ []) c (y ∷ [])
    ∙ append_assoc (before ++ a) (x ∷ []) (c ++ y ∷ [])
    ∙ append_assoc before a (x ∷ (c ++ y ∷ []))

-- the next revision, and those after it
next_revision : (n : ℕ) (changes : List Block) (d : Block) → n < length changes
    → revisions_from n (drop n changes) ≡ revision_text n (get_or changes n d) ++ revisions_from (n + 1) (drop (n + 1) changes)
next_revision n changes d less =
    let e : suc n ≡ n + 1 = omega arith in
    ap (revisions_from n) (drop-cons changes n d less) ∙ ap (λ k. revision_text n (get_or changes n d) ++ revisions_from (n + 1) (drop k changes)) e

-- a text and the revisions that are left, after the next one was put
pub revision_put : (before text total : List ℕ) (n : ℕ) (changes : List Block) (change d : Block) → n < length changes → change ≡ get_or changes n d
    → text ≡ before ++ revision_text n change → before ++ revisions_from n (drop n changes) ≡ total
    → text ++ revisions_from (n + 1) (drop (n + 1) changes) ≡ total
revision_put before text total n changes change d less is put so_far =
    let rest : List ℕ = revisions_from (n + 1) (drop (n + 1) changes) in
    ap (λ t. t ++ rest) (put ∙ ap (λ b. before ++ revision_text n b) is) ∙ append_assoc before (revision_text n (get_or changes n d)) rest
    ∙ ap (λ t. before ++ t) (sym (next_revision n changes d less)) ∙ so_far
