-- Where a text is cut at `::` or loses its last character. This project's own words for what Rust's `split_once` and `strip_suffix` give.
use Rattle.std.specs.Prelude.{ℕ, ◌==◌, ◌&&◌, if◌then◌else◌, List, [], ◌∷◌, drop, Option, None, Some}
use Rattle.std.specs.Option.{option_map}
use Rattle.conda_base.specs.Signs.{colon}
use Rattle.conda_base.specs.Texts.{begins_with, in_front}

-- what stands before the first `::`, and behind it
abbrev pub cut_colons : List ℕ → Option (List ℕ × List ℕ)
cut_colons [] = None
cut_colons (b ∷ bs) = if b == colon && begins_with colon bs then Some ([], drop 1 bs) else option_map (in_front b) (cut_colons bs)

-- a text that ends with this character, without it
abbrev pub without_last : ℕ → List ℕ → Option (List ℕ)
without_last mark [] = None
without_last mark (b ∷ []) = if b == mark then Some [] else None
without_last mark (b ∷ c ∷ bs) = option_map (λ front. b ∷ front) (without_last mark (c ∷ bs))
