-- Texts that are written piece by piece.
use Rattle.std.proofs.Common.{◌≡◌, ℕ, List, ◌++◌, ap, ◌∙◌, append_assoc}

pub three_pieces : (start one two three first second third : List ℕ) → first ≡ start ++ one → second ≡ first ++ two → third ≡ second ++ three → third ≡ start ++ (one ++ (two ++ three))
three_pieces start one two three first second third p q r =
    r
    ∙ ap (λ (l : List ℕ). l ++ three) (q ∙ ap (λ (l : List ℕ). l ++ two) p)
    ∙ append_assoc (start ++ one) two three
    ∙ append_assoc start one (two ++ three)
