-- The lines of a history as a grammar, after conda's history.py: what each line says.
use Rattle.std.specs.Prelude.{◌≡◌, ◌≢◌, ℕ, ◌⊎◌, Bool, true, false, ◌||◌, ◌==◌, List, [], ◌∷◌, ◌++◌, codes, IsUtf8}
use Rattle.std.specs.List.{list_all, slice_split}
use Rattle.conda_base.specs.Signs.{carriage_return, dash, hash, newline, plus, space}
use Rattle.conda_base.specs.Texts.{begins_with, is_byte}
use Rattle.conda_path.specs.Dists.{IsDist}
use Rattle.conda_path.specs.Files.{IsFileOf}
use Rattle.conda_history.specs.declared.line.Line.{Line}
use Rattle.conda_history.specs.declared.line.Line.TheVariants.{Nothing, Header, Removed, Added, Plain}
use Rattle.conda_history.specs.declared.stamp.Stamp.{Stamp}
use Rattle.conda_history.specs.Stamps.{Exists, moment_text}

-- the lines of a text: what stands between its newlines, also before the first and behind the last one
abbrev pub lines_of : List ℕ → List (List ℕ)
lines_of text = slice_split (is_byte newline) text

-- a space or a carriage return
abbrev pub is_blank : ℕ → Bool
is_blank b = b == space || b == carriage_return

-- it neither begins nor ends with a blank
pub record IsBare (text : List ℕ) : Type 0 where
  pub front : (b : ℕ) (rest : List ℕ) → text ≡ b ∷ rest → is_blank b ≡ false
  pub back : (rest : List ℕ) (b : ℕ) → text ≡ rest ++ b ∷ [] → is_blank b ≡ false

-- the line is this text with blanks around it
pub record IsStripped (raw text : List ℕ) : Type 0 where
  pub front : List ℕ
  pub back : List ℕ
  pub whole : raw ≡ front ++ (text ++ back)
  pub blank_front : list_all is_blank front ≡ true
  pub blank_back : list_all is_blank back ≡ true
  pub bare : IsBare text

-- a header line: the marks `==>` and `<==`, and between them a moment that exists, with spaces around it or without
pub record IsHeader (text : List ℕ) (stamp : Stamp) : Type 0 where
  pub front : List ℕ
  pub back : List ℕ
  pub whole : text ≡ codes "==>" ++ ((front ++ (moment_text stamp ++ back)) ++ codes "<==")
  pub spaces_front : list_all (is_byte space) front ≡ true
  pub spaces_back : list_all (is_byte space) back ≡ true
  pub moment : Exists stamp

-- a text names a dist: the dist, with the ending of a package file or without one, and in front of it a channel and `::` or nothing
pub record NamesDist (text dist : List ℕ) : Type 0 where
  pub file : List ℕ
  pub channel : (text ≡ file) ⊎ ((channel : List ℕ) × (text ≡ channel ++ (codes "::" ++ file)))
  pub ending : (file ≡ dist) ⊎ IsFileOf file dist
  pub rule : IsDist dist

-- a line without a sign: it begins with none of `#`, `-` and `+`, and hasn't the marks of a header line
pub record IsUnsigned (text : List ℕ) : Type 0 where
  pub no_comment : begins_with hash text ≡ false
  pub no_minus : begins_with dash text ≡ false
  pub no_plus : begins_with plus text ≡ false
  pub no_header : (middle : List ℕ) → text ≢ codes "==>" ++ (middle ++ codes "<==")

-- what a line between its blanks says
abbrev pub Says : List ℕ → Line → Type 0
-- an empty line, or a comment
Says text Nothing = (text ≡ []) ⊎ ((rest : List ℕ) × (text ≡ hash ∷ rest))
Says text (Header stamp) = IsHeader text stamp
Says text (Removed dist) = (rest : List ℕ) × (text ≡ dash ∷ rest) × NamesDist rest dist
Says text (Added dist) = (rest : List ℕ) × (text ≡ plus ∷ rest) × NamesDist rest dist
Says text (Plain dist) = IsUnsigned text × NamesDist text dist

-- what a line says
pub record Means (raw : List ℕ) (line : Line) : Type 0 where
  pub utf8 : IsUtf8 raw
  pub text : List ℕ
  pub stripped : IsStripped raw text
  pub says : Says text line

-- each line says this, in order
abbrev pub AreLines : List (List ℕ) → List Line → Type 0
AreLines [] [] = Unit {0}
AreLines (raw ∷ raws) (line ∷ lines) = Means raw line × AreLines raws lines
AreLines [] (line ∷ lines) = ⊥
AreLines (raw ∷ raws) [] = ⊥
