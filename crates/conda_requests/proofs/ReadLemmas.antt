-- Words read one after another.
use Rattle.std.specs.Prelude.{◌≡◌, ℕ, ◌+◌, ◌<◌, Option, None, Some, IfSome, List, [], ◌∷◌, ◌++◌, length, drop, slice_index_or, Ok, Err}
use Rattle.std.proofs.Common.{refl, ap, sym, ◌∙◌, subst}
use Rattle.std.proofs.lemmas.List.{append_assoc, drop_more}
use Rattle.conda_base.specs.Reads.{Read, ◌>>=◌}
use Rattle.conda_spec.specs.Parts.{Parts}
use Rattle.conda_requests.specs.Words.{WordFault, plain_read, plain_words_read, word_fault_of}
use Rattle.conda_requests.specs.declared.error.WordErr.{WordErr}

-- what an error names is this fault, which the text has
pub has_fault : {A : Type 0} (error : WordErr) (fault : WordFault) (read : Read A WordFault)
    → IfSome (word_fault_of error) (λ found. found ≡ fault) → read ≡ Err fault
    → IfSome (word_fault_of error) (λ found. read ≡ Err found)
has_fault error fault read is has = by (word_fault_of error) is
  where
    by : (named : Option WordFault) → IfSome named (λ found. found ≡ fault) → IfSome named (λ found. read ≡ Err found)
    by None h = tt
    by (Some found) h = has ∙ ap Err (sym h)

-- what is read of the words so far, and behind it what is read of the rest
abbrev pub read_on : List Parts → Read (List Parts) WordFault → Read (List Parts) WordFault
read_on made rest = rest >>= (λ specs. Ok (made ++ specs))

-- the words before a place are read: with those behind it they are what all of them are
abbrev pub IsReadTo : List Parts → ℕ → List (List ℕ) → Type 0
IsReadTo made at words = read_on made (plain_words_read (drop at words)) ≡ plain_words_read words

behind : (made : List Parts) (spec : Parts) (rest : Read (List Parts) WordFault)
    → read_on made (rest >>= (λ more. Ok (spec ∷ more))) ≡ read_on (made ++ spec ∷ []) rest
behind made spec (Ok more) = ap Ok (sym (append_assoc made (spec ∷ []) more))
behind made spec (Err fault) = refl

-- what is read of a word stands behind what was read before
more : (made : List Parts) (word : List ℕ) (rest : List (List ℕ)) (spec : Parts) → plain_read word ≡ Ok spec
    → read_on made (plain_words_read (word ∷ rest)) ≡ read_on (made ++ spec ∷ []) (plain_words_read rest)
more made word rest spec is =
    ap (λ (r : Read Parts WordFault). read_on made (r >>= (λ x. plain_words_read rest >>= (λ xs. Ok (x ∷ xs))))) is
    ∙ behind made spec (plain_words_read rest)

-- what is wrong with a word is wrong with the words from it on
wrong : (made : List Parts) (word : List ℕ) (rest : List (List ℕ)) (fault : WordFault) → plain_read word ≡ Err fault
    → read_on made (plain_words_read (word ∷ rest)) ≡ Err fault
wrong made word rest fault is =
    ap (λ (r : Read Parts WordFault). read_on made (r >>= (λ x. plain_words_read rest >>= (λ xs. Ok (x ∷ xs))))) is

from_word : (words : List (List ℕ)) (at : ℕ) (word : List ℕ) → at < length words → word ≡ slice_index_or words at word
    → word ∷ drop (at + 1) words ≡ drop at words
from_word words at word below is =
    ap (λ w. w ∷ drop (at + 1) words) is ∙ sym (drop_more words at word below)

-- so it is with the word at that place, once it is read
pub next : (words : List (List ℕ)) (at : ℕ) (word text : List ℕ) (made new : List Parts) (spec : Parts)
    → at < length words → word ≡ slice_index_or words at word → text ≡ word → plain_read text ≡ Ok spec → new ≡ made ++ spec ∷ []
    → IsReadTo made at words → IsReadTo new (at + 1) words
next words at word text made new spec below is same given pushed done =
    ap (λ list. read_on list (plain_words_read (drop (at + 1) words))) pushed
    ∙ sym (more made word (drop (at + 1) words) spec (ap plain_read (sym same) ∙ given))
    ∙ ap (λ list. read_on made (plain_words_read list)) (from_word words at word below is)
    ∙ done

-- what is wrong with that word is wrong with the words
pub stop : (words : List (List ℕ)) (at : ℕ) (word text : List ℕ) (made : List Parts) (error : WordErr)
    → at < length words → word ≡ slice_index_or words at word → text ≡ word
    → IfSome (word_fault_of error) (λ fault. plain_read text ≡ Err fault) → IsReadTo made at words
    → IfSome (word_fault_of error) (λ fault. plain_words_read words ≡ Err fault)
stop words at word text made error below is same given done = by (word_fault_of error) given
  where
    by : (named : Option WordFault) → IfSome named (λ fault. plain_read text ≡ Err fault)
        → IfSome named (λ fault. plain_words_read words ≡ Err fault)
    by None h = tt
    by (Some fault) h =
        sym done
        ∙ ap (λ list. read_on made (plain_words_read list)) (sym (from_word words at word below is))
        ∙ wrong made word (drop (at + 1) words) fault (ap plain_read (sym same) ∙ h)
