-- What is read from the words of a command line, by the grammar and by the first fault.
use Rattle.std.proofs.Common.{◌≡◌, ℕ, ◌⊎◌, inl, inr, List, [], ◌∷◌, ◌++◌, refl, sym, ap, subst, ◌∙◌, lit≤}
use Rattle.std.specs.Prelude.{Option, None, Some, Ok, Err}
use Rattle.conda_base.specs.Reads.{Read, ◌>>=◌, unless}
use Rattle.conda_base.specs.Signs.{equals}
use Rattle.conda_base.specs.Texts.{cut_first}
use Rattle.conda_words.specs.Grammar.{HasFault, IsNestedAt, Means}
use Rattle.conda_words.specs.Reading.{Fault, command_read, nested_fault, words_read}
use Rattle.conda_words.specs.Says.{are_apart, different}
use Rattle.conda_words.specs.declared.command.Command.{Command}
use Rattle.conda_words.specs.declared.error.Why.{Why}
use Rattle.conda_words.specs.declared.error.Why.TheVariants as whys
use Rattle.conda_words.specs.declared.reading.Reading.{Reading}
use Rattle.conda_words.proofs.CommandLemmas.{IsReadAs, command_reads, fault_read, pair_at, read_as, read_fault}
use Rattle.conda_words.proofs.FirstLemmas.{first, first_some, some_first}
use Rattle.conda_words.proofs.PrefixLemmas.{is_nested_here, known_behind, known_on, nested_none, nested_so, none_nested}
use Rattle.conda_words.proofs.ReadingLemmas.{SecondErr, bind_err, bind_ok, unless_err, unless_ok}
use Rattle.conda_words.proofs.StepLemmas.{later, nested_behind}

nested_is_none : (o : Option ℕ) → nested_fault o ≡ None → o ≡ None
nested_is_none None h = refl
nested_is_none (Some at) h = cc

pub nested_some : (o : Option ℕ) (at : ℕ) (why : Why) → nested_fault o ≡ Some (at, why) → (o ≡ Some at) × (why ≡ whys.Nested)
nested_some None at why e = cc
nested_some (Some n) at why e = let same = pair_at at n why whys.Nested e in (ap (λ m. Some m) (sym same.0), same.1)

later_alone : (o : Option ℕ) → later None o ≡ o
later_alone None = refl
later_alone (Some n) = refl

-- what stands behind the reading of the words
abbrev after : Reading → Read Command Fault
after r = unless (nested_fault r.nested) r.command

module _ (cut_whole : (text before behind : List ℕ) → cut_first equals text ≡ Some (before, behind)
    → text ≡ before ++ equals ∷ behind) where
  as_read : (words : List (List ℕ)) (r : Reading) → command_read None [] None words ≡ Ok r → IsReadAs None [] None words r
  as_read words r h = read_as None [] None cut_whole words r (lit≤ tt) h

  nested_of : (words : List (List ℕ)) (r : Reading) (is : IsReadAs None [] None words r)
      → r.nested ≡ first (nested_behind None []) [] is.command.is
  nested_of words r is = ap (λ s. s.nested) is.all ∙ later_alone (first (nested_behind None []) [] is.command.is)

  pub meaning_of : (words : List (List ℕ)) (c : Command) → words_read words ≡ Ok c → Means words c
  unfolding words_read
  meaning_of words c h =
      let outer = bind_ok (command_read None [] None words) after c h in
      let is = as_read words outer.value outer.first in
      let end = unless_ok (nested_fault outer.value.nested) outer.value.command c outer.second in
      let none = sym (nested_of words outer.value is) ∙ nested_is_none outer.value.nested end.0 in
      subst (Means words) end.1 (record {
        command = is.command;
        few = is.few;
        apart = ap (λ (d : Command). are_apart (different d.prefixes)) is.command.command ∙ none_nested None [] [] is.command.is refl none;
      })

  nested_at : (words : List (List ℕ)) (at : ℕ) (why : Why) → SecondErr (command_read None [] None words) after (at, why)
      → IsNestedAt words at why
  nested_at words at why s =
      let is = as_read words s.value s.first in
      let found = nested_some s.value.nested at why (unless_err (nested_fault s.value.nested) s.value.command (at, why) s.second) in
      let bad = some_first (nested_behind None []) [] is.command.is at (sym (nested_of words s.value is) ∙ found.0) in
      let here = is_nested_here None (known_behind [] bad.front) bad.bad at bad.wrong in
      record {
        c = s.value.command;
        command = is.command;
        few = is.few;
        front = bad.front;
        bad = bad.bad;
        behind = bad.behind;
        split = bad.split;
        apart = none_nested None [] [] bad.front refl bad.right;
        nested = ap are_apart (known_on [] bad.front bad.bad) ∙ here.0;
        place = here.1;
        cause = found.1;
      }

  pub fault_of : (words : List (List ℕ)) (at : ℕ) (why : Why) → words_read words ≡ Err (at, why) → HasFault words at why
  unfolding words_read
  fault_of words at why h = by (bind_err (command_read None [] None words) after (at, why) h)
    where
      by : (command_read None [] None words ≡ Err (at, why)) ⊎ SecondErr (command_read None [] None words) after (at, why)
          → HasFault words at why
      by (inl e) = inl (read_fault None [] None words at why e)
      by (inr s) = inr (nested_at words at why s)

pub read_meaning : (words : List (List ℕ)) (c : Command) → Means words c → words_read words ≡ Ok c
unfolding words_read
read_meaning words c m =
    ap (λ r. r >>= after) (command_reads None [] None words c m.command m.few)
    ∙ ap (λ o. unless (nested_fault o) c)
    (later_alone (first (nested_behind None []) [] m.command.is)
    ∙ nested_none None [] [] m.command.is (ap (λ (d : Command). are_apart (different d.prefixes)) (sym m.command.command) ∙ m.apart))

pub fault_read_at : (words : List (List ℕ)) (at : ℕ) (why : Why) → HasFault words at why → words_read words ≡ Err (at, why)
unfolding words_read
fault_read_at words at why (inl h) = ap (λ r. r >>= after) (fault_read None [] None words at why h)
fault_read_at words at why (inr n) =
    ap (λ r. r >>= after) (command_reads None [] None words n.c n.command n.few)
    ∙ ap (λ o. unless (nested_fault o) n.c)
    (later_alone (first (nested_behind None []) [] n.command.is)
    ∙ ap (first (nested_behind None []) []) n.split
    ∙ first_some (nested_behind None []) [] n.front n.bad n.behind at (nested_none None [] [] n.front n.apart)
    (nested_so None (known_behind [] n.front) n.bad n.apart (sym (ap are_apart (known_on [] n.front n.bad)) ∙ n.nested)
    ∙ ap (λ m. Some m) (sym n.place)))
    ∙ cause_pair (sym n.cause)
  where
    cause_pair : whys.Nested ≡ why → (let m : Read Command Fault = Err (at, whys.Nested) in m) ≡ Err (at, why)
    cause_pair q = cc
