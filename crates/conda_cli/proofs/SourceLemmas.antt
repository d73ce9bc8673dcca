-- From why a run that reads channels has its answer to what it answers where no count rises.
use Rattle.std.proofs.Common.{inl, inr, [], ◌∷◌, ◌≡◌, ◌≤◌, ℕ, List, Option, Some, None, refl, sym, ap, subst, ◌∙◌, arith}
use Rattle.std.specs.Prelude.{Err, IfSome, IsSome, Ok, Result, String, map, ◌⊎◌}
use Rattle.std.specs.declared.alloc.Global.{Global}
use Rattle.std.specs.List.{All}
use Rattle.std.proofs.lemmas.Bool.{true≢false}
use Rattle.std.proofs.lemmas.List.Elements.{All-head, All-tail}
use Rattle.conda_base.specs.Reads.{Read}
use Rattle.conda_dev.specs.Fault.{Rose}
use Rattle.conda_dev.specs.Hosts.{HostState}
use Rattle.conda_dev.specs.Streams.{OutState}
use Rattle.conda_device.specs.Channels.{Files}
use Rattle.conda_record.specs.declared.pkg_record.PkgRecord.{PkgRecord}
use Rattle.conda_repodata.specs.declared.repodata.Repodata.{Repodata}
use Rattle.conda_index.specs.declared.virtuals.Virtual.{Virtual}
use Rattle.conda_sources.specs.Channels.{AreFound, Found, IsTold, found_in}
use Rattle.conda_sources.specs.Reading.{sources_read, text_fault_of}
use Rattle.conda_sources.specs.Sources.{IsIndexOf}
use Rattle.conda_sources.specs.declared.error.SourceErr.{SourceErr}
use Rattle.conda_sources.specs.declared.error.SourceErr.TheVariants as sources
use Rattle.conda_cli.specs.declared.fault.Fault.{Fault}
use Rattle.conda_cli.specs.declared.fault.Fault.TheVariants.{BadSpec, ChanFault, HostFault, Memory}
use Rattle.conda_cli.specs.Faults.{status_of}
use Rattle.conda_cli.specs.Answers.{Answer, AnswersWith, EndsWith, IsPut, IsQuiet, Told, answer_of, refusal}
use Rattle.conda_cli.specs.Sourcing.{AreFoundBy, AreTold, IsDue, IsSearched, IsSolved, IsSourceFault, IsSourcedAnswer, LacksChannel, Sourced, Sources, of_words, search_read, solve_read, source_fault, word_fault}
use Rattle.conda_requests.specs.Words.{WordFault, plain_words_read, word_fault_of, word_read}
use Rattle.conda_requests.specs.declared.error.WordErr.{WordErr}
use Rattle.conda_requests.specs.declared.error.WordErr.TheVariants as words
use Rattle.conda_spec.specs.Parts.{Parts}
use Rattle.conda_cli.proofs.GivenLemmas.{given_whole}
use Rattle.conda_cli.proofs.TextFaults.{IsTextFault, is_text_fault}

-- ---- channels that tell their files have one thing that can be found of them

one_told : (files : List ℕ → Option Files) (a b : Found) → a.channel ≡ b.channel → IsSome (files a.channel) → IsTold files a → IsTold files b → a ≡ b
one_told files a b same some told_a told_b =
    elim (files a.channel) as (λ all. files a.channel ≡ all → a ≡ b) [
      | None ↦ λ none. absurd (true≢false (sym (subst IsSome none some)))
      | Some all ↦ λ is.
          let of_a : a ≡ found_in a.channel all = subst (λ f. IfSome f (λ all. a ≡ found_in a.channel all)) is told_a in
          let of_b : b ≡ found_in b.channel all =
          subst (λ f. IfSome f (λ all. b ≡ found_in b.channel all)) (ap files (sym same) ∙ is) told_b in
          of_a ∙ ap (λ c. found_in c all) same ∙ sym of_b
    ] refl

one_found : (files : List ℕ → Option Files) (names : List (List ℕ)) (a b : List Found) → AreFound files names a → AreFound files names b
    → All (λ name. IsSome (files name)) names → a ≡ b
one_found files names [] [] f g some = refl
one_found files names [] (y ∷ ys) f g some = absurd (let e : map (λ one. one.channel) (y ∷ ys) ≡ [] = g.named ∙ sym f.named in cc)
one_found files names (x ∷ xs) [] f g some = absurd (let e : map (λ one. one.channel) (x ∷ xs) ≡ [] = f.named ∙ sym g.named in cc)
one_found files names (x ∷ xs) (y ∷ ys) f g some =
    let P : List ℕ → Type 0 = λ name. IsSome (files name) in
    let others : List Found → List (List ℕ) = map (λ one. one.channel) in
    let both : x.channel ∷ others xs ≡ y.channel ∷ others ys = f.named ∙ sym g.named in
    let first : x.channel ≡ y.channel = cc both in
    let rest : others xs ≡ others ys = cc both in
    let all : All P (x.channel ∷ others xs) = subst (All P) (sym f.named) some in
    let one : x ≡ y = one_told files x y first (All-head P x.channel (others xs) all) (All-head (IsTold files) x xs f.told)
    (All-head (IsTold files) y ys g.told) in
    let behind : xs ≡ ys = one_found files (others xs) xs ys (record { named = refl; told = All-tail (IsTold files) x xs f.told })
    (record { named = sym rest; told = All-tail (IsTold files) y ys g.told }) (All-tail P x.channel (others xs) all) in
    cc (one, behind)

-- ---- devices

-- where no count rises, want of memory is the only fault
memory_alone : (before now : Told) → IsQuiet before now → (fault : Fault) → IsSourceFault before.host now.host fault → status_of fault ≡ 5
memory_alone before now quiet HostFault is = absurd (quiet.host is)
memory_alone before now quiet ChanFault is = absurd (quiet.chans is)
memory_alone before now quiet Memory is = refl
memory_alone before now quiet _ is = absurd is

-- some count rose, or a channel has no repodata
abbrev pub MayFail : Sources → Told → Told → Type 0
MayFail from before now =
    Rose before.host.faults now.host.faults ⊎ Rose before.host.chan_faults now.host.chan_faults
    ⊎ Rose before.output.faults now.output.faults ⊎ LacksChannel from before.host

fault_of_three : (from : Sources) (before now : Told) (fault : Fault) → IsSourceFault before.host now.host fault → status_of fault ≡ 3 → MayFail from before now
fault_of_three from before now HostFault is three = inl is
fault_of_three from before now ChanFault is three = inr (inl is)
fault_of_three from before now Memory is three = absurd (omega (arith, three))
fault_of_three from before now _ is three = absurd is

-- of the faults of texts a missing channel alone has status 3
missing_has_three : (from : Sources) (before now : Told) (found : List Found) → AreFoundBy from before.host found → (fault : SourceErr)
    → sources_read from.virtuals found ≡ Err fault → IsTextFault fault → status_of (source_fault fault) ≡ 3 → MayFail from before now
missing_has_three from before now found are (sources.Missing channel) is text three = inr (inr (inr (found, channel, are, is)))
missing_has_three from before now found are (sources.BadRepodata path field) is text three = absurd (omega (arith, three))
missing_has_three from before now found are (sources.LongRepodata path) is text three = absurd (omega (arith, three))
missing_has_three from before now found are sources.ManyRecords is text three = absurd (omega (arith, three))
missing_has_three from before now found are _ is text three = absurd text

-- ---- what is answered

module _ {A : Type 0} (Is : A → List PkgRecord → Answer → Type 0) (asked : Read A Fault) (from : Sources) where
  -- the answer that was given is of the kind that the command's answer is
  gives_sourced : (c d : HostState) (x : Answer) (status : ℕ) (before now : OutState)
      → AnswersWith (λ answer. (answer ≡ x) ⊎ (answer ≡ refusal Memory [])) status before now
      → IsSourcedAnswer Is asked from c d x → AnswersWith (IsSourcedAnswer Is asked from c d) status before now
  gives_sourced c d x status before now gives is = (
    gives.0,
    elim gives.1 as (λ _. IsSourcedAnswer Is asked from c d gives.0) [
      | inl same ↦ subst (IsSourcedAnswer Is asked from c d) (sym same) is
      | inr memory ↦ inr (inr (Memory, tt, memory))
    ],
    gives.2,
  )

  -- where the channels tell their files and no count rises, the answer is the one that is due to these
  sourced_exactly : (status : ℕ) (before now : Told)
      → AnswersWith (IsSourcedAnswer Is asked from before.host now.host) status before.output now.output
      → AreTold from before.host → IsQuiet before now → (found : List Found) → AreFoundBy from before.host found
      → EndsWith (IsDue Is asked from.virtuals (sources_read from.virtuals found)) status before.output now.output
  sourced_exactly status before now gives told quiet found are =
      let whole : IsPut gives.0 status before.output now.output = given_whole gives.0 status before.output now.output quiet.output gives.2 in
      let Due : List Found → Answer → Type 0 = λ found. IsDue Is asked from.virtuals (sources_read from.virtuals found) in
      elim gives.1 as (λ _. EndsWith (Due found) status before.output now.output) [
        | inl words ↦ inl (gives.0, subst (λ r. IsDue Is r from.virtuals (sources_read from.virtuals found) gives.0) (sym words.1) words.2, whole)
        | inr (inl due) ↦
            let same : due.0 ≡ found = one_found (before.host.files from.folder) from.channels due.0 found due.1 are told in
            inl (gives.0, subst (λ f. Due f gives.0) same due.2, whole)
        | inr (inr faults) ↦ inr (whole.0 ∙ ap (λ a. a.status) faults.2 ∙ memory_alone before now quiet faults.0 faults.1)
      ]

  due_faults : ((fault : Fault) → asked ≡ Err fault → status_of fault ≡ 2)
      → ((x : A) (index : List PkgRecord) (answer : Answer) → Is x index answer → answer.status ≤ 1)
      → (before now : Told) (answer : Answer) (found : List Found) → AreFoundBy from before.host found
      → (words : Read A Fault) → asked ≡ words → (parts : Read (List Repodata) SourceErr) → sources_read from.virtuals found ≡ parts
      → IsDue Is words from.virtuals parts answer → answer.status ≡ 3 → MayFail from before now
  due_faults two small before now answer found are (Err fault) is parts read due three =
      let two : status_of fault ≡ 2 = two fault is in
      let same : answer.status ≡ status_of fault = ap (λ a. a.status) due in
      absurd (omega arith)
  due_faults two small before now answer found are (Ok x) is (Err fault) read due three =
      missing_has_three from before now found are fault read (is_text_fault from.virtuals found fault read)
      (sym (ap (λ a. a.status) due) ∙ three)
  due_faults two small before now answer found are (Ok x) is (Ok parts) read due three =
      let few : answer.status ≤ 1 = small x due.0 answer due.2 in
      absurd (omega arith)

  -- status 3 only where a count rose, or a channel has no repodata
  sourced_faults : ((fault : Fault) → asked ≡ Err fault → status_of fault ≡ 2)
      → ((x : A) (index : List PkgRecord) (answer : Answer) → Is x index answer → answer.status ≤ 1)
      → (status : ℕ) (before now : Told) → AnswersWith (IsSourcedAnswer Is asked from before.host now.host) status before.output now.output
      → status ≡ 3 → MayFail from before now
  sourced_faults two small status before now gives three =
      elim gives.2 as (λ _. MayFail from before now) [
        | inr cut ↦ inr (inr (inl cut.1))
        | inl put ↦
            let is : gives.0.status ≡ 3 = sym put.0 ∙ three in
            elim gives.1 as (λ _. MayFail from before now) [
              | inl words ↦
                  let two : status_of words.0 ≡ 2 = two words.0 words.1 in
                  let same : gives.0.status ≡ status_of words.0 = ap (λ a. a.status) words.2 in
                  absurd (omega arith)
              | inr (inl due) ↦ due_faults two small before now gives.0 due.0 due.1 asked refl (sources_read from.virtuals due.0) refl due.2 is
              | inr (inr faults) ↦ fault_of_three from before now faults.0 faults.1 (sym (ap (λ a. a.status) faults.2) ∙ is)
            ]
      ]

  -- all that such a run tells
  pub sourced_all : ((fault : Fault) → asked ≡ Err fault → status_of fault ≡ 2)
      → ((x : A) (index : List PkgRecord) (answer : Answer) → Is x index answer → answer.status ≤ 1)
      → (status : ℕ) (before now : Told) (x : Answer)
      → AnswersWith (λ answer. (answer ≡ x) ⊎ (answer ≡ refusal Memory [])) status before.output now.output
      → IsSourcedAnswer Is asked from before.host now.host x → Sourced Is asked from status before now
  sourced_all two small status before now x gives is =
      let g : AnswersWith (IsSourcedAnswer Is asked from before.host now.host) status before.output now.output =
      gives_sourced before.host now.host x status before.output now.output gives is in
      record {
        answers = g;
        exactly = sourced_exactly status before now g;
        faults = sourced_faults two small status before now g;
      }

-- ---- the two commands

words_have_two : {A : Type 0} (read : Read A WordFault) (fault : Fault) → of_words read ≡ Err fault → status_of fault ≡ 2
words_have_two (Ok asked) fault is = absurd (let e : (let r : Read _ Fault = Ok asked in r) ≡ Err fault = is in cc)
words_have_two (Err word) fault is =
    let e : BadSpec word.text word.at word.why ≡ fault = cc is in
    sym (ap status_of e)

searched_small : (spec : Parts) (index : List PkgRecord) (answer : Answer) → IsSearched spec index answer → answer.status ≤ 1
searched_small spec index answer is =
    elim is as (λ _. answer.status ≤ 1) [
      | inl report ↦ let e : answer.status ≡ 0 = ap (λ a. a.status) report.2 in omega arith
      | inr none ↦ let e : answer.status ≡ 1 = ap (λ a. a.status) none.1 in omega arith
    ]

solved_small : (specs : List Parts) (index : List PkgRecord) (answer : Answer) → IsSolved specs index answer → answer.status ≤ 1
solved_small specs index answer is =
    elim is as (λ _. answer.status ≤ 1) [
      | inl report ↦ let e : answer.status ≡ 0 = ap (λ a. a.status) report.2 in omega arith
      | inr none ↦ let e : answer.status ≡ 1 = ap (λ a. a.status) none.2 in omega arith
    ]

pub search_all : (word : List ℕ) (from : Sources) (status : ℕ) (before now : Told) (x : Answer)
    → AnswersWith (λ answer. (answer ≡ x) ⊎ (answer ≡ refusal Memory [])) status before.output now.output
    → IsSourcedAnswer IsSearched (search_read word) from before.host now.host x → Sourced IsSearched (search_read word) from status before now
search_all word from = sourced_all IsSearched (search_read word) from (words_have_two (word_read word)) searched_small

pub solve_all : (words : List (List ℕ)) (from : Sources) (status : ℕ) (before now : Told) (x : Answer)
    → AnswersWith (λ answer. (answer ≡ x) ⊎ (answer ≡ refusal Memory [])) status before.output now.output
    → IsSourcedAnswer IsSolved (solve_read words) from before.host now.host x → Sourced IsSolved (solve_read words) from status before now
solve_all words from = sourced_all IsSolved (solve_read words) from (words_have_two (plain_words_read words)) solved_small

-- ---- one step after another

-- the index answers, or there was no memory
pub index_answers : {A : Type 0} (Is : A → List PkgRecord → Answer → Type 0) (x : A) (from : Sources) (before now : HostState) (found : List Found)
    (parts : List Repodata) (index : List PkgRecord) (result : Result (String Global) Fault) → AreFoundBy from before found
    → sources_read from.virtuals found ≡ Ok parts → IsIndexOf parts from.virtuals index
    → Is x index (answer_of result []) ⊎ (result ≡ Err Memory) → IsSourcedAnswer Is (Ok x) from before now (answer_of result [])
index_answers Is x from before now found parts index result are read is answered =
    elim answered as (λ _. IsSourcedAnswer Is (Ok x) from before now (answer_of result [])) [
      | inl it ↦
          inr (inl (found, are, subst (λ r. IsDue Is (Ok x) from.virtuals r (answer_of result [])) (sym read) (index, is, it)))
      | inr memory ↦ inr (inr (Memory, tt, ap (λ r. answer_of r []) memory))
    ]

-- the sources have a fault, or a device
pub sources_fail : {A : Type 0} (Is : A → List PkgRecord → Answer → Type 0) (x : A) (from : Sources) (before now : HostState) (found : List Found)
    (error : SourceErr) → AreFoundBy from before found → IfSome (text_fault_of error) (λ fault. sources_read from.virtuals found ≡ Err fault)
    → ((error ≡ sources.ChanFault) → Rose before.chan_faults now.chan_faults) → ((error ≡ sources.HostFault) → Rose before.faults now.faults)
    → IsSourcedAnswer Is (Ok x) from before now (refusal (source_fault error) [])
sources_fail Is x from before now found (sources.BadRepodata path field) are read chan host =
    inr (inl (found, are, subst (λ r. IsDue Is (Ok x) from.virtuals r (refusal (source_fault (sources.BadRepodata path field)) [])) (sym read) refl))
sources_fail Is x from before now found (sources.LongRepodata path) are read chan host =
    inr (inl (found, are, subst (λ r. IsDue Is (Ok x) from.virtuals r (refusal (source_fault (sources.LongRepodata path)) [])) (sym read) refl))
sources_fail Is x from before now found (sources.Missing channel) are read chan host =
    inr (inl (found, are, subst (λ r. IsDue Is (Ok x) from.virtuals r (refusal (source_fault (sources.Missing channel)) [])) (sym read) refl))
sources_fail Is x from before now found sources.ManyRecords are read chan host =
    inr (inl (found, are, subst (λ r. IsDue Is (Ok x) from.virtuals r (refusal (source_fault sources.ManyRecords) [])) (sym read) refl))
sources_fail Is x from before now found sources.ChanFault are read chan host = inr (inr (ChanFault, chan refl, refl))
sources_fail Is x from before now found sources.HostFault are read chan host = inr (inr (HostFault, host refl, refl))
sources_fail Is x from before now found sources.Memory are read chan host = inr (inr (Memory, tt, refl))

-- the words are read as this
pub words_read_as : {A : Type 0} (Is : A → List PkgRecord → Answer → Type 0) (read : Read A WordFault) (x : A) (from : Sources) (before now : HostState)
    (answer : Answer) → read ≡ Ok x → IsSourcedAnswer Is (Ok x) from before now answer → IsSourcedAnswer Is (of_words read) from before now answer
words_read_as Is read x from before now answer same is =
    subst (λ r. IsSourcedAnswer Is r from before now answer) (sym (ap of_words same)) is

-- they have a fault, or there was no memory
pub words_fail : {A : Type 0} (Is : A → List PkgRecord → Answer → Type 0) (read : Read A WordFault) (from : Sources) (before now : HostState)
    (error : WordErr) → IfSome (word_fault_of error) (λ fault. read ≡ Err fault)
    → IsSourcedAnswer Is (of_words read) from before now (refusal (word_fault error) [])
words_fail Is read from before now (words.BadSpec text at why) is = inl (BadSpec text at why, ap of_words is, refl)
words_fail Is read from before now words.Memory is = inr (inr (Memory, tt, refl))
