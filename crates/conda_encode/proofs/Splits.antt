-- The split of a specification, from the pool of its name.
use Rattle.std.proofs.Common.{◌≡◌, ℕ, ◌+◌, ◌<◌, ◌^◌, List, [], ◌∷◌, ◌++◌, length, take, get_or, Ok, sym, ap, ◌∙◌, subst, inl, inr, arith}
use Rattle.std.proofs.lemmas.List.{get_or_append_left, get_or_push, length-append}
use Rattle.std.proofs.lemmas.List.Folds.{length-flat_map-take}
use Rattle.std.specs.List.{All}
use Rattle.conda_version.specs.Text.{trimmed}
use Rattle.conda_spec.specs.Parts.{Parts}
use Rattle.conda_spec.specs.Reading.{spec_read}
use Rattle.conda_record.specs.declared.pkg_record.PkgRecord.{PkgRecord}
use Rattle.conda_record.specs.declared.pool.NamePool.{NamePool}
use Rattle.conda_encode.specs.Clauses.{off, on}
use Rattle.conda_encode.specs.Known.{ArePools, IsSplit, IsSplitOf, starts_of}
use Rattle.conda_encode.specs.Matching.{names}
use Rattle.conda_encode.specs.Variables.{IsOneNamed, IsPlain, IsRequest, records}
use Rattle.conda_encode.specs.declared.asked.Asked.{Asked}
use Rattle.conda_encode.specs.declared.known.Split.{Split}
use Rattle.conda_encode.proofs.Kept.{kept, unnamed}
use Rattle.conda_encode.proofs.Members.{In, to_contains}
use Rattle.conda_encode.proofs.Ones.{Own, same_or_less}
use Rattle.conda_encode.proofs.Places.{barred_at, barred_nowhere, named_at, named_nowhere}
use Rattle.conda_encode.proofs.Starts.{start_at}

pub own_pools : (pools : List NamePool) → ArePools pools → Own pools
own_pools pools are = record {
  own = λ pool i pkg j. are.own pool (to_contains pools pool i) pkg (to_contains pool.recs pkg j);
  apart = are.apart;
}

pub pools_of : (pools : List NamePool) (items : List Asked) → IsRequest pools items → ArePools pools
pools_of pools items request = record { few = request.few; apart = request.apart; own = request.own }

none_in : (pools : List NamePool) (name own : List ℕ) → name ≡ own → All (λ (pool : NamePool). pool.name ≡ name → ⊥) pools → (pool : NamePool) → In pool pools → pool.name ≡ own → ⊥
none_in pools name own e all pool i same =
    let c = to_contains pools pool i in
    all c.0 pool c.1 (ap (λ (p : NamePool). p.name) c.2 ∙ same ∙ sym e)

pub split_nowhere : (pools : List NamePool) (spec : Parts) (split : Split) (name : List ℕ) → ArePools pools → IsPlain spec → name ≡ spec.name →
    All (λ (pool : NamePool). pool.name ≡ name → ⊥) pools → spec_read (trimmed split.text) ≡ Ok spec → split.named.items ≡ [] → split.barred.items ≡ [] → IsSplitOf pools spec split
split_nowhere pools spec split name are plain e none text named barred = record {
  text = text;
  named = named ∙ sym (named_nowhere spec pools plain (own_pools pools are) (none_in pools name spec.name e none));
  barred = barred ∙ sym (barred_nowhere spec pools (own_pools pools are) (none_in pools name spec.name e none));
}

pub start_fits : (pools : List NamePool) (starts : List ℕ) (at : ℕ) (pool : NamePool) (recs : List PkgRecord) → ArePools pools → starts ≡ starts_of 1 pools → at < length pools →
    recs ≡ (get_or pools at pool).recs → get_or starts at 0 + length recs < 2 ^ 31
start_fits pools starts at pool recs are e lt same =
    let a : get_or starts at 0 ≡ 1 + length (records (take at pools)) = ap (λ s. get_or s at 0) e ∙ start_at 1 pools at 0 lt in
    let b = length-flat_map-take (λ (p : NamePool). p.recs) pools at pool lt in
    let c : length recs ≡ length (get_or pools at pool).recs = ap length same in
    omega (arith, are.few, a, b, c)

pub split_there : (pools : List NamePool) (spec : Parts) (split : Split) (name : List ℕ) (starts : List ℕ) (at : ℕ) (pool : NamePool) (recs : List PkgRecord) →
    ArePools pools → IsPlain spec → name ≡ spec.name → IsOneNamed pools at name → spec_read (trimmed split.text) ≡ Ok spec → starts ≡ starts_of 1 pools →
    recs ≡ (get_or pools at pool).recs → split.named.items ≡ kept (names spec) on (get_or starts at 0) recs →
    split.barred.items ≡ kept (unnamed spec) off (get_or starts at 0) recs → IsSplitOf pools spec split
split_there pools spec split name starts at pool recs are plain e one text st same named barred =
    let a : get_or starts at 0 ≡ 1 + length (records (take at pools)) = ap (λ s. get_or s at 0) st ∙ start_at 1 pools at 0 one.0 in
    let r : recs ≡ (get_or pools at pool).recs = same in
    let n : (get_or pools at pool).name ≡ spec.name = one.1 pool ∙ e in
    record {
      text = text;
      named = named ∙ ap (λ k. kept (names spec) on k recs) a ∙ ap (kept (names spec) on (1 + length (records (take at pools)))) r
          ∙ sym (named_at spec pools at pool plain (own_pools pools are) one.0 n);
      barred = barred ∙ ap (λ k. kept (unnamed spec) off k recs) a ∙ ap (kept (unnamed spec) off (1 + length (records (take at pools)))) r
          ∙ sym (barred_at spec pools at pool (own_pools pools are) one.0 n);
    }

-- a split whose text is read as the specification is that of the specification
pub split_again : (pools : List NamePool) (spec : Parts) (split : Split) (text : List ℕ) → IsSplit pools split → split.text ≡ text → spec_read (trimmed text) ≡ Ok spec → IsSplitOf pools spec split
split_again pools spec split text (other, is) same again =
    let e : Ok other ≡ Ok spec = sym is.text ∙ ap (λ t. spec_read (trimmed t)) same ∙ again in
    let f : other ≡ spec = cc in
    let P : Parts → Type 0 = λ s. IsSplitOf pools s split in
    subst P f is

pub all_more : (pools : List NamePool) (splits : List Split) (split : Split) (after : List Split) → after ≡ splits ++ split ∷ [] → All (IsSplit pools) splits → IsSplit pools split → All (IsSplit pools) after
all_more pools splits split after e all is k d lt =
    let P : Split → Type 0 = λ s. IsSplit pools s in
    let short : k < length (splits ++ split ∷ []) = omega (arith, lt, ap length e) in
    let at : get_or after k d ≡ get_or (splits ++ split ∷ []) k d = ap (λ xs. get_or xs k d) e in
    elim (same_or_less k (length splits)) [
      | inr (inl h) ↦ subst P (sym (at ∙ get_or_append_left splits (split ∷ []) d k h)) (all k d h)
      | inl f ↦ subst P (sym (at ∙ get_or_push splits split d k (sym f))) is
      | inr (inr h) ↦ absurd (omega (arith, length-append splits (split ∷ [])))
    ]
