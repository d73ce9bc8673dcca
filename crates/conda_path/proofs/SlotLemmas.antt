-- A text of a slot key is that of one key, where the channel and the dist hold no `/`.
use Rattle.std.proofs.Common.{◌≡◌, ◌↔◌, ℕ, List, ◌∷◌, ◌++◌, Some, ap, refl, sym, ◌∙◌}
use Rattle.std.specs.Prelude.{Option}
use Rattle.std.proofs.lemmas.Iterator.{YieldsList}
use Rattle.conda_base.specs.Signs.{slash}
use Rattle.conda_base.specs.Texts.{IsFreeOf, cut_first, cut_last}
use Rattle.conda_path.specs.Slots.{HasNoSlash, slot_text}
use Rattle.conda_path.specs.declared.slot.SlotKey.{SlotKey}

-- what the laws of cuts say of `/`
pub record Laws : Type 0 where
  pub first : (text before behind : List ℕ) → (cut_first slash text ≡ Some (before, behind)) ↔ ((text ≡ before ++ slash ∷ behind) × IsFreeOf slash before)
  pub last : (text before behind : List ℕ) → (cut_last slash text ≡ Some (before, behind)) ↔ ((text ≡ before ++ slash ∷ behind) × IsFreeOf slash behind)

same_halves : (a b : List ℕ × List ℕ) → Some a ≡ Some b → a ≡ b
same_halves a b h = cc

key_of : List ℕ → List ℕ → List ℕ → SlotKey
key_of channel subdir dist = record { channel = channel; subdir = subdir; dist = dist }

pub one_key_of : Laws → (a b : SlotKey) → HasNoSlash a → HasNoSlash b → slot_text a ≡ slot_text b → a ≡ b
unfolding key_of
one_key_of laws a b g h e =
    let outer = same_halves (a.channel, a.subdir ++ slash ∷ a.dist) (b.channel, b.subdir ++ slash ∷ b.dist)
    (sym ((laws.first (slot_text a) _ _).1 (refl, g.channel)) ∙ (laws.first (slot_text a) _ _).1 (e, h.channel))
    in
    let behind : a.subdir ++ slash ∷ a.dist ≡ b.subdir ++ slash ∷ b.dist = ap (λ halves. halves.1) outer in
    let inner = same_halves (a.subdir, a.dist) (b.subdir, b.dist)
    (sym ((laws.last (a.subdir ++ slash ∷ a.dist) _ _).1 (refl, g.dist)) ∙ (laws.last (a.subdir ++ slash ∷ a.dist) _ _).1 (behind, h.dist))
    in
    let channels : a.channel ≡ b.channel = ap (λ halves. halves.0) outer in
    let subdirs : a.subdir ≡ b.subdir = ap (λ halves. halves.0) inner in
    let dists : a.dist ≡ b.dist = ap (λ halves. halves.1) inner in
    let all : key_of a.channel a.subdir a.dist ≡ key_of b.channel b.subdir b.dist = cc in
    all

-- what an iterator gives, where another is the same
pub moved : {S A B : Type 0} {steps : S → Option A → S → Type 0} {v : A → B} {s t : S} {xs : List B} → s ≡ t → YieldsList steps v t xs → YieldsList steps v s xs
moved e h = rw e h
