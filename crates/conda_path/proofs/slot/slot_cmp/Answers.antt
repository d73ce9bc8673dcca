use Rattle.std.proofs.Common.{◌≡◌, ℕ, List, [], ◌∷◌, ◌++◌, append_assoc, ap, refl, sym, ◌∙◌}
use Rattle.std.specs.Ordering.{nat_cmp}
use Rattle.std.proofs.lemmas.Iterator.{YieldsList-from_slice}
use Rattle.std.proofs.lemmas.Iterator.Consumers.{YieldsList-from_chain}
use Rattle.std.proofs.lemmas.Iterator.Search.{cmp_from_yields_List}
use Rattle.conda_base.specs.Signs.{slash}
use Rattle.conda_path.proofs.SlotLemmas.{moved}
use Rattle.conda_path.proofs.slot.slot_cmp.Goals as goal

-- the pieces that the iterators give, one after another
regroup : (x y z : List ℕ) → (((x ++ slash ∷ []) ++ y) ++ slash ∷ []) ++ z ≡ x ++ slash ∷ (y ++ slash ∷ z)
regroup x y z = simp append_assoc

pub returns : goal.returns
returns c =
    let a = c.args.a.now in
    let b = c.args.b.now in
    let a1 = YieldsList-from_chain {s = c.chain.result}
    (YieldsList-from_slice a.channel (ap (λ s. s.rest.now) c.chain.ensures.first ∙ c.iter.ensures.rest ∙ c.as_bytes.ensures.value ∙ c.as_str.ensures))
    (YieldsList-from_slice (slash ∷ []) c.chain.ensures.second.0) c.chain.ensures.first_done c.chain.ensures.second_done
    in
    let a2 = YieldsList-from_chain {s = c.chain-2.result} (moved c.chain-2.ensures.first a1)
    (YieldsList-from_slice a.subdir (c.chain-2.ensures.second.0 ∙ c.as_bytes-2.ensures.value ∙ c.as_str-2.ensures)) c.chain-2.ensures.first_done c.chain-2.ensures.second_done
    in
    let a3 = YieldsList-from_chain {s = c.chain-3.result} (moved c.chain-3.ensures.first a2)
    (YieldsList-from_slice (slash ∷ []) c.chain-3.ensures.second.0) c.chain-3.ensures.first_done c.chain-3.ensures.second_done
    in
    let a4 = YieldsList-from_chain {s = c.chain-ours.result} (moved c.chain-ours.ensures.first a3)
    (YieldsList-from_slice a.dist (c.chain-ours.ensures.second.0 ∙ c.as_bytes-3.ensures.value ∙ c.text.ensures.same)) c.chain-ours.ensures.first_done c.chain-ours.ensures.second_done
    in
    let b1 = YieldsList-from_chain {s = c.chain-4.result}
    (YieldsList-from_slice b.channel (ap (λ s. s.rest.now) c.chain-4.ensures.first ∙ c.iter-2.ensures.rest ∙ c.as_bytes-4.ensures.value ∙ c.as_str-3.ensures))
    (YieldsList-from_slice (slash ∷ []) c.chain-4.ensures.second.0) c.chain-4.ensures.first_done c.chain-4.ensures.second_done
    in
    let b2 = YieldsList-from_chain {s = c.chain-5.result} (moved c.chain-5.ensures.first b1)
    (YieldsList-from_slice b.subdir (c.chain-5.ensures.second.0 ∙ c.as_bytes-5.ensures.value ∙ c.as_str-4.ensures)) c.chain-5.ensures.first_done c.chain-5.ensures.second_done
    in
    let b3 = YieldsList-from_chain {s = c.chain-6.result} (moved c.chain-6.ensures.first b2)
    (YieldsList-from_slice (slash ∷ []) c.chain-6.ensures.second.0) c.chain-6.ensures.first_done c.chain-6.ensures.second_done
    in
    let b4 = YieldsList-from_chain {s = c.chain-theirs.result} (moved c.chain-theirs.ensures.first b3)
    (YieldsList-from_slice b.dist (c.chain-theirs.ensures.second.0 ∙ c.as_bytes-6.ensures.value ∙ c.text-2.ensures.same)) c.chain-theirs.ensures.first_done c.chain-theirs.ensures.second_done
    in
    rw (sym (regroup a.channel a.subdir a.dist), sym (regroup b.channel b.subdir b.dist))
    (cmp_from_yields_List (λ other it. it ≡ other) c.chain-theirs.result nat_cmp c.cmp.result c.cmp.ensures.ran a4 (λ it h. moved h b4) (λ x y. refl))
