use Rattle.std.proofs.Common.{◌≡◌, Bool, true, false, List, [], ◌∷◌, ◌∙◌, ap, map, refl}
use Rattle.rayon.proofs.ListFacts.{IfOk-then}
use Rattle.rayon.proofs.ToStd.{answers-by_ref, filter_by_mask-filter, slice-AllZip}
use Rattle.rayon.specs.Lists.{filter_by_mask}
use Rattle.conda_encode.specs.Matching.{names}
use Rattle.conda_index.proofs.search.matching.Goals as goal

map_mask : {X Y : Type 0} (f : X → Y) (xs : List X) (bs : List Bool) → map f (filter_by_mask xs bs) ≡ filter_by_mask (map f xs) bs
map_mask f [] bs = refl
map_mask f (x ∷ xs) [] = refl
map_mask f (x ∷ xs) (true ∷ bs) = ap (λ l. f x ∷ l) (map_mask f xs bs)
map_mask f (x ∷ xs) (false ∷ bs) = map_mask f xs bs

pub returns : goal.returns
returns g c =
    IfOk-then c.collect.result _ _ c.collect.ensures
    (λ v h.
    let chain = rw (c.filter.ensures.base, c.filter.ensures.f) at h.1 in
    let slice = chain.2 ∙ c.par_iter.ensures in
    ap (map (λ pkg. pkg.now)) (h.2 ∙ chain.4) ∙ map_mask (λ pkg. pkg.now) chain.0 chain.1
    ∙ ap (λ l. filter_by_mask l chain.1) slice
    ∙ filter_by_mask-filter (names c.args.spec.now) c.args.records.now chain.1
    (slice-AllZip chain.0 c.args.records.now slice (λ x b. b ≡ names c.args.spec.now x) chain.1
    (answers-by_ref (λ z. names c.args.spec.now z.now) chain.0 chain.1 chain.3)))
