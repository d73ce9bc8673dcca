-- The packages that go, and the paths of their goods and meta files.
use Rattle.std.proofs.Common.{◌↔◌, ℕ, inl, inr, List, sym, subst}
use Rattle.std.proofs.lemmas.List.Elements.{Contains-append_cases, Contains-append_left, Contains-append_right}
use Rattle.std.specs.List.{Contains}
use Rattle.conda_goods.specs.Goods.{paths_of}
use Rattle.conda_meta.specs.Reading.{dists_of}
use Rattle.conda_meta.specs.Shows.{prefix_path}
use Rattle.conda_meta.specs.declared.linked.Linked.{Linked}
use Rattle.conda_meta.specs.declared.revision.Revision.{Revision}
use Rattle.conda_changes.specs.Paths.{HasJust, Texts, is_in}
use Rattle.conda_moves.specs.Going.{AreGoing, Goes, IsGoingFile, IsGoingGood, changed_dists, file_paths, good_paths, those_of}
use Rattle.conda_moves.proofs.ListLemmas.{from_filter, from_flat, from_map, in_filter, in_flat, in_map}
use Rattle.conda_moves.proofs.PathLemmas.{in_set, in_texts}

-- the packages whose dists are among the changed ones are those that go
pub are_going : (dists : Texts) (revision : Revision) (now : List Linked) → HasJust dists (changed_dists revision)
    → AreGoing now revision (those_of dists now)
are_going dists revision now has = λ one. (
  λ among.
      let r = from_filter (λ (p : Linked). is_in dists p.rec.dist) now one among in (
        r.0,
        Contains-append_cases revision.unlinked (dists_of revision.linked) one.rec.dist
            (in_texts dists (changed_dists revision) one.rec.dist has r.1),
      ),
  λ both. in_filter (λ (p : Linked). is_in dists p.rec.dist) now one both.0
      (in_set dists (changed_dists revision) one.rec.dist has (to_changed one both.1)),
)
  where
    to_changed : (one : Linked) → Goes revision one → Contains (changed_dists revision) one.rec.dist
    to_changed one (inl gone) = Contains-append_left revision.unlinked (dists_of revision.linked) one.rec.dist gone
    to_changed one (inr again) = Contains-append_right revision.unlinked (dists_of revision.linked) one.rec.dist again

-- the paths of the goods of packages that go, and of their meta files
pub going_good : (now : List Linked) (revision : Revision) (going : List Linked) (path : List ℕ) → AreGoing now revision going
    → Contains (good_paths going) path ↔ IsGoingGood now revision path
going_good now revision going path are = (
  λ among. let r = from_flat (λ (one : Linked). paths_of one.goods) going path among in let g = (are r.0).0 r.1 in (r.0, g.0, g.1, r.2),
  λ r. in_flat (λ (one : Linked). paths_of one.goods) going r.0 path ((are r.0).1 (r.1, r.2)) r.3,
)

pub going_file : (now : List Linked) (revision : Revision) (going : List Linked) (path : List ℕ) → AreGoing now revision going
    → Contains (file_paths going) path ↔ IsGoingFile now revision path
going_file now revision going path are = (
  λ among. let r = from_map (λ (one : Linked). prefix_path one.rec.dist) going path among in let g = (are r.0).0 r.1 in
      (r.0, g.0, g.1, sym r.2),
  λ r. subst (Contains (file_paths going)) (sym r.3)
      (in_map (λ (one : Linked). prefix_path one.rec.dist) going r.0 ((are r.0).1 (r.1, r.2))),
)
