use Rattle.std.proofs.Common.{◌≡◌, Bor, length, map, take}
use Rattle.std.specs.List.{zip}
use Rattle.conda_encode.specs.Clauses.{Reason}
use Rattle.conda_encode.specs.declared.encoded.Why.{Why}
use Rattle.conda_explain.specs.Shown.{shown}
use Rattle.conda_explain.proofs.Firsts.{clauses_of}
use Rattle.conda_explain.proofs.Keys.{lists}
use Rattle.conda_explain.proofs.shown.show.Given as goal

abbrev pub invariant-loop-why : goal.invariant-loop-why
invariant-loop-why l = record {
  whys : map (λ (w : Bor Why). w.now) l.whys.items ≡ map (λ (r : Reason). r.0) (shown (take (length l.yielded) (zip l.encoded.whys l.encoded.clauses)) l.log);
  clauses : l.clauses ≡ clauses_of (shown (take (length l.yielded) (zip l.encoded.whys l.encoded.clauses)) l.log);
  places : lists l.places.keys ≡ l.clauses;
}
