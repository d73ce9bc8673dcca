use Rattle.std.proofs.Common.{◌≡◌, ◌≤◌, ◌+◌, ◌++◌, ◌∷◌, [], ℕ, ℤ, Bor, List, true, false, Vec, Global, ap, arith, length, map, sym, take, take_all, ◌∙◌}
use Rattle.std.specs.List.{zip}
use Rattle.std.specs.Slice.Iter.{iter_rest}
use Rattle.std.specs.Iterator.Adapters.{zip_first, zip_second}
use Rattle.std.proofs.lemmas.List.{length_push, map_push}
use Rattle.std.proofs.lemmas.Slice.Zip.{length-zip, zip_end, zip_turn}
use Rattle.conda_refute.specs.declared.log.Log.{Log}
use Rattle.conda_encode.specs.Clauses.{Reason}
use Rattle.conda_encode.specs.declared.encoded.Why.{Why}
use Rattle.conda_explain.specs.Shown.{holds, shown, used}
use Rattle.conda_explain.proofs.Firsts.{clauses_of, shown_again, shown_more, shown_unused, zip_more}
use Rattle.conda_explain.proofs.Keys.{held, lists, lists-insert_new}
use Rattle.conda_explain.proofs.shown.show.Goals as goal
use Rattle.conda_explain.proofs.shown.show.Goals.{else-contains-via-then-contains+else-not-contains, else-contains-via-else-contains}

pub loop-why-preserved-then-not-contains : goal.loop-why-preserved-then-not-contains
loop-why-preserved-then-not-contains c =
    let log : Log = c.args.log.now in
    let whys : List Why = c.args.encoded.now.whys in
    let clauses : List (List ℤ) = c.args.encoded.now.clauses in
    let n : ℕ = length c.loop-why.yielded in
    let why : Why = c.in-Some.why.now in
    let clause : List ℤ = c.in-Some.clause.now in
    let before : List Reason = take n (zip whys clauses) in
    let literals : Vec ℤ Global = c.in_ok-literals.literals in
    let same : literals.items ≡ clause = c.in_ok-literals.ensures in
    let first : iter_rest (zip_first c.into_iter-why-iterator.result) ≡ whys = cc in
    let second : iter_rest (zip_second c.into_iter-why-iterator.result) ≡ clauses
    = ap (λ z. iter_rest (zip_second z)) c.into_iter-why-iterator.ensures.into_iter_gives ∙ c.zip-why-items.ensures.second.0 ∙ c.as_slice-given.ensures in
    let turn = zip_turn whys clauses c.loop-why.yielded c.into_iter-why-iterator.result c.loop-why.why-iterator c.next.new.self c.next.result first second c.loop-why.yielded_by (c.in-Some.why, c.in-Some.clause) c.in-Some.is c.next.ensures.steps in
    let more : take (n + 1) (zip whys clauses) ≡ before ++ (why, clause) ∷ [] = zip_more whys clauses n why clause turn.0 turn.1 (turn.2 why) (turn.3 clause) in
    let wanted : holds (used log) clause ≡ true
    = sym (c.in_ok-used.ensures clause) ∙ held c.in_ok-used.used.keys literals clause true c.contains.result same c.contains.ensures c.if-contains.true in
    let new : c.contains-then-contains.result ≡ false = c.if-not-contains.true in
    let unseen : holds (clauses_of (shown before log)) clause ≡ false
    = ap (λ (l : List (List ℤ)). holds l clause) (sym (c.loop-why.invariant.places ∙ c.loop-why.invariant.clauses))
    ∙ held c.loop-why.places.keys literals clause false c.contains-then-contains.result same c.contains-then-contains.ensures new in
    let step : shown (take (length (c.loop-why.yielded ++ (c.in-Some.why, c.in-Some.clause) ∷ [])) (zip whys clauses)) log ≡ shown before log ++ (why, clause) ∷ []
    = ap (λ (k : ℕ). shown (take k (zip whys clauses)) log) (length_push c.loop-why.yielded (c.in-Some.why, c.in-Some.clause))
    ∙ ap (λ (l : List Reason). shown l log) more
    ∙ shown_more log before (why, clause) wanted unseen in
    let pushed : c.push.new.self ≡ c.loop-why.clauses ++ clause ∷ [] = c.in_ok-push.ensures.ok ∙ ap (λ (l : List ℤ). c.loop-why.clauses ++ l ∷ []) c.in_ok-copy.ensures in
    record {
      whys =
          ap (map (λ (w : Bor Why). w.now)) c.in_ok-push-2.ensures.items
          ∙ map_push (λ (w : Bor Why). w.now) c.loop-why.whys.items c.in-Some.why
          ∙ ap (λ (l : List Why). l ++ why ∷ []) c.loop-why.invariant.whys
          ∙ sym (ap (map (λ (r : Reason). r.0)) step ∙ map_push (λ (r : Reason). r.0) (shown before log) (why, clause));
      clauses =
          pushed
          ∙ ap (λ (l : List (List ℤ)). l ++ clause ∷ []) c.loop-why.invariant.clauses
          ∙ sym (ap clauses_of step ∙ map_push (λ (r : Reason). r.1) (shown before log) (why, clause));
      places =
          ap lists c.in_ok-insert.ensures.keys
          ∙ lists-insert_new c.loop-why.places.keys literals (sym c.contains-then-contains.ensures ∙ new)
          ∙ ap (λ (l : List (List ℤ)). l ++ literals.items ∷ []) c.loop-why.invariant.places
          ∙ ap (λ (l : List ℤ). c.loop-why.clauses ++ l ∷ []) same
          ∙ sym pushed;
    }

pub loop-why-preserved : goal.loop-why-preserved
loop-why-preserved c =
    let log : Log = c.args.log.now in
    let whys : List Why = c.args.encoded.now.whys in
    let clauses : List (List ℤ) = c.args.encoded.now.clauses in
    let n : ℕ = length c.loop-why.yielded in
    let why : Why = c.in-Some.why.now in
    let clause : List ℤ = c.in-Some.clause.now in
    let before : List Reason = take n (zip whys clauses) in
    let literals : Vec ℤ Global = c.in_ok-literals.literals in
    let same : literals.items ≡ clause = c.in_ok-literals.ensures in
    let first : iter_rest (zip_first c.into_iter-why-iterator.result) ≡ whys = cc in
    let second : iter_rest (zip_second c.into_iter-why-iterator.result) ≡ clauses
    = ap (λ z. iter_rest (zip_second z)) c.into_iter-why-iterator.ensures.into_iter_gives ∙ c.zip-why-items.ensures.second.0 ∙ c.as_slice-given.ensures in
    let turn = zip_turn whys clauses c.loop-why.yielded c.into_iter-why-iterator.result c.loop-why.why-iterator c.next.new.self c.next.result first second c.loop-why.yielded_by (c.in-Some.why, c.in-Some.clause) c.in-Some.is c.next.ensures.steps in
    let more : take (n + 1) (zip whys clauses) ≡ before ++ (why, clause) ∷ [] = zip_more whys clauses n why clause turn.0 turn.1 (turn.2 why) (turn.3 clause) in
    let passed : shown (before ++ (why, clause) ∷ []) log ≡ shown before log
    = elim c.else-contains.branch [
      | else-contains-via-then-contains+else-not-contains w ↦
          let seen : holds (clauses_of (shown before log)) clause ≡ true
          = ap (λ (l : List (List ℤ)). holds l clause) (sym (c.loop-why.invariant.places ∙ c.loop-why.invariant.clauses))
          ∙ held c.loop-why.places.keys literals clause true w.contains-then-contains.result same w.contains-then-contains.ensures w.if-not-contains.false in
          shown_again log before (why, clause) seen
      | else-contains-via-else-contains w ↦
          let idle : holds (used log) clause ≡ false
          = sym (c.in_ok-used.ensures clause) ∙ held c.in_ok-used.used.keys literals clause false c.contains.result same c.contains.ensures w.if-contains.false in
          shown_unused log before (why, clause) idle
    ] in
    let step : shown (take (length (c.loop-why.yielded ++ (c.in-Some.why, c.in-Some.clause) ∷ [])) (zip whys clauses)) log ≡ shown before log
    = ap (λ (k : ℕ). shown (take k (zip whys clauses)) log) (length_push c.loop-why.yielded (c.in-Some.why, c.in-Some.clause))
    ∙ ap (λ (l : List Reason). shown l log) more
    ∙ passed in
    record {
      whys = c.loop-why.invariant.whys ∙ sym (ap (map (λ (r : Reason). r.0)) step);
      clauses = c.loop-why.invariant.clauses ∙ sym (ap clauses_of step);
      places = c.loop-why.invariant.places;
    }

pub returns-clause-whys : goal.returns-clause-whys
returns-clause-whys c =
    let log : Log = c.args.log.now in
    let whys : List Why = c.args.encoded.now.whys in
    let clauses : List (List ℤ) = c.args.encoded.now.clauses in
    let n : ℕ = length c.loop-why.yielded in
    let first : iter_rest (zip_first c.into_iter-why-iterator.result) ≡ whys = cc in
    let second : iter_rest (zip_second c.into_iter-why-iterator.result) ≡ clauses
    = ap (λ z. iter_rest (zip_second z)) c.into_iter-why-iterator.ensures.into_iter_gives ∙ c.zip-why-items.ensures.second.0 ∙ c.as_slice-given.ensures in
    let ended = zip_end whys clauses c.loop-why.yielded c.into_iter-why-iterator.result c.loop-why.why-iterator c.next.new.self c.next.result first second c.loop-why.yielded_by c.in-None.is c.next.ensures.steps in
    let all : length (zip whys clauses) ≤ n = omega (arith, ended, length-zip whys clauses) in
    c.loop-why.invariant.whys ∙ ap (λ (l : List Reason). map (λ (r : Reason). r.0) (shown l log)) (take_all n (zip whys clauses) all)

pub returns-clause-clauses : goal.returns-clause-clauses
returns-clause-clauses c =
    let log : Log = c.args.log.now in
    let whys : List Why = c.args.encoded.now.whys in
    let clauses : List (List ℤ) = c.args.encoded.now.clauses in
    let n : ℕ = length c.loop-why.yielded in
    let first : iter_rest (zip_first c.into_iter-why-iterator.result) ≡ whys = cc in
    let second : iter_rest (zip_second c.into_iter-why-iterator.result) ≡ clauses
    = ap (λ z. iter_rest (zip_second z)) c.into_iter-why-iterator.ensures.into_iter_gives ∙ c.zip-why-items.ensures.second.0 ∙ c.as_slice-given.ensures in
    let ended = zip_end whys clauses c.loop-why.yielded c.into_iter-why-iterator.result c.loop-why.why-iterator c.next.new.self c.next.result first second c.loop-why.yielded_by c.in-None.is c.next.ensures.steps in
    let all : length (zip whys clauses) ≤ n = omega (arith, ended, length-zip whys clauses) in
    c.loop-why.invariant.clauses ∙ ap (λ (l : List Reason). clauses_of (shown l log)) (take_all n (zip whys clauses) all)
