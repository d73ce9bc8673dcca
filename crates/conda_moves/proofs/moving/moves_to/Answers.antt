use Rattle.std.proofs.Common.{List, [], ◌++◌, map, ap, subst, ◌∙◌}
use Rattle.std.specs.List.{flat_map}
use Rattle.conda_path.specs.declared.values.Good.{Good}
use Rattle.conda_goods.specs.Conflicts.{goods_of}
use Rattle.conda_meta.specs.declared.linked.Linked.{Linked}
use Rattle.conda_moves.specs.Filling.{AreMoves}
use Rattle.conda_moves.specs.Going.{good_paths}
use Rattle.conda_moves.proofs.MoveLemmas.{all_by_path, all_coming, all_moves}
use Rattle.conda_moves.proofs.moving.moves_to.Goals as goal

pub returns-clause-moves : goal.returns-clause-moves
returns-clause-moves c = λ now number are files.
    let others = c.in_ok-others.others in
    let altered = c.in_ok-altered.altered in
    let going = map (λ r. r.now) c.args.going.now in
    let paths = c.args.paths.now in
    let linked : List Linked = c.as_slice.result.now in
    let revision = c.args.revision.now in
    let goods : List Good = flat_map (λ one. one.goods) linked in
    let gone = c.in_ok-add_files.ensures others altered (good_paths going) c.in_ok-moves.ensures in
    let packages = c.in_ok-add_packages.ensures altered (good_paths going) paths [] gone in
    let all = c.in_ok-add_parts.ensures altered (good_paths going) paths goods packages in
    all_moves others altered c.args.others.now c.args.altered.now now number revision going
    (goods ++ goods_of c.args.files.now) c.add_parts.new.moves
    c.in_ok-others.ensures c.in_ok-altered.ensures are
    (ap (λ (linked : List Linked). flat_map (λ one. one.goods) linked ++ goods_of c.args.files.now) c.as_slice.ensures
    ∙ ap (λ parts. flat_map (λ (one : Linked). one.goods) revision.linked ++ goods_of parts) files ∙ all_coming number revision)
    (subst (λ paths. AreMoves others altered (good_paths going) paths
    (goods ++ goods_of c.args.files.now) c.add_parts.new.moves) c.requires.paths all)

pub returns-clause-by_path : goal.returns-clause-by_path
returns-clause-by_path c =
    let others = c.in_ok-others.others in
    let altered = c.in_ok-altered.altered in
    let going = good_paths (map (λ r. r.now) c.args.going.now) in
    let paths = c.args.paths.now in
    let goods : List Good = flat_map (λ one. one.goods) c.as_slice.result.now in
    let gone = c.in_ok-add_files.ensures others altered going c.in_ok-moves.ensures in
    let packages = c.in_ok-add_packages.ensures altered going paths [] gone in
    all_by_path others altered going paths (goods ++ goods_of c.args.files.now) c.add_parts.new.moves c.know_order.ensures
    (c.in_ok-add_parts.ensures altered going paths goods packages)
