use Rattle.std.proofs.lemmas.Slice.Eq.{slice_eq-Decides}
use Rattle.conda_linking.proofs.GoodLemmas.{same_good}
use Rattle.conda_linking.proofs.linking.has_same_goods.Goals as goal

pub returns : goal.returns
returns c = slice_eq-Decides same_good c.args.one.now.goods c.args.other.now.goods c.eq.result c.eq.ensures
