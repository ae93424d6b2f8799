use Rattle.mr_defs.proofs.SameRows.{means_the_same, shares_the_same}
use Rattle.mr_defs.proofs.laws_of_order.Goals as goal

pub returns-clause-own : goal.returns-clause-own
returns-clause-own g c =
    λ one inside folded free xs ys same. means_the_same g.K.Ord.cmp g.met.K.Ord.total one inside xs ys same folded free

pub returns-clause-common : goal.returns-clause-common
returns-clause-common g c =
    λ one inside folded xs ys same. shares_the_same g.K.Ord.cmp g.met.K.Ord.total one inside xs ys same folded
