use Rattle.std.proofs.Common.{[], take, sym, refl, subst, arith, ◌∙◌}
use Rattle.std.proofs.lemmas.List.{take_all}
use Rattle.std.proofs.lemmas.List.Elements.{All-more, All-same}
use Rattle.mr_numeric.specs.Distances.{AreShort}
use Rattle.mr_numeric.proofs.means.Means.are_short.Goals as goal

pub loop-cluster-preserved : goal.loop-cluster-preserved
loop-cluster-preserved c =
    let means = c.args.self.now in
    let k = c.loop-cluster.cluster in
    All-more AreShort means k [] (omega (arith, c.loop-cluster-test.true, c.len-cluster-end.ensures.len)) c.loop-cluster.invariant
    (subst AreShort (c.near.ensures ∙ c.mean.ensures) (c.if-not-are_short.ensures refl))

pub returns : goal.returns
returns c = λ _.
    let means = c.args.self.now in
    All-same AreShort means (take c.loop-cluster.cluster means)
    (sym (take_all c.loop-cluster.cluster means (omega (arith, c.loop-cluster-test.false, c.len-cluster-end.ensures.len))))
    c.loop-cluster.invariant
