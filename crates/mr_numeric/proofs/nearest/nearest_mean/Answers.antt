use Rattle.std.proofs.Common.{inl, inr, ◌≡◌, length, arith, ap, ◌∙◌}
use Rattle.std.proofs.lemmas.Bool.{cases_lt}
use Rattle.mr_items.specs.KMeans.{distance}
use Rattle.mr_numeric.proofs.NearestMeans.{far, keeps, takes, nearest_first, nearest_of_none}
use Rattle.mr_numeric.proofs.nearest.nearest_mean.Goals.{then-far-least, else-far-least}
use Rattle.mr_numeric.proofs.nearest.nearest_mean.Goals as goal

pub loop-cluster-preserved : goal.loop-cluster-preserved
loop-cluster-preserved c =
    let means = c.args.means.now in
    let point = c.args.point.now in
    let n = c.loop-cluster.cluster in
    let is : c.distance-far.result ≡ far means point n = c.distance-far.ensures.distance
    ∙ ap (distance point) (c.near.ensures ∙ c.mean.ensures) in
    elim c.if-far-least.branch [
      | then-far-least w ↦ takes means point 340282366920938463463374607431768211455 n c.loop-cluster.first c.loop-cluster.least
          c.if-far-least.first c.if-far-least.least
          (w.least-is ∙ is) w.first-is (omega (arith, w.if-far-least.true, w.least-is)) c.loop-cluster.invariant
      | else-far-least w ↦ keeps means point 340282366920938463463374607431768211455 n c.loop-cluster.first c.loop-cluster.least
          c.if-far-least.first c.if-far-least.least
          w.least-is w.first-is (omega (arith, w.if-far-least.false, is))
          (omega (arith, c.distance-far.ensures.below, is)) c.loop-cluster.invariant
    ]

pub returns-clause-nearest : goal.returns-clause-nearest
returns-clause-nearest c =
    let means = c.args.means.now in
    let is = c.loop-cluster.invariant in
    let all : c.loop-cluster.cluster
    ≡ length means = omega (arith, c.loop-cluster-test.false, c.loop-cluster.auto.cluster-end, c.len-cluster-end.ensures.len) in
    elim (cases_lt 0 (length means)) [
      | inl more ↦
          let some = is.some (omega (arith, all, more)) in
          nearest_first means c.args.point.now c.loop-cluster.first (omega (arith, some.0, all))
          (λ k below. omega (arith, some.1, is.least_of k (omega (arith, all, below))))
          (λ k below. omega (arith, some.1, is.first_of k below))
      | inr none ↦
          let zero = is.none (omega (arith, all, none)) in
          zero.0 ∙ nearest_of_none means c.args.point.now (omega (arith, none))
    ]

pub returns-clause-key : goal.returns-clause-key
returns-clause-key c =
    let is = c.loop-cluster.invariant in
    elim (cases_lt 0 c.loop-cluster.cluster) [
      | inl more ↦ omega (arith, (is.some more).0, c.loop-cluster.auto.cluster-end, c.len-cluster-end.ensures.few)
      | inr none ↦ omega (arith, (is.none (omega (arith, none))).0)
    ]
