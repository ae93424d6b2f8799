use Rattle.std.proofs.Common.{◌≡◌, ◌≤◌, ◌<◌, true, false, [], length, get_or, refl, sym, ap, ◌∙◌, arith}
use Rattle.std.specs.Bool.{Decides}
use Rattle.std.proofs.lemmas.List.{take_all, take_more_same}
use Rattle.mr_numeric.proofs.SameMeans.{means_eq_is}
use Rattle.mr_numeric.proofs.means.Means.same.Goals.{Then-len, Then-not-same, After-loop-cluster}
use Rattle.mr_numeric.proofs.means.Means.same.Goals as goal

other_number : (c : Then-len) → Decides false (c.args.self.now ≡ c.args.other.now)
other_number c = ((λ e. absurd (cc)), λ same. absurd (c.if-len.true (c.len.ensures.len ∙ ap length same ∙ sym c.len-2.ensures.len)))

pub returns-then-len-clause-exact : goal.returns-then-len-clause-exact
returns-then-len-clause-exact c = other_number c

pub returns-then-len-clause-same : goal.returns-then-len-clause-same
returns-then-len-clause-same c = means_eq_is c.args.self.now c.args.other.now false (other_number c)

other_mean : (c : Then-not-same) → Decides false (c.args.self.now ≡ c.args.other.now)
other_mean c = (
  (λ e. absurd (cc)),
  λ same. c.if-not-same.ensures.1 (c.mean.ensures ∙ ap (λ l. get_or l c.loop-cluster.cluster []) same
      ∙ sym c.mean-in-loop-cluster.ensures),
)

pub returns-then-not-same-clause-same : goal.returns-then-not-same-clause-same
returns-then-not-same-clause-same c = means_eq_is c.args.self.now c.args.other.now false (other_mean c)

pub loop-cluster-preserved : goal.loop-cluster-preserved
loop-cluster-preserved c =
    let k = c.loop-cluster.cluster in
    let below : k < length c.args.self.now = omega (arith, c.loop-cluster-test.true, c.len-cluster-end.ensures.len) in
    take_more_same c.args.self.now c.args.other.now k [] below
    (omega (arith, below, c.if-len.false, c.len.ensures.len, c.len-2.ensures.len)) c.loop-cluster.invariant
    (sym c.mean.ensures ∙ c.if-not-same.ensures.0 refl ∙ c.mean-in-loop-cluster.ensures)

all_same : (c : After-loop-cluster) → c.args.self.now ≡ c.args.other.now
all_same c =
    let k = c.loop-cluster.cluster in
    let past : length c.args.self.now ≤ k = omega (arith, c.loop-cluster-test.false, c.len-cluster-end.ensures.len) in
    sym (take_all k c.args.self.now past) ∙ c.loop-cluster.invariant
    ∙ take_all k c.args.other.now (omega (arith, past, c.if-len.false, c.len.ensures.len, c.len-2.ensures.len))

pub returns-clause-same : goal.returns-clause-same
returns-clause-same c = means_eq_is c.args.self.now c.args.other.now true ((λ _. all_same c), (λ _. refl))
