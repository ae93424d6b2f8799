use Rattle.std.proofs.Common.{arith}
use Rattle.std.specs.Cmp.{nat_cmp_total}
use Rattle.std.specs.FinMap.{nat_cmp-IsAntisymmetric}
use Rattle.mr_container.proofs.Emitted.{after_large, after_large_outside}
use Rattle.mr_array.specs.Cells.{is_below}
use Rattle.mr_array.proofs.Places.{below, not_below}
use Rattle.mr_array.proofs.array.ArrayLocalLocal.too_large.Goals as goal

pub returns-then-key-self-clause-stands : goal.returns-then-key-self-clause-stands
returns-then-key-self-clause-stands g c es was = rw c.keep_lesser.ensures
    (after_large nat_cmp_total nat_cmp-IsAntisymmetric
    (is_below g.S.Size.size) g.C.Combiner.unit_of g.met.C.Combiner.laws _ _ _ es was c.args.key
    (below g.S.Size.size c.args.key (omega (arith, c.if-key-self.true, c.key.view_is, c.args.self.now.sized))))

pub returns-else-key-self-clause-stands : goal.returns-else-key-self-clause-stands
returns-else-key-self-clause-stands g c es was = rw c.keep_lesser-else-key-self.ensures
    (after_large_outside nat_cmp_total nat_cmp-IsAntisymmetric
    (is_below g.S.Size.size) g.C.Combiner.unit_of g.met.C.Combiner.laws _ _ _ es was c.args.key
    (not_below g.S.Size.size c.args.key (omega (arith, c.if-key-self.false, c.key.view_is, c.args.self.now.sized))))
