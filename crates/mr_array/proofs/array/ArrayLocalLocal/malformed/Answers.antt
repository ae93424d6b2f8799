use Rattle.std.specs.Cmp.{nat_cmp_total}
use Rattle.std.specs.FinMap.{nat_cmp-IsAntisymmetric}
use Rattle.mr_container.proofs.Emitted.{after_malformed}
use Rattle.mr_array.specs.Cells.{is_below}
use Rattle.mr_array.proofs.array.ArrayLocalLocal.malformed.Goals as goal

pub returns-clause-stands : goal.returns-clause-stands
returns-clause-stands g c es was = rw c.keep_lesser.ensures
    (after_malformed nat_cmp_total nat_cmp-IsAntisymmetric
    (is_below g.S.Size.size) g.C.Combiner.unit_of g.met.C.Combiner.laws _ _ _ es was c.args.offset)
