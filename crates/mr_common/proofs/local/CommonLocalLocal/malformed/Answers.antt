use Rattle.std.proofs.Common.{nat_lt}
use Rattle.std.specs.Cmp.{nat_cmp_total}
use Rattle.std.specs.FinMap.{nat_cmp-IsAntisymmetric}
use Rattle.mr_common.proofs.Emitting.{after_no_form}
use Rattle.mr_common.proofs.local.CommonLocalLocal.malformed.Goals as goal

pub returns-clause-stands : goal.returns-clause-stands
returns-clause-stands c es was = rw c.keep_lesser.ensures
    (after_no_form nat_cmp_total nat_cmp-IsAntisymmetric (λ k. nat_lt k c.args.self.now.array.now.size) _ _ _ _ es was c.args.offset)
