use Rattle.std.proofs.Common.{rules, refl}
use Rattle.mr_claims.proofs.Unused.{falses}
use Rattle.mr_claims.proofs.queues.unused.Goals as goal

pub returns : goal.returns
returns c = (refl, refl, refl, refl, falses 32)
