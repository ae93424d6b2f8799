use Rattle.std.proofs.KnownBytes.{Keeps-refl}
use Rattle.mr_base.specs.declared.status.Status.TheVariants as status
use Rattle.mr_top.proofs.Said.{said}
use Rattle.mapred.proofs.ran.Goals as goal

pub returns-in_default : goal.returns-in_default
returns-in_default g c = record {
  status = status.Memory;
  code = c.exit.ensures;
  means = Keeps-refl _;
  tells = said c.put_all.result _ _ _ _ _ c.put_all.ensures.whole c.put_all.ensures.part c.put_all.ensures.cause;
}
