use Rattle.mr_phase.proofs.Blocking.{all_given}
use Rattle.mr_phase.proofs.taking.BlocksTaskQueues.finish.Goals as goal

pub returns : goal.returns
returns c = all_given c.args.self c.args.passes.items c.args.self.some c.requires.all c.requires.ended
