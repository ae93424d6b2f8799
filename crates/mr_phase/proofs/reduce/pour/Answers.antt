use Rattle.mr_phase.proofs.Sharing.{moved}
use Rattle.mr_phase.proofs.reduce.pour.Goals as goal

pub loop-partition-preserved : goal.loop-partition-preserved
loop-partition-preserved g c = moved _ c.loop-partition.all.items c.loop-partition.from.items c.pop.new.self.items c.push.new.self.items
    c.in-Some.partition c.in-Some.ensures.0 c.in_ok-push.ensures.items c.loop-partition.invariant
