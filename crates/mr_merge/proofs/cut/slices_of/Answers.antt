use Rattle.mr_merge.proofs.Cuts.{lent_more}
use Rattle.mr_merge.proofs.cut.slices_of.Goals as goal

pub loop-list-preserved : goal.loop-list-preserved
loop-list-preserved g c =
    lent_more c.loop-list.slices.items c.push.new.self.items c.as_slice.result c.args.lists.now c.loop-list.list-index c.list-item.result
    c.loop-list-test.true c.list-item.is c.as_slice.ensures.value c.in_ok-push.ensures.items c.loop-list.invariant
