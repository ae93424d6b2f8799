use Rattle.std.specs.FinMap.{find}
use Rattle.mr_hash.specs.Pairs.{pairs_of}
use Rattle.mr_hash.proofs.Joining.{joined_more}
use Rattle.mr_hash.proofs.join.join_block.Goals as goal

pub loop-nth-preserved : goal.loop-nth-preserved
loop-nth-preserved g c =
    joined_more g.met.K.Key.only_equal_tie g.met.C.Combiner.laws
    (λ k. find g.K.Ord.cmp k (pairs_of c.args.table.now.entries.items))
    (λ k. find g.K.Ord.cmp k (pairs_of c.loop-nth.table.entries.items))
    (λ k. find g.K.Ord.cmp k (pairs_of c.join.new.self.entries.items))
    c.args.block.now c.loop-nth.nth c.index-block-nth.result c.loop-nth-test.true c.index-block-nth.is c.loop-nth.invariant
    c.in_ok-join.ensures.cells
