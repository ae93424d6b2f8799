use Rattle.std.proofs.Common.{◌+◌, ◌∙◌, ap, arith}
use Rattle.std.specs.FinMap.{find}
use Rattle.std.proofs.lemmas.List.{take_all}
use Rattle.mr_defs.specs.Commutative.{joined_by}
use Rattle.mr_container.specs.Entries.{cell_in, seen_of}
use Rattle.mr_hash.specs.Pairs.{pairs_of}
use Rattle.mr_hash.proofs.Joining.{joined_block}
use Rattle.mr_hash.proofs.join.join_all.Goals as goal

pub loop-at-preserved : goal.loop-at-preserved
loop-at-preserved g c = record {
  inside = omega (arith, c.min.ensures);
  found = joined_block g.met.K.Key.only_equal_tie g.met.C.Combiner.laws
      (λ k. find g.K.Ord.cmp k (pairs_of c.loop-at.table.entries.items))
      (λ k. find g.K.Ord.cmp k (pairs_of c.join_block.new.table.entries.items))
      c.args.lent.now c.loop-at.at (c.loop-at.at + c.min.result) (omega arith) c.loop-at.invariant.found c.in_ok-join_block.ensures;
}

pub returns : goal.returns
returns g c = record {
  distinct = c.loop-at.table.distinct;
  found = λ k. c.loop-at.invariant.found k
      ∙ ap (λ l. joined_by g.C.Combiner.merged (cell_in g.K.Ord.cmp k) (seen_of l))
      (take_all c.loop-at.at c.args.lent.now (omega (arith, c.loop-at-test.false)));
}
