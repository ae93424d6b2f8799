use Rattle.std.proofs.Common.{map}
use Rattle.std.specs.Prelude.{All}
use Rattle.mr_merge.specs.Lists.{lent, lists_of}
use Rattle.mr_merge.specs.Rising.{Rises, rank}
use Rattle.mr_merge.proofs.Cuts.{CutsTo}
use Rattle.mr_merge.proofs.cut.ranges_of.Given as goal

abbrev pub invariant-loop-row : goal.invariant-loop-row
invariant-loop-row g l = record {
  next : (goal.iterator-loop-row g).can_next l.row-iterator;
  finite : (goal.iterator-loop-row g).is_finite l.row-iterator;
  cuts : CutsTo (rank g.K.Ord.cmp) (lists_of l.fn.lists) (map (λ r. lent r.items) l.ranges.items) (lent l.rest.items);
  rest : All (λ l. Rises (rank g.K.Ord.cmp) l.now) l.rest.items;
  rise : All (λ r. All (λ l. Rises (rank g.K.Ord.cmp) l.now) r.items) l.ranges.items;
}
