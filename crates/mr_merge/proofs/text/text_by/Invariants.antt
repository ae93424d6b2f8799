use Rattle.std.proofs.Common.{◌≡◌, ◌++◌, drop}
use Rattle.mr_items.specs.Texts.{rows_text}
use Rattle.mr_merge.specs.Lists.{lent}
use Rattle.mr_merge.specs.Plans.{IsPlan}
use Rattle.mr_merge.specs.Rising.{rank}
use Rattle.mr_merge.specs.Taken.{taken_rows}
use Rattle.mr_merge.proofs.text.text_by.Given as goal

abbrev pub invariant-loop-number : goal.invariant-loop-number
invariant-loop-number g l = record {
  text : rows_text g.K.Key.printed (taken_rows (lent l.fn.lists.items) l.plan)
      ≡ l.text ++ rows_text g.K.Key.printed (taken_rows (lent l.lists.items) (drop l.number-index l.plan));
  plan : IsPlan (rank g.K.Ord.cmp) (lent l.lists.items) (drop l.number-index l.plan);
}
