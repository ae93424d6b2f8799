use Rattle.std.proofs.Common.{◌∙◌, [], None, refl, ap, subst, sym}
use Rattle.std.proofs.lemmas.Option.{MatchOption-at_none, MatchOption-at_some}
use Rattle.mr_defs.proofs.Lesser.{lesser_commutative}
use Rattle.mr_phase.specs.declared.partition.Partition.{Partition}
use Rattle.mr_phase.proofs.Folding.{IsFolding, folded_none, folding_first, folding_last, folding_other, folding_same}
use Rattle.mr_phase.proofs.partition.reduce_entries.Goals as goal

pub loop-cell-init : goal.loop-cell-init
loop-cell-init g c =
    let fold = g.C.Combiner in
    let taken = c.in_ok-first.ensures in
    let first = c.in-Some in
    let made : Partition g.row.K.Denot = record { part = c.args.part; rows = c.from_entries.result; over = None } in
    record {
      ahead = taken.ahead;
      all = ap (λ v. v.items) taken.all ∙ c.in_ok-ahead.ensures.all;
      part = refl;
      folding = subst (λ cell. IsFolding g.K.Ord.cmp fold.merged fold.over g.R.Reducer.answer c.take.new.self first.first.now cell made)
          (sym c.in_ok-cell.ensures.ok)
          (folding_first g.K.Ord.cmp fold.merged fold.over g.R.Reducer.answer c.take.new.self (first.first, first.one) made
          (c.from_entries.ensures ∙ c.in_ok-with_capacity.ensures.items) refl
          (MatchOption-at_some _ _ _ first.is (taken.taken [] c.in_ok-ahead.ensures.taken)));
    }

pub returns-in_default-clause-folds : goal.returns-in_default-clause-folds
returns-in_default-clause-folds g c =
    let fold = g.C.Combiner in
    folded_none g.K.Ord.cmp fold.merged fold.over g.R.Reducer.answer c.args.entries.items c.in_ok-ahead.ahead.entries.items
    (record { part = c.args.part; rows = c.from_entries.result; over = None })
    (c.from_entries.ensures ∙ c.in_ok-with_capacity.ensures.items) refl c.in_ok-ahead.ensures.all
    (MatchOption-at_none _ _ c.in_default.is (c.in_ok-first.ensures.taken [] c.in_ok-ahead.ensures.taken))

pub loop-cell-preserved-in_ok-merge : goal.loop-cell-preserved-in_ok-merge
loop-cell-preserved-in_ok-merge g c =
    let fold = g.C.Combiner in
    let so_far = c.loop-cell.invariant in
    let taken = c.in_ok-lead.ensures in
    let next = c.in-Some-2 in
    record {
      ahead = taken.ahead;
      all = ap (λ v. v.items) taken.all ∙ so_far.all;
      part = so_far.part;
      folding = subst (λ cell. IsFolding g.K.Ord.cmp fold.merged fold.over g.R.Reducer.answer c.take-in-loop-cell.new.self
          c.loop-cell.key.now cell c.loop-cell.made) (sym c.in_ok-merge.ensures.ok)
          (folding_same g.K.Ord.cmp fold.merged fold.over g.R.Reducer.answer c.loop-cell.ahead c.take-in-loop-cell.new.self
          c.loop-cell.key.now c.loop-cell.cell c.loop-cell.made (next.next, next.other)
          (λ all t. MatchOption-at_some _ _ _ next.is (taken.taken all t)) so_far.folding (sym c.are_equal.ensures ∙ c.if-are_equal.true));
    }

pub loop-cell-preserved : goal.loop-cell-preserved
loop-cell-preserved g c =
    let fold = g.C.Combiner in
    let so_far = c.loop-cell.invariant in
    let taken = c.in_ok-lead.ensures in
    let next = c.in-Some-2 in
    record {
      ahead = taken.ahead;
      all = ap (λ v. v.items) taken.all ∙ so_far.all;
      part = c.in_ok-put.ensures.part ∙ so_far.part;
      folding = subst (λ cell. IsFolding g.K.Ord.cmp fold.merged fold.over g.R.Reducer.answer c.take-in-loop-cell.new.self next.next.now
          cell c.put.new.self) (sym c.in_ok-cell-2.ensures.ok)
          (folding_other g.K.Ord.cmp fold.merged fold.over g.R.Reducer.answer c.loop-cell.ahead c.take-in-loop-cell.new.self
          c.loop-cell.key.now c.loop-cell.cell c.loop-cell.made (next.next, next.other)
          (λ all t. MatchOption-at_some _ _ _ next.is (taken.taken all t)) so_far.folding
          (lesser_commutative g.met.K.Ord.total g.met.K.Key.only_equal_tie) c.put.new.self
          (sym c.are_equal.ensures ∙ c.if-are_equal.false) c.in_ok-put.ensures.rows c.in_ok-put.ensures.over);
    }

pub returns-clause-folds : goal.returns-clause-folds
returns-clause-folds g c =
    let fold = g.C.Combiner in
    folding_last g.K.Ord.cmp fold.merged fold.over g.R.Reducer.answer c.loop-cell.ahead c.loop-cell.key.now c.loop-cell.cell
    c.loop-cell.made c.put-2.new.self c.args.entries.items c.loop-cell.invariant.all
    (λ all t. MatchOption-at_none _ _ c.in_default-2.is (c.in_ok-lead.ensures.taken all t)) c.in_ok-put-2.ensures.rows
    c.in_ok-put-2.ensures.over c.loop-cell.invariant.folding
