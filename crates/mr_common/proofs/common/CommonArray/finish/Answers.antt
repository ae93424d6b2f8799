use Rattle.std.proofs.Common.{◌≡◌, ℕ, ℤ, List, map, flat_map, sym, ap, ◌∙◌, subst}
use Rattle.std.specs.List.Sorted.{IsPermutation, IsStrictlySortedBy}
use Rattle.std.specs.Ordering.{nat_cmp}
use Rattle.mr_common.specs.Lawful.{IsLawful}
use Rattle.mr_common.specs.Passes.{pairs_to, row_of, won}
use Rattle.mr_common.proofs.Gathering.{begins, next_seat, goes_on, end_ascending, end_rows, end_differ, end_refused}
use Rattle.mr_common.proofs.common.CommonArray.finish.Goals as goal

pub loop-next-init : goal.loop-next-init
loop-next-init c =
    let t = c.args.self.table.shared in
    let e = c.in_ok-rows.ensures in (
      begins t.table_id c.args.self.size t.key.passes c.pop.new.self.items c.in-Some.first c.args.passes.items c.in-Some.ensures.0
          c.requires.count c.requires.passes,
      e.items,
      e.len,
      e.capacity,
    )

pub join-requires-clause-other : goal.join-requires-clause-other
join-requires-clause-other c =
    let t = c.args.self.table.shared in
    next_seat t.table_id c.args.self.size t.key.passes c.pop-in-loop-next.new.self.items c.in-Some-pop.next c.loop-next.seat
    c.loop-next.passes.items c.args.passes.items c.loop-next.invariant.0 c.in-Some-pop.ensures.0

pub loop-next-preserved : goal.loop-next-preserved
loop-next-preserved c =
    let t = c.args.self.table.shared in
    let i = c.loop-next.invariant in
    let j = c.join.ensures in (
      goes_on t.table_id c.args.self.size t.key.passes c.pop-in-loop-next.new.self.items c.in-Some-pop.next c.loop-next.seat
          c.loop-next.passes.items c.args.passes.items i.0 c.in-Some-pop.ensures.0 c.join.new.seat
          j.same.0 j.same.1 j.both,
      i.1,
      i.2,
      i.3,
    )

-- the rows are those of the last state of the words
rows_is : (c : goal.After-drop-passes-inside-2)
    → c.from_entries.result ≡ map row_of (pairs_to c.close_with-closed.ensures.values.2.0.words c.args.self.size)
rows_is c = c.from_entries.ensures ∙ c.read_rows.ensures
    ∙ ap (λ words. map row_of (pairs_to words c.args.self.size)) (sym c.close_with-closed.ensures.values.2.2)

pub returns-clause-ascending : goal.returns-clause-ascending
returns-clause-ascending c =
    let t = c.args.self.table.shared in
    let last = c.close_with-closed.ensures.values.2 in
    let held = subst (λ n. IsLawful n t.key.passes last.0.words last.0.views) c.args.self.words.2 last.1.0 in
    subst (λ (rows : List (ℕ × List ℤ)). IsStrictlySortedBy nat_cmp (map (λ (row : ℕ × List ℤ). row.0) rows)) (sym (rows_is c))
    (end_ascending t.table_id c.args.self.size t.key.passes c.loop-next.seat c.loop-next.passes.items c.args.passes.items
    c.loop-next.invariant.0 c.in_default-pop.ensures.0 last.0.words last.0.views held last.1.1)

pub returns-clause-rows : goal.returns-clause-rows
returns-clause-rows c =
    let t = c.args.self.table.shared in
    let last = c.close_with-closed.ensures.values.2 in
    let held = subst (λ n. IsLawful n t.key.passes last.0.words last.0.views) c.args.self.words.2 last.1.0 in
    subst (λ (rows : List (ℕ × List ℤ)). IsPermutation (map row_of (flat_map won c.args.passes.items)) rows) (sym (rows_is c))
    (end_rows t.table_id c.args.self.size t.key.passes c.loop-next.seat c.loop-next.passes.items c.args.passes.items
    c.loop-next.invariant.0 c.in_default-pop.ensures.0 last.0.words last.0.views held last.1.1)

pub returns-clause-differ : goal.returns-clause-differ
returns-clause-differ c =
    let t = c.args.self.table.shared in
    let last = c.close_with-closed.ensures.values.2 in
    let held = subst (λ n. IsLawful n t.key.passes last.0.words last.0.views) c.args.self.words.2 last.1.0 in
    end_differ t.table_id c.args.self.size t.key.passes c.loop-next.seat c.loop-next.passes.items c.args.passes.items
    c.loop-next.invariant.0 c.in_default-pop.ensures.0 last.0.words last.0.views held last.1.1

pub returns-clause-refused : goal.returns-clause-refused
returns-clause-refused c =
    let t = c.args.self.table.shared in
    let last = c.close_with-closed.ensures.values.2 in
    let held = subst (λ n. IsLawful n t.key.passes last.0.words last.0.views) c.args.self.words.2 last.1.0 in
    end_refused t.table_id c.args.self.size t.key.passes c.loop-next.seat c.loop-next.passes.items c.args.passes.items
    c.loop-next.invariant.0 c.in_default-pop.ensures.0 last.0.words last.0.views held last.1.1
