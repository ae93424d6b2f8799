use Rattle.std.proofs.Common.{◌<◌, ◌≤◌, subst, ap, ◌∙◌, T}
use Rattle.std.specs.FinMap.{is_sorted}
use Rattle.mr_container.proofs.Places.{find_gap}
use Rattle.mr_container.proofs.Ascending.{not_spared, sorted_set, sorted_insert, emitted_here_ok, emitted_gap, either_list, spared_here}
use Rattle.mr_container.proofs.Ascending.{spared_gap}
use Rattle.mr_container.proofs.sorted.SortedLocalLocal.emit.Goals as goal

pub invariant_of-self : goal.invariant_of-self
invariant_of-self g c = record {
  ascending = sorted_set g.met.K.Ord.total _ c.args.self.now.ascending c.args.key
      _ _ _ (subst (λ n. c.in-Ok.at < n) c.args.self.now.entries.ok.0 c.in-Ok.ensures.range) c.index_mut-entry.ensures.value
      (ap (λ e. g.K.Ord.cmp e.0 c.args.key) c.index_mut-entry.ensures.value ∙ c.in-Ok.ensures.found _);
}

pub invariant_of-self-in-Err : goal.invariant_of-self-in-Err
invariant_of-self-in-Err g c = record {
  ascending = either_list (λ l. T (is_sorted g.K.Ord.cmp l)) _ _ _ _ c.insert.ensures.items
      (sorted_insert g.met.K.Ord.total _ c.args.self.now.ascending c.args.key
      _ _ (subst (λ n. c.in-Err.at ≤ n) c.args.self.now.entries.ok.0 c.in-Err.ensures.range) c.in-Err.ensures.absent)
      c.args.self.now.ascending;
}

pub returns-in-Ok-clause-ok : goal.returns-in-Ok-clause-ok
returns-in-Ok-clause-ok g c =
    emitted_here_ok g.met.K.Ord.total _ c.args.self.now.ascending g.met.K.Key.only_equal_tie g.met.C.Combiner.laws g.C.Combiner.unit_of
    _ _ c.args.key c.args.value _ _ _ _ (subst (λ n. c.in-Ok.at < n) c.args.self.now.entries.ok.0 c.in-Ok.ensures.range)
    c.index_mut-entry.ensures.value
    (ap (λ e. g.K.Ord.cmp e.0 c.args.key) c.index_mut-entry.ensures.value ∙ c.in-Ok.ensures.found _) c.add.ensures.ok

pub returns-in_ok-insert-in-Err-clause-ok : goal.returns-in_ok-insert-in-Err-clause-ok
returns-in_ok-insert-in-Err-clause-ok g c es was =
    rw (c.in_ok-insert-in-Err.ensures.items, c.in_ok-insert-in-Err.ensures.len)
    (emitted_gap g.met.K.Ord.total _ c.args.self.now.ascending g.met.K.Key.only_equal_tie g.met.C.Combiner.laws g.C.Combiner.unit_of _ _ es
    was c.args.key c.args.value _ _ (subst (λ n. c.in-Err.at ≤ n) c.args.self.now.entries.ok.0 c.in-Err.ensures.range)
    c.in-Err.ensures.absent c.in_ok-cell-in-Err.ensures.ok)

pub returns-in_err-insert-in-Err-clause-no_memory :
    goal.returns-in_err-insert-in-Err-clause-no_memory
returns-in_err-insert-in-Err-clause-no_memory g c spared = absurd
    (not_spared g.C.Combiner.fixed
    _ (find_gap g.met.K.Ord.total c.args.key _ _ (subst (λ n. c.in-Err.at ≤ n) c.args.self.now.entries.ok.0 c.in-Err.ensures.range)
    c.in-Err.ensures.absent) spared)

pub returns-in-Ok-clause-spares : goal.returns-in-Ok-clause-spares
returns-in-Ok-clause-spares g c q =
    spared_here g.met.K.Ord.total _ c.args.self.now.ascending g.met.K.Key.only_equal_tie g.C.Combiner.fixed q _ _ _
    (subst (λ n. c.in-Ok.at < n) c.args.self.now.entries.ok.0 c.in-Ok.ensures.range) c.index_mut-entry.ensures.value

pub returns-in_ok-insert-in-Err-clause-spares :
    goal.returns-in_ok-insert-in-Err-clause-spares
returns-in_ok-insert-in-Err-clause-spares g c q =
    rw c.in_ok-insert-in-Err.ensures.items (spared_gap g.met.K.Ord.total _ c.args.self.now.ascending g.C.Combiner.fixed q c.args.key _ _
    (subst (λ n. c.in-Err.at ≤ n) c.args.self.now.entries.ok.0 c.in-Err.ensures.range) c.in-Err.ensures.absent)
