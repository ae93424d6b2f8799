use Rattle.std.proofs.Common.{◌<◌, ◌∙◌, ◌+◌, ◌%◌, ◌++◌, ◌∷◌, [], ap, sym, subst, cond, is_some, length, map}
use Rattle.std.proofs.lemmas.List.{length-set}
use Rattle.std.specs.List.{IsDistinct}
use Rattle.std.specs.FinMap.{find}
use Rattle.std.specs.Ordering.{eq_by_cmp}
use Rattle.mr_hash.specs.Slots.{Indexed}
use Rattle.mr_hash.specs.Pairs.{pairs_of}
use Rattle.mr_hash.proofs.Finding.{keys_kept, cell_changed, cell_pushed, entry_found, on_ok, either_way}
use Rattle.mr_hash.proofs.table.Table.join.Goals as goal

pub invariant_of-self : goal.invariant_of-self
invariant_of-self g c =
    let table = c.args.self.now in
    let keys = keys_kept table.entries.items c.in-Some.at c.index_mut-entry.result.now c.merge.new.into c.index_mut-entry.ensures.value in
    record {
      some_buckets = table.some_buckets;
      few_buckets = table.few_buckets;
      half = table.half;
      some_slots = table.some_slots;
      few_slots = table.few_slots;
      shifts = table.shifts;
      distinct = subst (IsDistinct (eq_by_cmp g.K.Ord.cmp)) (sym keys) table.distinct;
      in_buckets = table.in_buckets ∙ ap (map (λ k. g.K.Key.hash_of k % g.row.N)) (sym keys);
      chained = table.chained;
      found = subst (λ ks. Indexed table.index.len table.shift table.index.items (map g.K.Key.code_of ks)) (sym keys) table.found;
    }

pub returns-in-Some-clause-cells : goal.returns-in-Some-clause-cells
returns-in-Some-clause-cells g c =
    let table = c.args.self.now in
    on_ok c.merge.result c.merge.ensures.ok
    (cell_changed g.met.K.Ord.total g.met.K.Key.only_equal_tie g.C.Combiner.merged table.entries.items c.args.key.now
    c.args.cell.now c.merge.new.into c.in-Some.at c.index_mut-entry.result.now table.distinct
    (subst (λ n. c.in-Some.at < n) table.entries.ok.0 c.in-Some.ensures.within) c.index_mut-entry.ensures.value
    (ap (λ e. g.K.Ord.cmp c.args.key.now e.key) c.index_mut-entry.ensures.value ∙ c.in-Some.ensures.place _))

pub returns-in-Some-clause-len : goal.returns-in-Some-clause-len
returns-in-Some-clause-len g c =
    let table = c.args.self.now in
    let there = entry_found g.met.K.Ord.total g.met.K.Key.only_equal_tie table.entries.items c.args.key.now c.in-Some.at
    c.index_mut-entry.result.now table.distinct
    (subst (λ n. c.in-Some.at < n) table.entries.ok.0 c.in-Some.ensures.within) c.index_mut-entry.ensures.value
    (ap (λ e. g.K.Ord.cmp c.args.key.now e.key) c.index_mut-entry.ensures.value ∙ c.in-Some.ensures.place _) in
    either_way c.merge.result (length-set table.entries.items c.in-Some.at _ ∙ ap
    (λ x. cond (is_some x) (length table.entries.items) (length table.entries.items + 1)) (sym there))

pub returns-in_ok-insert-in-None-clause-cells : goal.returns-in_ok-insert-in-None-clause-cells
returns-in_ok-insert-in-None-clause-cells g c q =
    let entries = c.args.self.now.entries.items in
    let first = c.in_ok-first-in-None.first in
    ap (λ es. find g.K.Ord.cmp q (pairs_of es))
    (c.in_ok-insert-in-None.ensures.ok
    ∙ ap (λ k. entries ++ record { cell = first; key = k } ∷ []) c.in_ok-copied-in-None.ensures.same)
    ∙ cell_pushed g.met.K.Ord.total g.met.K.Key.only_equal_tie g.C.Combiner.merged entries c.args.key.now
    c.args.cell.now first c.in-None.ensures.place c.in_ok-first-in-None.ensures.ok q
