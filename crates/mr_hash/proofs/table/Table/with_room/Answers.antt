use Rattle.std.proofs.Common.{◌≡◌, ◌%◌, subst, sym, map, arith, []}
use Rattle.std.specs.List.{IsDistinct}
use Rattle.std.specs.Ordering.{eq_by_cmp}
use Rattle.mr_hash.specs.Pairs.{keys_of}
use Rattle.mr_hash.specs.Slots.{Indexed}
use Rattle.mr_hash.proofs.Indexing.{indexed_none}
use Rattle.mr_hash.proofs.Chaining.{no_heads}
use Rattle.mr_hash.proofs.Finding.{distinct_none}
use Rattle.mr_hash.proofs.table.Table.with_room.Goals as goal

pub invariant_of-result : goal.invariant_of-result
invariant_of-result g c =
    let none = sym c.in_ok-entries.ensures.items in
    let index = c.in_ok-index.index in
    let size = c.slots_for-size.result.0 in
    let shift = c.slots_for-size.result.1 in
    record {
      some_buckets = c.requires.some;
      few_buckets = c.requires.few;
      half = omega (arith, c.in_ok-entries.ensures.len);
      some_slots = omega (arith, c.in_ok-index.ensures.len, c.slots_for-size.ensures.some);
      few_slots = omega (arith, c.in_ok-index.ensures.len, c.slots_for-size.ensures.few);
      shifts = c.slots_for-size.ensures.shift;
      distinct = subst (λ es. IsDistinct (eq_by_cmp g.K.Ord.cmp) (keys_of es)) none (distinct_none _);
      in_buckets = subst (λ es. c.in_ok-buckets.buckets.items ≡ map (λ k. g.K.Key.hash_of k % g.row.N) (keys_of es)) none
          c.in_ok-buckets.ensures.items;
      chained = no_heads _ _ _ c.no_chains.ensures;
      found = subst (λ es. Indexed index.len shift index.items (map g.K.Key.code_of (keys_of es))) none
          (subst (λ n. Indexed n shift index.items []) (sym c.in_ok-index.ensures.len)
          (subst (λ l. Indexed size shift l []) (sym c.in_ok-index.ensures.items) (indexed_none size shift)));
    }
