use Rattle.std.proofs.Common.{◌%◌, ◌++◌, ◌∷◌, [], ◌∙◌, ap, sym, subst, map, set, length, arith}
use Rattle.std.specs.List.{IsDistinct}
use Rattle.std.specs.FinMap.{find}
use Rattle.std.specs.Ordering.{eq_by_cmp}
use Rattle.mr_hash.specs.declared.entry.Entry.{Entry}
use Rattle.mr_hash.specs.Slots.{Indexed, IsFree, word_of}
use Rattle.mr_hash.specs.Pairs.{pairs_of, keys_of}
use Rattle.mr_hash.proofs.Chaining.{no_heads}
use Rattle.mr_hash.proofs.Finding.{distinct_push, indexed_push, told_push}
use Rattle.mr_hash.proofs.table.Table.insert.Goals as goal

pub invariant_of-self-3 : goal.invariant_of-self-3
invariant_of-self-3 g c =
    let local = c.grow.new.self in
    let before = local.entries.items in
    let size = local.index.len in
    let code = c.code-code.result in
    let at = c.free_slot-free.result in
    let entry : Entry _ _ = record { cell = c.args.cell; key = c.args.key } in
    let pushed = sym c.push_reserved.ensures.items in
    let absent =
    ap (λ es. find g.K.Ord.cmp c.args.key (pairs_of es)) (c.grow.ensures.entries ∙ c.reserve.ensures.items) ∙ c.requires.absent in
    let free : IsFree (length local.index.items) local.shift local.index.items code at =
    subst (λ l. IsFree (length l) local.shift l code at) c.deref.ensures.value c.free_slot-free.ensures in
    record {
      some_buckets = local.some_buckets;
      few_buckets = local.few_buckets;
      half = omega (arith, c.in_ok-grow.ensures.room, c.push_reserved.ensures.len);
      some_slots = local.some_slots;
      few_slots = local.few_slots;
      shifts = local.shifts;
      distinct = subst (λ es. IsDistinct (eq_by_cmp g.K.Ord.cmp) (keys_of es)) pushed
          (distinct_push g.met.K.Ord.total before entry local.distinct absent);
      in_buckets =
          c.push_reserved-2.ensures.items ∙ ap (λ l. l ++ c.bucket_of-bucket.result ∷ []) local.in_buckets
          ∙ ap (λ b. map (λ k. g.K.Key.hash_of k % g.row.N) (keys_of before) ++ b ∷ []) c.bucket_of-bucket.ensures
          ∙ sym (told_push (λ k. g.K.Key.hash_of k % g.row.N) before entry)
          ∙ ap (λ es. map (λ k. g.K.Key.hash_of k % g.row.N) (keys_of es)) pushed;
      chained = no_heads _ _ _ c.clear.ensures.items;
      found = subst (λ es. Indexed size local.shift (set local.index.items at c.word_at.result) (map g.K.Key.code_of (keys_of es))) pushed
          (indexed_push g.K.Key.code_of size local.shift before entry local.index.items code at c.word_at.result local.found
          c.code-code.ensures
          (subst (λ n. IsFree n local.shift local.index.items code at) (sym local.index.ok.0) free)
          (c.word_at.ensures code c.tag_at.ensures.tag ∙ ap (λ n. word_of n code c.len-count.result) c.len-size.ensures
          ∙ ap (word_of size code) (c.len-count.ensures ∙ local.entries.ok.0)));
    }
