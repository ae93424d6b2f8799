use Rattle.std.proofs.Common.{◌≡◌, ◌+◌, ◌∙◌, ap, sym, subst, refl, arith, map, set, take, length, []}
use Rattle.std.proofs.lemmas.List.{length-take-le}
use Rattle.mr_hash.specs.Pairs.{keys_of}
use Rattle.mr_hash.specs.Slots.{Indexed, IsFree, word_of}
use Rattle.mr_hash.proofs.Indexing.{indexed_none}
use Rattle.mr_hash.proofs.Finding.{indexed_push, entries_more}
use Rattle.mr_hash.proofs.slots.indexed.Goals as goal

pub loop-entry-init : goal.loop-entry-init
loop-entry-init g c = record {
  size = c.in_ok-index.ensures.len;
  at = refl;
  indexed = subst (λ l. Indexed c.args.size c.args.shift l []) (sym c.in_ok-index.ensures.items) (indexed_none c.args.size c.args.shift);
}

pub loop-entry-preserved : goal.loop-entry-preserved
loop-entry-preserved g c =
    let entries = c.args.entries.now in
    let first = take c.loop-entry.entry-index entries in
    let index = c.loop-entry.index.items in
    let kept = c.loop-entry.invariant in
    let long : length index ≡ c.args.size = sym c.loop-entry.index.ok.0 ∙ kept.size in
    let free : IsFree (length index) c.args.shift index c.code-code.result c.free_slot-free.result = subst
    (λ l. IsFree (length l) c.args.shift l c.code-code.result c.free_slot-free.result) c.deref.ensures.value c.free_slot-free.ensures in
    record {
      size = kept.size;
      at = ap (λ n. n + 1) kept.at;
      indexed = subst (λ l. Indexed c.args.size c.args.shift (set index c.free_slot-free.result c.word_at.result)
          (map g.K.Key.code_of (keys_of l)))
          (sym (entries_more entries c.loop-entry.entry-index c.entry-item.result c.loop-entry-test.true c.entry-item.is))
          (indexed_push g.K.Key.code_of c.args.size c.args.shift first c.entry-item.result index c.code-code.result c.free_slot-free.result
          c.word_at.result kept.indexed c.code-code.ensures
          (subst (λ n. IsFree n c.args.shift index c.code-code.result c.free_slot-free.result) long free)
          (c.word_at.ensures c.code-code.result c.tag_at.ensures.tag
          ∙ ap (word_of c.args.size c.code-code.result)
          (kept.at ∙ sym (length-take-le c.loop-entry.entry-index entries (omega (arith, c.loop-entry-test.true))))));
    }
