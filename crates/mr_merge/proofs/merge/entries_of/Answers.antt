use Rattle.std.proofs.Common.{◌∷◌, [], map, subst, sym}
use Rattle.std.specs.Prelude.{All}
use Rattle.std.specs.List.Sorted.{IsStrictlySortedBy}
use Rattle.std.proofs.lemmas.List.Elements.{All-push}
use Rattle.mr_defs.specs.Partitions.{concatenated}
use Rattle.mr_merge.specs.Rising.{Rises, rank}
use Rattle.mr_merge.proofs.Ends.{rises}
use Rattle.mr_merge.proofs.Entries.{all_front, all_last, taken_over}
use Rattle.mr_merge.proofs.merge.entries_of.Goals as goal

pub loop-list-preserved : goal.loop-list-preserved
loop-list-preserved g c =
    let i = c.loop-list.invariant in
    let popped = c.in-Some.ensures.0 in
    let run = c.into_entries.result in
    let lists = subst (All (λ list. IsStrictlySortedBy g.K.Ord.cmp (map (λ row. row.0) list))) popped i.left in
    record {
      all = taken_over
          (concatenated c.args.lists.items) c.loop-list.lists.items c.pop.new.self.items c.in-Some.list c.loop-list.entries.items
          c.push.new.self.items run popped c.into_entries.ensures c.in_ok-push.ensures.items i.all;
      left = all_front (λ list. IsStrictlySortedBy g.K.Ord.cmp (map (λ row. row.0) list)) c.pop.new.self.items
          (c.in-Some.list ∷ []) lists;
      each = subst (All (λ list. Rises (rank g.K.Ord.cmp) list.items)) (sym c.in_ok-push.ensures.items)
          (All-push (λ list. Rises (rank g.K.Ord.cmp) list.items) c.loop-list.entries.items run i.each
          (rises g.met.K.Ord.total run.items
          (subst (λ list. IsStrictlySortedBy g.K.Ord.cmp (map (λ row. row.0) list)) (sym c.into_entries.ensures)
          (all_last (λ list. IsStrictlySortedBy g.K.Ord.cmp (map (λ row. row.0) list)) c.pop.new.self.items c.in-Some.list lists))));
    }
