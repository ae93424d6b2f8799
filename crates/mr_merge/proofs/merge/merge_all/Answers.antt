use Rattle.std.proofs.Common.{map, sym, subst}
use Rattle.std.specs.List.Sorted.{IsPermutation, IsStrictlySortedBy}
use Rattle.std.proofs.lemmas.List.Sorted.{IsPermutation-trans}
use Rattle.mr_defs.specs.Partitions.{concatenated}
use Rattle.mr_merge.specs.Lists.{rows_of}
use Rattle.mr_merge.proofs.Ends.{gathered}
use Rattle.mr_merge.proofs.merge.merge_all.Goals as goal

pub returns-clause-all : goal.returns-clause-all
returns-clause-all g c =
    subst (IsPermutation (concatenated c.args.lists.items)) (sym c.from_entries.ensures)
    (IsPermutation-trans (concatenated c.args.lists.items)
    (rows_of c.in_ok-entries.entries.items) c.in_ok-rows.rows.items c.in_ok-entries.ensures.all c.in_ok-rows.ensures.all)

pub returns-clause-ascends : goal.returns-clause-ascends
returns-clause-ascends g c =
    let all = IsPermutation-trans (concatenated c.args.lists.items)
    (rows_of c.in_ok-entries.entries.items) c.in_ok-rows.rows.items c.in_ok-entries.ensures.all c.in_ok-rows.ensures.all in
    subst (λ rows. IsStrictlySortedBy g.K.Ord.cmp (map (λ row. row.0) rows)) (sym c.from_entries.ensures)
    (gathered c.are_ordered.ensures
    (concatenated c.args.lists.items) c.in_ok-rows.rows.items all c.in_ok-rows.ensures.rises c.requires.differ)
