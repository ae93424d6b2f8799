use Rattle.std.proofs.Common.{◌≡◌, ℕ, List, [], map, sym, ap, subst, ◌∙◌}
use Rattle.std.specs.Prelude.{Ok, IfOk}
use Rattle.std.specs.List.Sorted.{IsPermutation}
use Rattle.std.proofs.lemmas.List.Sorted.{IsPermutation-trans}
use Rattle.mr_defs.specs.Partitions.{concatenated}
use Rattle.mr_items.specs.Texts.{rows_text}
use Rattle.mr_merge.specs.Lists.{lent, lists_of, rows_of}
use Rattle.mr_merge.specs.Plans.{IsCut, IsPlan}
use Rattle.mr_merge.specs.Merged.{AreMerged, IsMergedText}
use Rattle.mr_merge.specs.Rising.{rank}
use Rattle.mr_merge.specs.Taken.{taken_rows}
use Rattle.mr_merge.proofs.Ends.{gathered}
use Rattle.mr_merge.proofs.Printing.{if_ok, printed_by, taken_all, taken_rise}
use Rattle.mr_merge.proofs.Taking.{rows_are}
use Rattle.mr_merge.proofs.text.merged_text.Goals as goal

pub returns : goal.returns
returns g c =
    let lt = rank g.K.Ord.cmp in
    let entries = c.in_ok-entries.entries.items in
    let lists = lists_of entries in
    let printed = printed_by g.K.Key.printed lt lists c.in_ok-ranges.ranges.items c.in_ok-texts.texts.items c.in_ok-texts-2.texts.items
    (sym c.in_ok-texts.texts.ok.0 ∙ c.in_ok-texts.ensures.len ∙ c.in_ok-ranges.ranges.ok.0)
    c.in_ok-texts-2.ensures (subst (λ es. IsCut lt (lists_of es) (map (λ r. lent r.items) c.in_ok-ranges.ranges.items))
    c.deref.ensures.value c.in_ok-ranges.ensures.cut)
    (λ i r s h e f.
    let given = (c.in_ok-texts.ensures.each i s h).1 in
    subst (λ q. IfOk s (λ t. (plan : List ℕ) × IsPlan lt (lent q.items) plan
    × (t ≡ rows_text g.K.Key.printed (taken_rows (lent q.items) plan)))) (sym (e ∙ given.job_is r))
    (subst (λ u. IfOk u (λ t. (plan : List ℕ) × IsPlan lt (lent given.job.items) plan
    × (t ≡ rows_text g.K.Key.printed (taken_rows (lent given.job.items) plan)))) (sym f) given.call.met)) in
    let rows = taken_rows lists printed.0 in
    let all : IsPermutation (concatenated c.args.lists.items) rows = IsPermutation-trans
    (concatenated c.args.lists.items) (concatenated lists) rows
    (subst (IsPermutation (concatenated c.args.lists.items)) (sym (rows_are lt entries)) c.in_ok-entries.ensures.all)
    (taken_all lt lists printed.0 printed.1) in
    let merged : AreMerged g.K.Ord.cmp c.args.lists.items rows = record {
      all = all;
      ascend = gathered c.are_ordered.ensures (concatenated c.args.lists.items) rows all (taken_rise lt lists printed.0 printed.1)
          c.requires.differ;
    } in
    if_ok c.appended.result (λ text. text ≡ concatenated c.in_ok-texts-2.texts.items)
    (IsMergedText g.K.Ord.cmp g.K.Key.printed c.args.lists.items) (λ text e. (rows, merged, e ∙ printed.2)) c.appended.ensures
