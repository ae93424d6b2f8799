use Rattle.std.proofs.Common.{◌≡◌, ◌∷◌, [], ℕ, ℤ, List, Err, Ok, true, map, subst, sym, ◌∙◌}
use Rattle.std.specs.Cmp.{nat_cmp_total}
use Rattle.std.specs.FinMap.{nat_cmp-IsAntisymmetric}
use Rattle.std.specs.List.{range_with_len}
use Rattle.std.specs.List.Sorted.{IsStrictlySortedBy}
use Rattle.std.specs.Prelude.{All, flat_map}
use Rattle.std.specs.Ordering.{nat_cmp}
use Rattle.mr_defs.specs.Emission.{Emission, Row}
use Rattle.mr_defs.specs.Folded.{once_folded}
use Rattle.mr_defs.specs.Rounds.{round_of}
use Rattle.mr_base.specs.Noting.{noted_of}
use Rattle.mr_defs.specs.Rows.{cells_of, rows_of}
use Rattle.mr_merge.specs.Merged.{AreMerged, CanMerge}
use Rattle.mr_items.specs.Keys.{below}
use Rattle.mr_phase.specs.declared.common.CommonHand.{CommonHand}
use Rattle.mr_jobs.proofs.CommonRounds.{common_passed, common_refused, none_twice}
use Rattle.mr_jobs.proofs.Merging.{one_can, one_is, rows_of_ascend}
use Rattle.mr_jobs.proofs.shared.common_round.Goals as goal

-- an array of this size gave these rows, which ascend
module _ (size : ℕ) (es : List (Emission ℕ ℤ)) (list : List (Row ℕ)) (lists : List (List (Row ℕ))) (is : lists ≡ list ∷ [])
    (are : list ≡ rows_of nat_cmp (below size) once_folded es) where
  ascends : IsStrictlySortedBy nat_cmp (map (λ row. row.0) list)
  ascends = subst (λ rows. IsStrictlySortedBy nat_cmp (map (λ row. row.0) rows)) (sym are)
      (rows_of_ascend nat_cmp_total nat_cmp-IsAntisymmetric (below size) once_folded es)

  can_merge : CanMerge nat_cmp lists
  can_merge = subst (CanMerge nat_cmp) (sym is) (one_can nat_cmp list ascends)

  merged_is : (rows : List (Row ℕ)) → AreMerged nat_cmp lists rows → rows ≡ rows_of nat_cmp (below size) once_folded es
  merged_is rows merged = one_is nat_cmp_total nat_cmp-IsAntisymmetric list rows ascends
      (subst (λ l. AreMerged nat_cmp l rows) is merged) ∙ are

pub returns-in-Some : goal.returns-in-Some
returns-in-Some g c =
    let es = flat_map (g.M.Mapper.task_emissions c.args.mapper.now) (range_with_len 0 (g.M.Mapper.task_count c.args.mapper.now)) in
    let done = c.in_ok-done.done in
    record {
      merge = tt;
      rows = subst (λ n. round_of nat_cmp (below n) true once_folded es ≡ Err c.in-Some.fault) c.size_of.ensures.same
          (common_refused nat_cmp (below c.size_of.result) once_folded es (noted_of done.faults) c.in_ok-done.ensures.faults c.in-Some.fault
          (sym c.in-Some.is ∙ c.first.ensures));
      shares = tt;
    }

pub returns-in_ok-told_shares-in-None : goal.returns-in_ok-told_shares-in-None
returns-in_ok-told_shares-in-None g c =
    let m = c.args.mapper.now in
    let emits = g.M.Mapper.task_emissions m in
    let es = flat_map emits (range_with_len 0 (g.M.Mapper.task_count m)) in
    let capacity = c.args.job.now.capacity in
    let size = c.size_of.result in
    let same = c.size_of.ensures.same in
    let done = c.in_ok-done.done in
    let told = c.in_ok-done.ensures in
    let lists = c.in_ok-only-in-None in
    let first = sym c.in-None.is ∙ c.first.ensures in
    let none = none_twice (noted_of done.faults) first in
    let cells = subst (λ n. All (λ (h : CommonHand). h.cells ≡ cells_of nat_cmp (below n) (flat_map emits h.tasks.items)) done.hands.items)
    same (told.cells none) in
    record {
      merge = can_merge size es done.rows lists.field-0.items lists.ensures (told.rows none);
      rows = λ rows merged. subst (λ n. round_of nat_cmp (below n) true once_folded es ≡ Ok rows) same
          (common_passed nat_cmp (below size) once_folded es (noted_of done.faults) told.faults rows first
          (λ none. merged_is size es done.rows lists.field-0.items lists.ensures (told.rows none) rows merged));
      shares = c.in_ok-told_shares-in-None.ensures (below capacity) (g.M.Mapper.task_count m) emits told.once cells;
    }
