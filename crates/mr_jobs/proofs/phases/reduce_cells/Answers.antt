use Rattle.std.proofs.Common.{subst, sym}
use Rattle.std.specs.List.Sorted.{IsPermutation}
use Rattle.mr_jobs.proofs.Merging.{only_differ}
use Rattle.mr_jobs.proofs.phases.reduce_cells.Goals as goal

pub returns-then-count-eq1-clause-differ : goal.returns-then-count-eq1-clause-differ
returns-then-count-eq1-clause-differ g c = only_differ g.L.Key.Ord.cmp
    (λ r. r.lists.items) c.gather.result c.gather.ensures.count c.gather.ensures.ascend

pub returns-clause-tasks : goal.returns-clause-tasks
returns-clause-tasks g c = λ pairs all stands perm. c.in_ok-reduced.ensures.tasks pairs all (c.arrange.ensures.stands pairs stands)
    (subst (IsPermutation all) (sym c.arrange.ensures.tasks) perm)
