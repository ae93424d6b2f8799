use Rattle.std.proofs.Common.{◌∙◌, ap}
use Rattle.std.specs.Ordering.{int_cmp, int_eq}
use Rattle.std.proofs.lemmas.List.Filters.{dedup_is}
use Rattle.mr_defs.specs.Keyed.{ascending}
use Rattle.mr_combine.proofs.Sorted.{sorted_deduped}
use Rattle.mr_combine.proofs.buffer.different.Goals as goal

pub returns : goal.returns
returns c =
    dedup_is int_eq c.sorted-values.result.items c.dedup.new.self.items c.dedup.ensures.filtered
    ∙ sorted_deduped c.sorted-values.result.items c.sorted-values.ensures.rises
    ∙ ap (ascending int_cmp) c.sorted-values.ensures.values
