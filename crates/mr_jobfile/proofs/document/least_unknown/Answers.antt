use Rattle.std.proofs.Common.{◌∙◌, ap, sym}
use Rattle.mr_jobfile.proofs.Unknown.{unknown_in, least_first}
use Rattle.mr_jobfile.proofs.document.least_unknown.Goals as goal

pub loop-name-init : goal.loop-name-init
loop-name-init c =
    let keys = c.keys-name-items.ensures in (
      tt,
      tt,
      least_first c.args.table.now.entries keys.ordered
          ∙ ap unknown_in (sym (c.into_iter-name-iterator.ensures.into_iter_gives ∙ keys.rest)),
    )
