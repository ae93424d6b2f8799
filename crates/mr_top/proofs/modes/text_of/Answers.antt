use Rattle.std.proofs.Common.{◌≤◌, length, subst, sym}
use Rattle.mr_defs.specs.Limits.{input_limit}
use Rattle.mr_top.proofs.Short.{generated_short}
use Rattle.mr_top.proofs.modes.text_of.Goals as goal

pub returns-clause-short : goal.returns-clause-short
returns-clause-short c =
    subst (λ text. length text ≤ input_limit) (sym c.in_ok-generated.ensures) (generated_short c.args.seed c.args.count c.requires.1)
