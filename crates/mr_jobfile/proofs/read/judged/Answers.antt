use Rattle.std.proofs.Common.{◌∙◌, sym}
use Rattle.toml.specs.View.{table_view}
use Rattle.mr_jobfile.proofs.Allowed.{allowed}
use Rattle.mr_jobfile.proofs.read.judged.Goals as goal

pub described-requires : goal.described-requires
described-requires c =
    allowed c.in_ok-values.values (table_view c.args.table.now) c.in_ok-values.ensures (sym c.first_bad.ensures ∙ c.in_default-first_bad.is)
