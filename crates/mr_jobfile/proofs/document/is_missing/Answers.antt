use Rattle.toml.proofs.Views.{table_get}
use Rattle.mr_jobfile.proofs.Lookups.{missing}
use Rattle.mr_jobfile.proofs.document.is_missing.Goals as goal

pub returns : goal.returns
returns c =
    let found = table_get c.get.result c.text.result.now c.args.table.now.entries c.get.ensures.value in
    rw (← c.text.ensures) (missing _ c.get.result _ _ found c.is_none.ensures)
