use Rattle.std.proofs.Common.{◌∙◌, sym, length, ap}
use Rattle.mr_grid.proofs.Chunks.{length-rows_of}
use Rattle.mr_grid.proofs.grid.Grid.rows.Goals as goal

pub returns : goal.returns
returns c = sym (length-rows_of c.self.inside.numbers.items c.self.inside.columns c.self.inside.rows) ∙ ap length c.self.view_is
