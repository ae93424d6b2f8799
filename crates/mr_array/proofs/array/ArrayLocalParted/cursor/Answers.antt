use Rattle.std.proofs.Common.{◌%◌, subst}
use Rattle.std.specs.Ordering.{nat_cmp}
use Rattle.mr_container.specs.Partition.{IsPartition}
use Rattle.mr_array.specs.Cells.{cell_under}
use Rattle.mr_array.proofs.Places.{part_of_cells}
use Rattle.mr_array.proofs.Strides.{begun}
use Rattle.mr_array.proofs.array.ArrayLocalParted.cursor.Goals as goal

pub returns-clause-all : goal.returns-clause-all
returns-clause-all g c =
    let cells = c.args.self.now.cells.items in
    subst (IsPartition nat_cmp (cell_under cells) (λ k. k % c.args.parts) c.args.part)
    (begun c.args.parts c.args.part cells c.requires.some c.requires.part)
    (part_of_cells (λ k. k % c.args.parts) c.args.part cells)
