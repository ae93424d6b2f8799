use Rattle.std.proofs.Common.{◌≡◌, length, subst}
use Rattle.mr_items.specs.Grid.{columns_of}
use Rattle.mr_jobs.proofs.Grids.{dense_full}
use Rattle.mr_jobs.proofs.matrix_product.matrix_product.Goals as goal

pub product-requires-clause-full : goal.product-requires-clause-full
product-requires-clause-full g c κs within =
    subst (λ grid. columns_of grid ≡ 0 → length grid ≡ 0) c.right.view_is
    (dense_full c.right.inside.numbers.items c.right.inside.columns c.right.inside.rows c.right.invariant)
