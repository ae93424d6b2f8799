-- The rows of a round of points are clusters of them.
use Rattle.std.proofs.Common.{◌≡◌, ℕ, ℤ, Bool, false, List, Ok, subst}
use Rattle.std.specs.List.{All}
use Rattle.std.specs.Ordering.{nat_cmp}
use Rattle.mr_defs.specs.Emission.{Row}
use Rattle.mr_defs.specs.Folded.{vecsum_folded}
use Rattle.mr_defs.specs.Rounds.{round_of}
use Rattle.mr_items.specs.Grid.{columns_of}
use Rattle.mr_items.specs.KMeans.{kmeans_emissions}
use Rattle.mr_jobs.proofs.Passed.{passed_rows}
use Rattle.mr_numeric.proofs.ClusterRows.{are_clusters}
use Rattle.mr_numeric.specs.Grids.{IsEven}
use Rattle.mr_numeric.specs.Sums.{IsCluster}

pub clusters : (inside : ℕ → Bool) (means grid : List (List ℤ)) (rows : List (Row ℕ)) → IsEven grid
    → round_of nat_cmp inside false vecsum_folded (kmeans_emissions means grid) ≡ Ok rows
    → All (IsCluster (columns_of grid)) rows
clusters inside means grid rows even passed =
    subst (All (IsCluster (columns_of grid))) (passed_rows nat_cmp inside false vecsum_folded (kmeans_emissions means grid) rows passed)
    (are_clusters inside means grid even)
