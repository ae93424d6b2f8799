use Rattle.std.proofs.Common.{ap, subst, sym}
use Rattle.mr_items.specs.Grid.{columns_of}
use Rattle.mr_items.specs.KMeans.{KMeansState}
use Rattle.mr_jobs.proofs.ClustersMoved.{clusters}
use Rattle.mr_numeric.proofs.ClusterRows.{have_points}
use Rattle.mr_numeric.specs.Sums.{AreMeans}
use Rattle.mr_jobs.proofs.kmeans.PointsRounds.sequel.Goals as goal

pub next_means-requires : goal.next_means-requires
next_means-requires c =
    let grid = c.args.self.now.grid.now in
    have_points (columns_of grid) c.args.rows.now (clusters c.requires.rows.0 c.args.state.now.means grid c.args.rows.now
    c.args.self.now.even c.requires.rows.1)

pub returns-clause-fits : goal.returns-clause-fits
returns-clause-fits c =
    let grid = c.args.self.now.grid.now in
    c.in_ok-means.ensures.fit (columns_of grid) (subst (AreMeans (columns_of grid))
    (ap (λ (s : KMeansState). s.means) (sym c.state.view_is)) c.requires.fits)
    (clusters c.requires.rows.0 c.args.state.now.means grid c.args.rows.now c.args.self.now.even c.requires.rows.1)
