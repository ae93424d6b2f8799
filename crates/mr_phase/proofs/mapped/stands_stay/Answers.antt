use Rattle.mr_phase.proofs.Kept.{stands_kept}
use Rattle.mr_phase.proofs.mapped.stands_stay.Goals as goal

pub returns : goal.returns
returns g c pairs olds news same all =
    stands_kept g.L.Local.same g.L.Local.stands (λ s t e. (g.met.L.Local.same_keeps s t e).0) pairs olds news same all
