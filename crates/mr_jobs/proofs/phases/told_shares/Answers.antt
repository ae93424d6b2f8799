use Rattle.std.proofs.Common.{◌≡◌, ◌∙◌, sym, true}
use Rattle.mr_phase.specs.declared.hands.Hand.{Hand}
use Rattle.mr_report.specs.Shown.{workers_of}
use Rattle.mr_jobs.proofs.Sharing.{lawful, told}
use Rattle.mr_jobs.proofs.phases.told_shares.Goals as goal

pub returns : goal.returns
returns g c = λ tasks emits once stands.
    let asked : c.args.workers.now.reports ≡ true = sym c.reports.ensures ∙ c.if-not-reports.false in
    let shares = c.in_ok-shares.shares in
    told g.L.Key.Ord.cmp g.L.Parted.inside emits c.args.workers.now.count tasks (workers_of shares.items) c.args.workers.now.reports asked
    (lawful (λ (h : Hand g.row.L.Denot). h.tasks.items) (λ h. g.L.Local.cell_count h.local) g.L.Key.Ord.cmp g.L.Parted.inside emits
    c.args.workers.now.count tasks c.args.mapped.now (workers_of shares.items) c.in_ok-shares.ensures.seen (c.requires.count asked) once
    (c.in_ok-shares.ensures.cells emits stands))
