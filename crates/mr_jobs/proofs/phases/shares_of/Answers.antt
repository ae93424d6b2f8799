use Rattle.std.proofs.Common.{◌≡◌, ◌≤◌, ◌∙◌, ◌∷◌, ◌++◌, [], ap, map, flat_map, sym, subst}
use Rattle.std.proofs.lemmas.List.{take_all}
use Rattle.mr_defs.specs.Rows.{cells_of}
use Rattle.mr_report.specs.Shown.{work_of}
use Rattle.mr_phase.specs.declared.hands.Hand.{Hand}
use Rattle.mr_jobs.specs.Shares.{AreShares}
use Rattle.mr_jobs.proofs.Sharing.{each_seen, one_more}
use Rattle.mr_jobs.proofs.phases.shares_of.Goals as goal

pub loop-worker-preserved : goal.loop-worker-preserved
loop-worker-preserved g c =
    one_more work_of (λ (h : Hand g.row.L.Denot). (h.tasks.items, g.L.Local.cell_count h.local)) c.loop-worker.shares.items
    c.push.new.self.items c.in_ok-share.share c.args.mapped.now c.loop-worker.worker c.hand.result.now
    c.hand.ensures c.in_ok-share.ensures (c.push.ensures.items
    ∙ ap (λ l. l ++ c.in_ok-share.share ∷ []) c.room.ensures.items) c.loop-worker.invariant

pub returns-clause-seen : goal.returns-clause-seen
returns-clause-seen g c =
    c.loop-worker.invariant ∙ ap (map (λ (h : Hand g.row.L.Denot). (h.tasks.items, g.L.Local.cell_count h.local)))
    (take_all c.loop-worker.worker c.args.mapped.now (subst (λ n. n ≤ c.loop-worker.worker) c.len-worker-end.ensures
    c.loop-worker-test.false))

pub returns-clause-cells : goal.returns-clause-cells
returns-clause-cells g c emits all =
    subst (AreShares g.L.Key.Ord.cmp g.L.Parted.inside emits) (sym (returns-clause-seen g c))
    (each_seen (λ (h : Hand g.row.L.Denot). (h.tasks.items, g.L.Local.cell_count h.local))
    (λ w. w.1 ≡ cells_of g.L.Key.Ord.cmp g.L.Parted.inside (flat_map emits w.0)) c.args.mapped.now
    (λ h. g.L.Local.stands h.local (flat_map emits h.tasks.items))
    (λ h s. (g.met.L.Parted.means h.local (flat_map emits h.tasks.items) s).count) all)
