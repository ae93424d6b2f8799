use Rattle.std.proofs.Common.{◌∙◌, ap, ◌≡◌, ◌++◌, ◌∷◌, [], flat_map, reverse}
use Rattle.mr_phase.specs.Held.{hands_held}
use Rattle.mr_phase.proofs.Held.{goes, gone, ok_so}
use Rattle.mr_phase.proofs.hands.hands_of.Goals as goal

pub loop-worker-preserved : goal.loop-worker-preserved
loop-worker-preserved g c =
    let w = c.in-Some.worker in
    goes c.args.workers.items c.loop-worker.workers.items c.pop.new.self.items w c.loop-worker.hands.items c.push.new.self.items
    c.put_turned.new.onto.items c.loop-worker.invariant c.in-Some.ensures.0
    (c.push.ensures.items ∙ ap (λ hs. hs ++ record { tasks = w.local.tasks; local = w.local.local } ∷ []) c.in_ok-room.ensures.items)
    c.in_ok-put_turned.ensures

pub returns : goal.returns
returns g c =
    ok_so (λ r. r.items ≡ reverse c.loop-worker.hands.items) (λ r. r.items ≡ flat_map (λ w. hands_held w.local) c.args.workers.items)
    (λ r is. gone c.args.workers.items c.loop-worker.workers.items c.loop-worker.hands.items r.items c.loop-worker.invariant
    c.in_default.ensures.0 is) c.turned.result c.turned.ensures
