use Rattle.std.proofs.Common.{subst, sym, ap, ◌∙◌, ◌++◌, ◌∷◌, [], refl}
use Rattle.mr_phase.specs.Held.{HoldsFor}
use Rattle.mr_phase.proofs.Held.{held_of, one_more}
use Rattle.mr_phase.proofs.hands.Held.map.Goals as goal

pub returns-in_ok-spill-clause-ok : goal.returns-in_ok-spill-clause-ok
returns-in_ok-spill-clause-ok g c tasks was =
    let stands = g.L.Local.stands in
    let emits = g.M.Mapper.task_emissions c.args.mapper.now in
    let more = tasks ++ c.args.task ∷ [] in
    let mapped = held_of c.args.self.now.hands c.push.new.self c.map.new.out in
    subst (λ b. HoldsFor b stands emits c.spill.new.self more) (sym c.if-spills.true)
    (c.in_ok-spill.ensures.ok emits more
    (subst (λ b. HoldsFor b stands emits mapped more) c.if-spills.true
    (one_more c.args.spills stands emits c.args.self.now mapped tasks c.args.task refl
    (c.push.ensures.items ∙ ap (λ ts. ts ++ c.args.task ∷ []) c.in_ok-room.ensures.items) c.in_ok-map.ensures.ok was)))
