use Rattle.std.proofs.Common.{◌∙◌, ap, ◌≡◌, ◌++◌, ◌∷◌, [], refl, map, reverse}
use Rattle.std.specs.Prelude.{All}
use Rattle.mr_phase.proofs.Held.{held_more, held_all, held_of, all_turned, ok_so, new_more}
use Rattle.mr_phase.proofs.hands.hold_each.Goals as goal

pub loop-local-preserved : goal.loop-local-preserved
loop-local-preserved g c =
    let inv = c.loop-local.invariant in
    let held = held_of c.in_ok-with_room.field-0 c.in_ok-with_room-2.field-0 c.in-Some.local in
    let is = c.push.ensures.items ∙ ap (λ hs. hs ++ held ∷ []) c.in_ok-room.ensures.items in (
      held_more c.args.locals.items c.loop-local.locals.items c.pop.new.self.items c.in-Some.local c.loop-local.helds.items
          c.push.new.self.items held inv.0 c.in-Some.ensures.0 is refl,
      new_more c.loop-local.helds.items c.push.new.self.items held is c.in_ok-with_room.ensures.0 c.in_ok-with_room-2.ensures.0 inv.1,
    )

pub returns-clause-locals : goal.returns-clause-locals
returns-clause-locals g c =
    ok_so (λ r. r.items ≡ reverse c.loop-local.helds.items) (λ r. map (λ held. held.local) r.items ≡ c.args.locals.items)
    (λ r is. held_all c.args.locals.items c.loop-local.locals.items c.loop-local.helds.items r.items c.loop-local.invariant.0
    c.in_default.ensures.0 is) c.turned.result c.turned.ensures

pub returns-clause-new : goal.returns-clause-new
returns-clause-new g c =
    ok_so (λ r. r.items ≡ reverse c.loop-local.helds.items)
    (λ r. All (λ held. (held.hands.items ≡ []) × (held.tasks.items ≡ [])) r.items)
    (λ r is. all_turned (λ held. (held.hands.items ≡ []) × (held.tasks.items ≡ [])) c.loop-local.helds.items r.items is
    c.loop-local.invariant.1) c.turned.result c.turned.ensures
