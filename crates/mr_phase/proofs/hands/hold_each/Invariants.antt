use Rattle.std.proofs.Common.{◌≡◌, ◌++◌, [], length, map, reverse}
use Rattle.std.specs.Prelude.{All}
use Rattle.mr_phase.proofs.hands.hold_each.Given as goal

abbrev pub invariant-loop-local : goal.invariant-loop-local
invariant-loop-local g l =
    (map (λ held. held.local) l.helds.items ++ reverse l.locals.items ≡ reverse l.fn.locals.items)
    × All (λ held. (held.hands.items ≡ []) × (held.tasks.items ≡ [])) l.helds.items

abbrev pub decreases-loop-local : goal.decreases-loop-local
decreases-loop-local g l = length l.locals.items
