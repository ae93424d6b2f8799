use Rattle.std.proofs.Common.{◌++◌, length, flat_map}
use Rattle.std.specs.List.Sorted.{IsPermutation}
use Rattle.mr_phase.proofs.reduce.in_order.Given as goal

abbrev pub invariant-loop-share : goal.invariant-loop-share
invariant-loop-share g l =
    IsPermutation (flat_map (λ h. h.local.items) l.fn.shares.items) (l.all.items ++ flat_map (λ h. h.local.items) l.shares.items)

abbrev pub decreases-loop-share : goal.decreases-loop-share
decreases-loop-share g l = length l.shares.items
