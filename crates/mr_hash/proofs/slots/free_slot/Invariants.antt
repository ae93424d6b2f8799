use Rattle.std.proofs.Common.{◌≢◌, ℕ, ◌<◌, length, get_or}
use Rattle.mr_hash.specs.Slots.{slot_of}
use Rattle.mr_hash.proofs.slots.free_slot.Given as goal

abbrev pub invariant-loop-distance : goal.invariant-loop-distance
invariant-loop-distance l = (nearer : ℕ) → nearer < l.distance → get_or l.index (slot_of (length l.index) l.shift l.code nearer) 0 ≢ 0
