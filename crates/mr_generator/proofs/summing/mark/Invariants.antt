use Rattle.std.proofs.Common.{◌≡◌, ◌≤◌, ◌+◌, ◌*◌, ◌^◌, drop}
use Rattle.mr_items.specs.Generator.{mark_of}
use Rattle.mr_generator.proofs.Steps.{mark_from}
use Rattle.mr_generator.proofs.summing.mark.Given as goal

-- the bytes so far and those that come sum up to the mark, and each is at most 255 at a place of at most 2 ^ 56
abbrev pub invariant-loop-byte : goal.invariant-loop-byte
invariant-loop-byte l =
    (l.mark + mark_from (l.byte-index + 1) (drop l.byte-index l.text) ≡ mark_of l.text)
    × (l.place ≡ l.byte-index)
    × (l.mark ≤ l.byte-index * 2 ^ 64)
