use Rattle.std.proofs.Common.{◌≡◌, ◌++◌, take}
use Rattle.mr_container.specs.Entries.{seen_of}
use Rattle.mr_hash.specs.Pairs.{pairs_of}
use Rattle.mr_phase.proofs.joined.lend_entries.Given as goal

abbrev pub invariant-loop-entry : goal.invariant-loop-entry
invariant-loop-entry g l = seen_of l.lent.items ≡ seen_of l.fn.lent.items ++ pairs_of (take l.entry-index l.list)
