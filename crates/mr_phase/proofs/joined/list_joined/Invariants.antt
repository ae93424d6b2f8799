use Rattle.std.proofs.Common.{◌≡◌, take, flat_map}
use Rattle.mr_container.specs.Entries.{seen_of}
use Rattle.mr_hash.specs.Pairs.{pairs_of}
use Rattle.mr_phase.proofs.joined.list_joined.Given as goal

abbrev pub invariant-loop-list : goal.invariant-loop-list
invariant-loop-list g l = seen_of l.lent.items ≡ flat_map (λ list. pairs_of list.items) (take l.list-index l.lists)
