use Rattle.mr_hash.proofs.Chaining.{IsChainedFrom}
use Rattle.mr_hash.proofs.chains.chained.Given as goal

abbrev pub invariant-loop-at : goal.invariant-loop-at
invariant-loop-at l = IsChainedFrom l.at l.parts l.heads.items l.links.items l.buckets

abbrev pub decreases-loop-at : goal.decreases-loop-at
decreases-loop-at l = l.at
