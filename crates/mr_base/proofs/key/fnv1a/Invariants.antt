use Rattle.std.proofs.Common.{◌≡◌, drop}
use Rattle.mr_base.specs.Hash.{fnv1a_from, fnv1a_of}
use Rattle.mr_base.proofs.key.fnv1a.Given as goal

abbrev pub invariant-loop-b : goal.invariant-loop-b
invariant-loop-b l = fnv1a_from l.state (drop l.b-index l.bytes) ≡ fnv1a_of l.bytes
