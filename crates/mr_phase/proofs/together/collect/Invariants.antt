use Rattle.std.proofs.Common.{◌≡◌, map}
use Rattle.mr_defs.specs.Commutative.{joined, joined_by}
use Rattle.mr_defs.specs.Keyed.{lesser}
use Rattle.mr_phase.proofs.together.collect.Given as goal

abbrev pub invariant-loop-partition : goal.invariant-loop-partition
invariant-loop-partition g l = record {
  lists : l.lists.items ≡ map (λ p. p.rows) l.yielded;
  malformed : l.noted.malformed ≡ l.fn.faults.malformed;
  outside : l.noted.outside ≡ l.fn.faults.outside;
  twice : l.noted.twice ≡ l.fn.faults.twice;
  over : l.noted.over ≡ joined (lesser g.K.Ord.cmp) l.fn.faults.over (joined_by (lesser g.K.Ord.cmp) (λ p. p.over) l.yielded);
}
