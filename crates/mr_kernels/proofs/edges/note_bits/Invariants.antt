use Rattle.std.proofs.Common.{◌≡◌, ◌+◌, ◌++◌, length, take}
use Rattle.mr_kernels.specs.Edges.{bits, set_places}
use Rattle.mr_kernels.proofs.edges.note_bits.Given as goal

abbrev pub invariant-loop-rest : goal.invariant-loop-rest
invariant-loop-rest l = record {
  same : length l.edges ≡ length l.initial.edges;
  number : l.at + length (set_places l.base (bits 64 l.rest)) ≡ l.from + length (set_places l.base (bits 64 l.mask));
  places : take l.at l.edges ++ set_places l.base (bits 64 l.rest) ≡ take l.from l.initial.edges ++ set_places l.base (bits 64 l.mask);
}

abbrev pub decreases-loop-rest : goal.decreases-loop-rest
decreases-loop-rest l = l.rest
