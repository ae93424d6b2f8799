use Rattle.std.proofs.Common.{◌++◌, pos, get_or}
use Rattle.mr_numeric.proofs.Emitted.{emitted}
use Rattle.mr_numeric.specs.Pairs.{pair_of}
use Rattle.mr_numeric.proofs.pairs.emit_pairs.Given as goal

abbrev pub invariant-loop-i : goal.invariant-loop-i
invariant-loop-i g l = record {
  stands : (es : _) → g.L.Local.stands l.initial.out es
      → g.L.Local.stands l.out (es ++ emitted (λ i. pair_of (get_or l.pairs i (0, pos 0))) 0 l.i);
  origin : g.L.Local.same_origin l.initial.out l.out;
}
