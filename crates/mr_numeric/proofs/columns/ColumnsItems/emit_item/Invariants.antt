use Rattle.std.proofs.Common.{◌++◌, pos, get_or}
use Rattle.std.specs.List.{enumerate_from}
use Rattle.mr_numeric.specs.Pairs.{pair_of}
use Rattle.mr_numeric.proofs.Emitted.{emitted}
use Rattle.mr_numeric.proofs.columns.ColumnsItems.emit_item.Given as goal

abbrev pub invariant-loop-j : goal.invariant-loop-j
invariant-loop-j g l = record {
  stands : (es : _) → g.L.Local.stands l.initial.out es
      → g.L.Local.stands l.out (es ++ emitted (λ j. pair_of (get_or (enumerate_from 0 l.row) j (0, pos 0))) 0 l.j);
  origin : g.L.Local.same_origin l.initial.out l.out;
}
