use Rattle.std.proofs.Common.{◌≡◌, map, drop}
use Rattle.mr_capacity.specs.Rows.{seen_row}
use Rattle.mr_jobfile.specs.Values.{keys_in}
use Rattle.mr_jobfile.proofs.pairing.keys_in.Given as goal

abbrev pub invariant-loop-row : goal.invariant-loop-row
invariant-loop-row l =
    keys_in (map seen_row l.rows) l.values l.job l.container l.combiner
    ≡ keys_in (map seen_row (drop l.row-index l.rows)) l.values l.job l.container l.combiner
