use Rattle.std.proofs.Common.{◌≡◌, ◌-◌, ◌≤◌, pos, take, drop, get_or, map}
use Rattle.mr_items.specs.KMeans.{floor_div}
use Rattle.mr_numeric.proofs.new_means.quotients.Given as goal

abbrev pub invariant-loop-i : goal.invariant-loop-i
invariant-loop-i l = record {
  from : 1 ≤ l.i;
  each : l.each.items
      ≡ map (λ sum. floor_div sum (get_or l.answer 0 (pos 0))) (take (l.i - 1) (drop 1 l.answer));
}
