use Rattle.std.proofs.Common.{◌≤◌, ◌≡◌, pos, nat_abs, List, Option, Some, None, get_or, ℕ, refl, arith, ap, [], rules, ◌∙◌}
use Rattle.std.specs.Int.{w128}
use Rattle.std.proofs.lemmas.Int.{to_z-of_z}
use Rattle.std.specs.Prelude.{find, ◌==◌}
use Rattle.std.specs.Option.{option_map_or}
use Rattle.mr_defs.specs.Emission.{Row}
use Rattle.mr_defs.specs.Folded.{limit}
use Rattle.mr_items.specs.Texts.{number_at}
use Rattle.mr_numeric.specs.Sums.{AreSums, IsSum}
use Rattle.mr_numeric.proofs.Taken.{found_has}
use Rattle.mr_numeric.proofs.sums.sum_at.Goals as goal

number_small : (rows : List (Row ℕ)) (k : ℕ) → AreSums rows → nat_abs (number_at rows k) ≤ limit
number_small rows k are = by (find (λ row. row.0 == k) rows) refl
  where
    by : (o : Option (Row ℕ)) → find (λ row. row.0 == k) rows ≡ o → nat_abs (get_or (option_map_or (λ row. row.1) o []) 0 (pos 0)) ≤ limit
    by None e = omega arith
    by (Some row) e = let is = found_has IsSum (λ row. row.0 == k) rows row are e in is.small

pub returns-clause-small : goal.returns-clause-small
returns-clause-small c =
    let kept = to_z-of_z w128 c.number_at.result (search rules) in
    let small = number_small c.args.rows.now c.args.key c.requires in
    omega (arith, small, ap nat_abs (kept ∙ c.number_at.ensures))
