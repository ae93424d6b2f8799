use Rattle.std.proofs.Common.{rules, ◌≡◌, pos, sym, ap₂, ◌∙◌, arith, to_z}
use Rattle.std.specs.Int.{int_div_euclid, w128}
use Rattle.std.proofs.lemmas.Int.{ints, to_z-of_z}
use Rattle.std.proofs.lemmas.Option.{get_or_from_slice_get}
use Rattle.mr_numeric.proofs.means_of_columns.column_mean.Goals as goal

pub returns : goal.returns
returns c =
    let points : to_z w128 c.args.points ≡ pos c.args.points = omega (arith, ints) in
    to_z-of_z w128 c.div_euclid.result (search rules)
    ∙ c.div_euclid.ensures
    ∙ ap₂ int_div_euclid (to_z-of_z w128 c.number.result (search rules)
    ∙ sym (get_or_from_slice_get c.args.sum.now 0 c.number.result (pos 0) c.number.ensures)) points
