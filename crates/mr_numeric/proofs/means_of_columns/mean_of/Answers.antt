use Rattle.std.proofs.Common.{rules, ap, ap₂, ◌∙◌, w32, to_z, of_z}
use Rattle.std.specs.Int.{int_div_euclid, w128}
use Rattle.std.proofs.lemmas.Int.{to_z-of_z}
use Rattle.mr_numeric.proofs.Quotients.{quotient_small, narrow_is}
use Rattle.mr_numeric.proofs.means_of_columns.mean_of.Goals as goal

pub returns-clause-mean : goal.returns-clause-mean
returns-clause-mean c =
    let exact =
    c.div_euclid.ensures ∙ ap₂ int_div_euclid (to_z-of_z w128 c.args.sum (search rules)) (to_z-of_z w128 c.args.count (search rules)) in
    ap (λ z. to_z w32 (of_z w32 z)) (to_z-of_z w128 c.div_euclid.result (search rules) ∙ exact)
    ∙ narrow_is (int_div_euclid c.args.sum c.args.count) (quotient_small c.args.sum c.args.count c.requires.some c.requires.small)
