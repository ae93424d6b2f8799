use Rattle.std.proofs.Common.{◌≡◌, ◌+◌, ◌*◌, ◌++◌, ◌∷◌, [], pos, get_or, ap, sym, ◌∙◌, arith, rules, w32, append_assoc}
use Rattle.std.specs.Int.RustNames.{FitsSigned}
use Rattle.std.proofs.lemmas.Int.{to_z-of_z}
use Rattle.std.proofs.lemmas.List.FromFn.{map-range_with_len_more}
use Rattle.mr_grid.specs.Dense.{column_in}
use Rattle.mr_grid.proofs.grid.push_column.Goals as goal

pub loop-r-preserved : goal.loop-r-preserved
loop-r-preserved c =
    let numbers = c.args.numbers.now in
    let place = c.loop-r.r * c.args.columns + c.args.column in
    let fits : FitsSigned w32 (get_or numbers place (pos 0)) = search rules in
    let items : c.push.new.self.items ≡ c.loop-r.turned.items ++ get_or numbers place (pos 0) ∷ [] =
    c.in_ok-push.ensures.items ∙ ap (λ z. c.loop-r.turned.items ++ z ∷ []) (to_z-of_z w32 (get_or numbers place (pos 0)) fits) in
    items
    ∙ ap (λ xs. xs ++ get_or numbers place (pos 0) ∷ []) c.loop-r.invariant
    ∙ append_assoc c.args.turned.now.items (column_in numbers c.args.columns c.loop-r.r c.args.column) (get_or numbers place (pos 0) ∷ [])
    ∙ ap (λ xs. c.args.turned.now.items ++ xs)
    (sym (map-range_with_len_more (λ r. get_or numbers (r * c.args.columns + c.args.column) (pos 0)) 0 c.loop-r.r c.loop-r.r (omega arith)))
