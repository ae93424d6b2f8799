use Rattle.std.proofs.Common.{◌∙◌, ap}
use Rattle.mr_container.proofs.Emitted.{stands_empty}
use Rattle.mr_array.specs.Cells.{is_below, cell_under, filled}
use Rattle.mr_array.proofs.Places.{none_there, none_filled}
use Rattle.mr_array.proofs.array.ArrayLocal.new.Goals as goal

pub returns-clause-empty : goal.returns-clause-empty
returns-clause-empty g c =
    let none = c.none.ensures in
    let cells = c.in_ok-cells.ensures.items in
    stands_empty (is_below g.S.Size.size) g.C.Combiner.unit_of g.C.Combiner.merged
    _ _ _ (λ q. ap (λ l. cell_under l q) cells ∙ none_there c.args.size q)
    (ap filled cells ∙ none_filled g.row.C-Cell.Denot c.args.size) none.malformed none.outside none.twice none.over
