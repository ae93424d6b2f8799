use Rattle.std.proofs.Common.{◌<◌, ◌*◌, ℤ, List, length, slice_get, Some, ap, sym, ◌∙◌, arith}
use Rattle.std.specs.Fork.{slice_chunk}
use Rattle.std.proofs.lemmas.Simd.{length-chunk}
use Rattle.mr_items.specs.Grid.{columns_of}
use Rattle.mr_grid.proofs.Chunks.{length-rows_of, row_of, row_within, columns_is}
use Rattle.mr_grid.proofs.grid.Grid.row.Goals as goal

pub row_at-requires : goal.row_at-requires
row_at-requires c =
    let g = c.self.inside in
    let inside : c.args.r < g.rows = omega (arith, length-rows_of g.numbers.items g.columns g.rows, ap length c.self.view_is, c.requires) in
    omega (arith, row_within g.numbers.items g.columns g.rows c.args.r inside c.self.invariant.size, ap length c.deref.ensures.value)

pub returns-clause-row : goal.returns-clause-row
returns-clause-row c =
    let g = c.self.inside in
    let inside : c.args.r < g.rows = omega (arith, length-rows_of g.numbers.items g.columns g.rows, ap length c.self.view_is, c.requires) in
    ap (λ (rows : List (List ℤ)). slice_get rows c.args.r) (sym c.self.view_is)
    ∙ row_of g.numbers.items g.columns g.rows c.args.r inside
    ∙ ap (λ numbers. Some (slice_chunk numbers g.columns c.args.r)) (sym c.deref.ensures.value)
    ∙ ap Some (sym c.row_at.ensures)

pub returns-clause-length : goal.returns-clause-length
returns-clause-length c =
    let g = c.self.inside in
    let inside : c.args.r < g.rows = omega (arith, length-rows_of g.numbers.items g.columns g.rows, ap length c.self.view_is, c.requires) in
    ap length (c.row_at.ensures ∙ ap (λ numbers. slice_chunk numbers g.columns c.args.r) c.deref.ensures.value)
    ∙ length-chunk (c.args.r * g.columns) g.columns g.numbers.items
    (row_within g.numbers.items g.columns g.rows c.args.r inside c.self.invariant.size)
    ∙ sym (columns_is g.numbers.items g.columns g.rows c.self.invariant)
    ∙ ap columns_of c.self.view_is
