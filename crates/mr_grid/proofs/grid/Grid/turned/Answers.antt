use Rattle.std.proofs.Common.{rules, ◌<◌, length, flat_map, ap, sym, ◌∙◌, arith, subst}
use Rattle.std.specs.List.{range_with_len}
use Rattle.mr_grid.specs.Dense.{rows_of, column_in, turned_of, IsDense}
use Rattle.mr_grid.proofs.Chunks.{length-rows_of}
use Rattle.mr_grid.proofs.Turned.{turned_dense, turned_is}
use Rattle.mr_grid.proofs.grid.Grid.turned.Goals as goal

pub overflow_cast-self-inside-3 : goal.overflow_cast-self-inside-3
overflow_cast-self-inside-3 c =
    let g = c.self.inside in
    let few : g.rows < 4294967296 = omega (arith, length-rows_of g.numbers.items g.columns g.rows, ap length c.self.view_is, c.requires) in
    search (rules, few)

pub of_numbers-requires : goal.of_numbers-requires
of_numbers-requires c =
    let g = c.self.inside in
    let numbers =
    c.in_ok-numbers.ensures ∙ ap (λ xs. flat_map (column_in xs g.columns g.rows) (range_with_len 0 g.columns)) c.deref.ensures.value in
    subst (λ xs. IsDense xs g.rows g.columns) (sym numbers) (turned_dense g.numbers.items g.columns g.rows c.self.invariant)

pub returns : goal.returns
returns c =
    let g = c.self.inside in
    let numbers =
    c.in_ok-numbers.ensures ∙ ap (λ xs. flat_map (column_in xs g.columns g.rows) (range_with_len 0 g.columns)) c.deref.ensures.value in
    c.of_numbers.ensures ∙ ap (λ xs. rows_of xs g.rows g.columns) numbers ∙ turned_is g.numbers.items g.columns g.rows c.self.invariant
    ∙ ap turned_of c.self.view_is
