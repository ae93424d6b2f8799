use Rattle.mr_grid.proofs.Whole.{dense, narrow_grid, short_grid, whole_grid}
use Rattle.mr_grid.proofs.ranges.read_grid_by.Goals as goal

pub of_numbers-requires : goal.of_numbers-requires
of_numbers-requires g c = let draft = c.in_ok-draft.draft in
    dense c.args.bytes.now draft.numbers.items draft.rows draft.columns c.in_ok-draft.ensures.read

pub returns-clause-grid : goal.returns-clause-grid
returns-clause-grid g c = let draft = c.in_ok-draft.draft in
    whole_grid c.args.bytes.now draft.numbers.items draft.rows draft.columns c.in_ok-draft.ensures.read _ c.of_numbers.ensures

pub returns-clause-columns : goal.returns-clause-columns
returns-clause-columns g c = let draft = c.in_ok-draft.draft in
    narrow_grid c.args.bytes.now draft.numbers.items draft.rows draft.columns c.in_ok-draft.ensures.read _ c.of_numbers.ensures

pub returns-clause-rows : goal.returns-clause-rows
returns-clause-rows g c = let draft = c.in_ok-draft.draft in
    short_grid c.args.bytes.now draft.numbers.items draft.rows draft.columns c.in_ok-draft.ensures.read _ c.of_numbers.ensures
