use Rattle.std.proofs.Common.{◌<◌, ◌∙◌, sym, None, length, take, arith}
use Rattle.std.proofs.lemmas.List.{get_or_default}
use Rattle.std.proofs.lemmas.Result.{err_from_is_err_and}
use Rattle.mr_container.proofs.Blocks.{run_front}
use Rattle.mr_array.specs.Cells.{is_below}
use Rattle.mr_array.proofs.Places.{below, emitted_run_is}
use Rattle.mr_array.proofs.array.ArrayLocalLocal.add_run.Goals as goal

pub returns-in_err-add_run-in-Some-clause-err : goal.returns-in_err-add_run-in-Some-clause-err
returns-in_err-add_run-in-Some-clause-err g c =
    let cells = c.args.self.now.cells in
    let key = c.args.key.now in
    let place = c.key.inside.0 in
    let vs = g.R.Run.values c.args.run.now in
    let within : place < length cells.items =
    omega (arith, c.if-key-size.false, c.args.self.now.sized, c.args.self.now.places, cells.ok.0) in
    let e = err_from_is_err_and c.from_residual.result c.from_residual.ensures.1 in
    let some = c.in_err-add_run-in-Some.ensures.err in
    rw e.1 (λ es h. (
      some.0,
      rw (sym (run_front key vs some.0))
          (emitted_run_is (is_below g.S.Size.size) g.C.Combiner.unit_of g.met.C.Combiner.laws _ key place c.key.view_is
          (below g.S.Size.size key (omega (arith, c.if-key-size.false, c.key.view_is, c.args.self.now.sized)))
          (take some.0 vs) cells.items c.in-Some.cell c.add_run.new.cell within
          (get_or_default cells.items place None _ within ∙ sym c.index_mut.ensures.value ∙ c.in-Some.is) some.1 es h),
    ))

pub returns-in_ok-add_run-in-Some-clause-added : goal.returns-in_ok-add_run-in-Some-clause-added
returns-in_ok-add_run-in-Some-clause-added g c same es h =
    let cells = c.args.self.now.cells in
    let key = c.args.key.now in
    let place = c.key.inside.0 in
    let within : place < length cells.items =
    omega (arith, c.if-key-size.false, c.args.self.now.sized, c.args.self.now.places, cells.ok.0) in
    emitted_run_is (is_below g.S.Size.size) g.C.Combiner.unit_of g.met.C.Combiner.laws _ key place c.key.view_is
    (below g.S.Size.size key (omega (arith, c.if-key-size.false, c.key.view_is, c.args.self.now.sized)))
    (g.R.Run.values c.args.run.now) cells.items c.in-Some.cell c.add_run.new.cell within
    (get_or_default cells.items place None _ within ∙ sym c.index_mut.ensures.value ∙ c.in-Some.is) c.in_ok-add_run-in-Some.ensures.ok es h
