use Rattle.std.proofs.Common.{◌≡◌, ◌+◌, ◌*◌, ◌++◌, [], length, get_or, subst, sym, ap, ap₂, ◌∙◌, arith}
use Rattle.std.proofs.lemmas.List.{get_or_default}
use Rattle.mr_container.specs.Block.{run_emissions}
use Rattle.mr_numeric.specs.Blocks.{products_of, couple_run}
use Rattle.mr_numeric.proofs.Emitted.{emitted, one_more}
use Rattle.mr_numeric.proofs.spread.emit_runs.Goals as goal

pub loop-j-preserved : goal.loop-j-preserved
loop-j-preserved g c =
    let emits = couple_run c.args.columns.now c.args.i in
    let columns = c.args.columns.now in
    let left : c.index-columns-i.result ≡ get_or columns c.args.i [] =
    c.index-columns-i.is ∙ sym (get_or_default columns c.args.i [] c.index-columns-i.result c.requires.i) in
    let right : c.index-columns-j.result ≡ get_or columns c.loop-j.j [] =
    c.index-columns-j.is ∙ sym (get_or_default columns c.loop-j.j [] c.index-columns-j.result c.loop-j-test.true) in
    let run = c.of.ensures ∙ ap₂ products_of left right in
    let P = g.L.Local.stands c.emit_run.new.self in
    record {
      from = omega (arith, c.loop-j.invariant.from);
      stands = λ es h. one_more emits c.args.i P es c.loop-j.j c.loop-j.invariant.from
          (subst (λ l. P ((es ++ emitted emits c.args.i c.loop-j.j) ++ l))
          (ap (run_emissions (c.args.i * length columns + c.loop-j.j)) run)
          (c.in_ok-emit_run.ensures.ok _ (c.loop-j.invariant.stands es h)));
      spares = λ k. c.in_ok-emit_run.ensures.spares k (c.loop-j.invariant.spares k);
      origin = g.met.L.Local.origin_trans _ _ _ c.loop-j.invariant.origin c.in_ok-emit_run.ensures.origin;
    }
