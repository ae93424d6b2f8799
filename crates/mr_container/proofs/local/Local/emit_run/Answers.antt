use Rattle.std.proofs.Common.{◌++◌, ◌∷◌, [], take, subst, ap, ◌∙◌, arith}
use Rattle.std.proofs.lemmas.Result.{err_from_is_err_and}
use Rattle.mr_defs.specs.Emission.{Pair}
use Rattle.mr_container.specs.Block.{run_emissions}
use Rattle.mr_container.proofs.Blocks.{run_front, run_more}
use Rattle.mr_container.proofs.local.Local.emit_run.Goals as goal

pub returns-in_err-copied-clause-err : goal.returns-in_err-copied-clause-err
returns-in_err-copied-clause-err g c =
    let e = err_from_is_err_and c.from_residual-in_err-copied.result c.from_residual-in_err-copied.ensures.1 in
    rw e.1 (λ es h. (
      c.loop-i.i,
      subst (λ l. g.Self.Local.stands c.loop-i.self (es ++ l)) (run_front c.args.key.now (g.R.Run.values c.args.run.now) c.loop-i.i)
          (c.loop-i.invariant.stands es h),
    ))

pub returns-in_err-emit-clause-err : goal.returns-in_err-emit-clause-err
returns-in_err-emit-clause-err g c =
    let e = err_from_is_err_and c.from_residual-in_err-emit.result c.from_residual-in_err-emit.ensures.1 in
    rw e.1 (λ es h. (
      c.loop-i.i,
      subst (λ l. g.Self.Local.stands c.emit.new.self (es ++ l)) (run_front c.args.key.now (g.R.Run.values c.args.run.now) c.loop-i.i)
          ((g.met.Self.Local.same_keeps _ _ c.in_err-emit.ensures.err).0 _ (c.loop-i.invariant.stands es h)),
    ))

pub loop-i-preserved : goal.loop-i-preserved
loop-i-preserved g c =
    record {
      stands = λ es h. subst (g.Self.Local.stands c.emit.new.self)
          (ap (λ k. (es ++ run_emissions c.args.key.now (take c.loop-i.i (g.R.Run.values c.args.run.now))) ++ Pair k c.value.result ∷ [])
          c.in_ok-copied.ensures.same
          ∙ run_more c.args.key.now (g.R.Run.values c.args.run.now) es c.loop-i.i c.value.result
          (omega (arith, c.loop-i-test.true, c.len-i-end.ensures)) c.value.ensures.value)
          (c.in_ok-emit.ensures.ok _ (c.loop-i.invariant.stands es h));
      spares = λ k h. c.in_ok-emit.ensures.spares k (c.loop-i.invariant.spares k h);
      origin = g.met.Self.Local.origin_trans _ _ _ c.loop-i.invariant.origin c.in_ok-emit.ensures.origin;
    }
