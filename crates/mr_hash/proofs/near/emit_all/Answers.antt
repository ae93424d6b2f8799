use Rattle.std.proofs.Common.{◌++◌, ◌∙◌, length, subst, ap}
use Rattle.std.proofs.lemmas.Result.{err_from_is_err_and}
use Rattle.std.specs.Vec.Iter.{drain_items}
use Rattle.mr_container.proofs.Blocks.{front_yielded, whole_range}
use Rattle.mr_hash.proofs.near.emit_all.Goals as goal

pub returns-in_err-emit_near-clause-err : goal.returns-in_err-emit_near-clause-err
returns-in_err-emit_near-clause-err g c =
    let e = err_from_is_err_and c.from_residual.result c.from_residual.ensures.1 in
    rw e.1 (λ es h.
    let whole = ap drain_items c.into_iter-key-iterator.ensures.into_iter_gives ∙ c.drain-key-items.ensures.rest
    ∙ whole_range c.args.block.now.items _ c.args.block.now.ok.0 in
    let front = front_yielded _ c.args.block.now.items _ _ whole c.loop-key.yielded c.loop-key.yielded_by in (
      length c.loop-key.yielded,
      subst (g.L.Near.stands c.emit_near.new.self) (ap (λ l. es ++ l) front)
          (g.met.L.Near.same_keeps _ _ c.in_err-emit_near.ensures.err _ (c.loop-key.invariant.stands es h)),
    ))
