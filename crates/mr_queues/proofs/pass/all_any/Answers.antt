use Rattle.std.proofs.Common.{◌∷◌, ◌++◌, [], ap, ◌∙◌, arith}
use Rattle.mr_queues.proofs.Rooming.{one_more}
use Rattle.mr_queues.proofs.Turned.{one_longer}
use Rattle.mr_queues.proofs.pass.all_any.Goals as goal

pub loop-pass-preserved : goal.loop-pass-preserved
loop-pass-preserved g c = record {
  so_far = one_more g.P.Kind.any c.args.count c.args.passes.items _ _ _ _ c.in-Some.pass c.loop-pass.room _ c.loop-pass.invariant.so_far
      c.in-Some.ensures.0 (c.push.ensures.items ∙ ap (λ p. c.loop-pass.all.items ++ p ∷ []) c.into_any.ensures);
  room = let longer = one_longer _ _ _ c.in-Some.ensures.0 in omega (arith, c.loop-pass.invariant.room, c.push.ensures.spare, longer);
}
