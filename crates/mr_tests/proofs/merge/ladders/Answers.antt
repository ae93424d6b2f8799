use Rattle.std.proofs.Common.{◌∷◌, [], ◌++◌, ap, ◌∙◌, arith}
use Rattle.mr_tests.proofs.Rungs.{ladders_none, ladders_more}
use Rattle.mr_tests.proofs.merge.ladders.Goals as goal

pub loop-i-init : goal.loop-i-init
loop-i-init c = ladders_none c.in_ok-lists.lists.items c.in_ok-lists.ensures.0

pub loop-i-preserved : goal.loop-i-preserved
loop-i-preserved c =
    ladders_more c.loop-i.lists.items c.push.new.self.items c.in_ok-list.list c.loop-i.i _
    (omega (arith, c.loop-i-test.true, c.requires)) c.in_ok-list.ensures
    (c.push.ensures.items ∙ ap (λ l. l ++ c.in_ok-list.list ∷ []) c.in_ok-room.ensures.items) c.loop-i.invariant
