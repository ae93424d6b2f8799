use Rattle.std.proofs.Common.{◌≡◌, ◌≢◌, ◌≤◌, ◌+◌, ◌-◌, ◌++◌, [], negsuc, sym, subst, arith}
use Rattle.std.specs.Prelude.{flat_map}
use Rattle.std.specs.List.{range_with_len}
use Rattle.std.proofs.lemmas.List.Elements.{All-same}
use Rattle.std.proofs.lemmas.Result.{err_from_is_err_and}
use Rattle.mr_container.specs.Block.{block_emissions}
use Rattle.mr_defs.specs.Folded.{limit}
use Rattle.mr_text.specs.Sent.{Sent, SentSome}
use Rattle.mr_text.proofs.Sending.{sent_none, sent_all, sent_some, sent_next, some_next, some_more, all_stands, some_stands}
use Rattle.mr_numeric.specs.Pairs.{row_pair_emits}
use Rattle.mr_numeric.proofs.Emitted.{emitted, emitted-none, emitted-split, one_more}
use Rattle.mr_numeric.proofs.product.RowPairsItems.emit_items.Goals as goal

pub loop-item-init : goal.loop-item-init
loop-item-init g c =
    let f = row_pair_emits c.args.self.now.left.now c.args.self.now.right.now in
    let none = c.in_ok-block.ensures.items in
    record {
      from = omega arith;
      allowed = All-same (λ p. (p.0 ≤ limit) × (p.1 ≢ negsuc limit)) c.in_ok-block.block.items [] none
          (λ k d below. absurd (omega (arith, below)));
      sent = subst (λ items. Sent g.L.Local.stands c.args.out.now c.args.out.now (emitted f c.args.from c.args.from)
          (block_emissions items)) (sym none)
          (subst (λ all. Sent g.L.Local.stands c.args.out.now c.args.out.now all []) (sym (emitted-none f c.args.from))
          (sent_none g.L.Local.stands c.args.out.now []));
      origin = g.met.L.Local.origin_refl _;
    }

pub returns-in_err-put_sum-clause-err : goal.returns-in_err-put_sum-clause-err
returns-in_err-put_sum-clause-err g c =
    let f = row_pair_emits c.args.self.now.left.now c.args.self.now.right.now in
    let stands = g.L.Local.stands in
    let item = c.loop-item.item in
    let waits = block_emissions c.loop-item.block.items in
    let new = c.put_sum.new.out in
    let e = err_from_is_err_and c.from_residual-in_err-put_sum.result c.from_residual-in_err-put_sum.ensures.1 in
    let next = subst (λ l. SentSome stands c.loop-item.out new (waits ++ l)) c.sum.ensures.sum c.in_err-put_sum.ensures.err in
    let some =
    some_next stands c.args.out.now c.loop-item.out (emitted f c.args.from item) waits c.loop-item.invariant.sent new (f item) next in
    let whole = some_more stands c.args.out.now new _ (flat_map f (range_with_len (item + 1) (c.args.to - (item + 1)))) some in
    rw e.1 (some_stands stands c.args.out.now new (emitted f c.args.from c.args.to)
    (subst (SentSome stands c.args.out.now new)
    (emitted-split f c.args.from item c.args.to c.loop-item.invariant.from c.loop-item-test.true) whole))

pub returns-in_err-put_sum-clause-origin : goal.returns-in_err-put_sum-clause-origin
returns-in_err-put_sum-clause-origin g c = g.met.L.Local.origin_trans _ _ _ c.loop-item.invariant.origin c.put_sum.ensures.origin

pub loop-item-preserved : goal.loop-item-preserved
loop-item-preserved g c =
    let f = row_pair_emits c.args.self.now.left.now c.args.self.now.right.now in
    let stands = g.L.Local.stands in
    let item = c.loop-item.item in
    let waits = block_emissions c.loop-item.block.items in
    let rest = block_emissions c.put_sum.new.block.items in
    let new = c.put_sum.new.out in
    record {
      from = omega (arith, c.loop-item.invariant.from);
      allowed = c.in_ok-put_sum.ensures.allowed;
      sent = one_more f c.args.from (λ l. Sent stands c.args.out.now new l rest) [] item c.loop-item.invariant.from
          (sent_next stands c.args.out.now c.loop-item.out (emitted f c.args.from item) waits c.loop-item.invariant.sent new (f item) rest
          (subst (λ l. Sent stands c.loop-item.out new (waits ++ l) rest) c.sum.ensures.sum c.in_ok-put_sum.ensures.ok));
      origin = g.met.L.Local.origin_trans _ _ _ c.loop-item.invariant.origin c.put_sum.ensures.origin;
    }

pub returns-in_err-emit_block-clause-err : goal.returns-in_err-emit_block-clause-err
returns-in_err-emit_block-clause-err g c =
    let f = row_pair_emits c.args.self.now.left.now c.args.self.now.right.now in
    let stands = g.L.Local.stands in
    let new = c.emit_block.new.self in
    let all : c.loop-item.item ≡ c.args.to = omega (arith, c.loop-item.auto.item-end, c.loop-item-test.false, c.requires.order) in
    let e = err_from_is_err_and c.from_residual-in_err-emit_block.result c.from_residual-in_err-emit_block.ensures.1 in
    rw e.1 (some_stands stands c.args.out.now new (emitted f c.args.from c.args.to)
    (subst (λ n. SentSome stands c.args.out.now new (emitted f c.args.from n)) all
    (sent_some stands c.args.out.now c.loop-item.out _ (block_emissions c.loop-item.block.items) c.loop-item.invariant.sent new
    c.in_err-emit_block.ensures.err)))

pub returns-in_err-emit_block-clause-origin : goal.returns-in_err-emit_block-clause-origin
returns-in_err-emit_block-clause-origin g c = g.met.L.Local.origin_trans _ _ _ c.loop-item.invariant.origin c.emit_block.ensures.origin

pub returns-clause-ok : goal.returns-clause-ok
returns-clause-ok g c =
    let f = row_pair_emits c.args.self.now.left.now c.args.self.now.right.now in
    let stands = g.L.Local.stands in
    let new = c.emit_block.new.self in
    let all : c.loop-item.item ≡ c.args.to = omega (arith, c.loop-item.auto.item-end, c.loop-item-test.false, c.requires.order) in
    all_stands stands c.args.out.now new (emitted f c.args.from c.args.to)
    (subst (λ n. Sent stands c.args.out.now new (emitted f c.args.from n) []) all
    (sent_all stands c.args.out.now c.loop-item.out _ (block_emissions c.loop-item.block.items) c.loop-item.invariant.sent new
    c.in_ok-emit_block.ensures.ok))
