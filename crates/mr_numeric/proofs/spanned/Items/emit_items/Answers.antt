use Rattle.std.proofs.Common.{◌≡◌, ◌++◌, subst, ap, arith, rules}
use Rattle.std.proofs.lemmas.Result.{err_from_is_err_and}
use Rattle.mr_numeric.proofs.Emitted.{emitted, one_more, front}
use Rattle.mr_numeric.proofs.spanned.Items.emit_items.Goals as goal

pub returns-in_err-emit_item-clause-err : goal.returns-in_err-emit_item-clause-err
returns-in_err-emit_item-clause-err g c =
    let e = err_from_is_err_and c.from_residual.result c.from_residual.ensures.1 in
    rw e.1 (λ es h.
    let some = c.in_err-emit_item.ensures.err _ (c.loop-item.invariant.stands es h) in
    front (g.Self.Items.emits c.args.self.now) c.args.from
    (g.L.Local.stands c.emit_item.new.out) es c.loop-item.item c.args.to some.0 c.loop-item.invariant.from c.loop-item-test.true some.1)

pub loop-item-preserved : goal.loop-item-preserved
loop-item-preserved g c = record {
  from = omega (arith, c.loop-item.invariant.from);
  stands = λ es h. one_more (g.Self.Items.emits c.args.self.now) c.args.from
      (g.L.Local.stands c.emit_item.new.out) es c.loop-item.item c.loop-item.invariant.from
      (c.in_ok-emit_item.ensures.ok _ (c.loop-item.invariant.stands es h));
  origin = search rules;
}

pub returns-clause-ok : goal.returns-clause-ok
returns-clause-ok g c = λ es h.
    let all : c.loop-item.item ≡ c.args.to = omega (arith, c.loop-item.auto.item-end, c.loop-item-test.false, c.requires.order) in
    subst (λ l. g.L.Local.stands c.loop-item.out (es ++ l)) (ap (emitted (g.Self.Items.emits c.args.self.now) c.args.from) all)
    (c.loop-item.invariant.stands es h)
