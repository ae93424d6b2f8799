use Rattle.std.proofs.Common.{rules, ◌≡◌, ◌<◌, ◌≤◌, length, ◌+◌, ◌-◌, ◌*◌, ◌/◌, ◌∷◌, ◌++◌, [], ap, sym, ◌∙◌, arith, subst}
use Rattle.mr_defs.specs.Tasks.{most_tasks}
use Rattle.mr_split.specs.Pieces.{boundary_of}
use Rattle.mr_split.proofs.Forward.{boundary_from_bound}
use Rattle.mr_split.proofs.Between.{parts_from, moved, inside, end_of-moved, grown, stayed, ended, ended_there, longer, few_cuts}
use Rattle.mr_split.proofs.Between.{step_enough}
use Rattle.mr_split.proofs.Whole.{pieces_of-moved, kind_ends}
use Rattle.mr_split.proofs.cutting.cut.Goals.{then-last-raw+in_ok-push, else-last-raw, then-last-bytes+in_ok-push-2, else-last-bytes}
use Rattle.mr_split.proofs.cutting.cut.Goals as goal

pub loop-number-preserved : goal.loop-number-preserved
loop-number-preserved c =
    let b = boundary_of c.args.kind c.args.bytes.now in
    let len = length c.args.bytes.now in
    let step = c.step-step.result in
    let before = c.loop-number.invariant in
    let within : (c.loop-number.number + 1) * step ≤ len =
    inside b len step c.loop-number.number (subst (λ e. c.loop-number.number < e / step) (search rules) c.loop-number-test.true) in
    elim c.if-last-raw.branch [
      | then-last-raw+in_ok-push w ↦
          let items = ap (λ v. v.items) w.pieces-is ∙ w.in_ok-push.ensures.items in
          let end = w.last-is ∙ w.next_boundary-end.ensures in
          record {
            some = before.some;
            parts = items ∙ ap (λ p. c.loop-number.pieces.items ++ (c.loop-number.last, p) ∷ []) w.next_boundary-end.ensures
                ∙ grown b len step c.loop-number.number c.loop-number.pieces.items c.loop-number.last before.parts before.last
                w.if-last-raw.true;
            last = end ∙ sym (end_of-moved b len step c.loop-number.number);
            inside = subst (λ p. p ≤ len) (sym end) (boundary_from_bound b len _ within);
            few = longer c.loop-number.pieces.items _ _ c.loop-number.number items before.few;
          }
      | else-last-raw w ↦
          let stay = stayed b len step c.loop-number.number c.loop-number.pieces.items c.loop-number.last before.parts before.last
          before.some within w.if-last-raw.false in
          record {
            some = before.some;
            parts = ap (λ v. v.items) w.pieces-is ∙ stay.0;
            last = w.last-is ∙ stay.1;
            inside = subst (λ p. p ≤ len) (sym w.last-is) before.inside;
            few = let e : length c.if-last-raw.pieces.items ≡ length c.loop-number.pieces.items = ap (λ v. length v.items) w.pieces-is in
                omega (arith, e, before.few);
          }
    ]

pub of-requires : goal.of-requires
of-requires c =
    let step = c.step-step.result in
    let count : c.loop-number.number ≡ (length c.args.bytes.now - 1) / step = search rules in
    let few : (length c.args.bytes.now - 1) / step
    < most_tasks = few_cuts (length c.args.bytes.now) step c.loop-number.invariant.some
    (subst (λ s. length c.args.bytes.now ≤ s * most_tasks) (sym c.step-step.ensures)
    (step_enough (length c.args.bytes.now) c.args.chunk)) in
    elim c.if-last-bytes.branch [
      | then-last-bytes+in_ok-push-2 w ↦
          let more : length c.if-last-bytes.pieces.items
          ≤ c.loop-number.number + 1 = longer c.loop-number.pieces.items _ _ c.loop-number.number
          (ap (λ v. v.items) w.pieces-is ∙ w.in_ok-push-2.ensures.items) c.loop-number.invariant.few in
          omega (arith, more, count, few)
      | else-last-bytes w ↦
          let same : length c.if-last-bytes.pieces.items ≡ length c.loop-number.pieces.items = ap (λ v. length v.items) w.pieces-is in
          omega (arith, same, count, few, c.loop-number.invariant.few)
    ]

pub returns-clause-exact : goal.returns-clause-exact
returns-clause-exact c =
    let b = boundary_of c.args.kind c.args.bytes.now in
    let len = length c.args.bytes.now in
    let step = c.step-step.result in
    let after = c.loop-number.invariant in
    let count : c.loop-number.number ≡ (len - 1) / step = search rules in
    c.of.ensures
    ∙ elim c.if-last-bytes.branch [
      | then-last-bytes+in_ok-push-2 w ↦ ap (λ v. v.items) w.pieces-is ∙ w.in_ok-push-2.ensures.items
          ∙ ended b len step c.loop-number.number c.loop-number.pieces.items c.loop-number.last after.parts after.last w.if-last-bytes.true
      | else-last-bytes w ↦ ap (λ v. v.items) w.pieces-is
          ∙ ended_there b len step c.loop-number.number c.loop-number.pieces.items c.loop-number.last after.parts after.last
          w.if-last-bytes.false after.inside
    ]
    ∙ ap (λ n. parts_from 0 (moved b len step n ++ len ∷ [])) count
    ∙ ap (λ s. parts_from 0 (moved b len s ((len - 1) / s) ++ len ∷ [])) c.step-step.ensures
    ∙ pieces_of-moved b len (kind_ends c.args.kind c.args.bytes.now) c.args.chunk (subst (λ s. 1 ≤ s) c.step-step.ensures after.some)
