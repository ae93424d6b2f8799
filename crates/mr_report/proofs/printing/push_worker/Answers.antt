use Rattle.std.proofs.Common.{◌∙◌, ap, ◌++◌}
use Rattle.mr_items.specs.Report.{tasks_text}
use Rattle.mr_report.proofs.Printed.{back}
use Rattle.mr_report.proofs.printing.push_worker.Goals as goal

pub returns : goal.returns
returns c =
    let t0 = c.args.text.now in
    let t1 = c.push.new.self in
    let t2 = c.push_natural.new.self in
    let t3 = c.push-2.new.self in
    let t4 = c.push_natural-2.new.self in
    let t5 = c.push-3.new.self in
    let t6 = c.push_natural-3.new.self in
    let t7 = c.push-4.new.self in
    let t8 = c.push_tasks.new.text in
    let t9 = c.push-5.new.self in
    let e8 = back t7 _ t8 _ t9 (c.in_ok-push_tasks.ensures ∙ ap (λ ts. t7 ++ tasks_text ts) c.as_slice.ensures) c.in_ok-push-5.ensures.ok in
    let e7 = back t6 _ t7 _ t9 c.in_ok-push-4.ensures.ok e8 in
    let e6 = back t5 _ t6 _ t9 c.in_ok-push_natural-3.ensures.ok e7 in
    let e5 = back t4 _ t5 _ t9 c.in_ok-push-3.ensures.ok e6 in
    let e4 = back t3 _ t4 _ t9 c.in_ok-push_natural-2.ensures.ok e5 in
    let e3 = back t2 _ t3 _ t9 c.in_ok-push-2.ensures.ok e4 in
    let e2 = back t1 _ t2 _ t9 c.in_ok-push_natural.ensures.ok e3 in
    back t0 _ t1 _ t9 c.in_ok-push.ensures.ok e2
