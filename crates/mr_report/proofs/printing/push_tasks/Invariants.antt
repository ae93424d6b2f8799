use Rattle.std.proofs.Common.{◌≡◌, ◌++◌, take}
use Rattle.mr_items.specs.Report.{tasks_text}
use Rattle.mr_report.proofs.printing.push_tasks.Given as goal

abbrev pub invariant-loop-task : goal.invariant-loop-task
invariant-loop-task l = l.text ≡ l.initial.text ++ tasks_text (take l.task-index l.tasks)
