use Rattle.mr_items.proofs.AllTasks.{word_tasks, line_tasks, span_tasks}
use Rattle.mr_items.proofs.laws_of_cutting.Goals as goal

pub returns-clause-words : goal.returns-clause-words
returns-clause-words g c = word_tasks

pub returns-clause-lines : goal.returns-clause-lines
returns-clause-lines g c = line_tasks

pub returns-clause-spans : goal.returns-clause-spans
returns-clause-spans g c = span_tasks
