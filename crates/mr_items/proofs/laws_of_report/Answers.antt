use Rattle.mr_items.proofs.Reported.{report_fixes_rounds}
use Rattle.mr_items.proofs.laws_of_report.Goals as goal

pub returns : goal.returns
returns c = report_fixes_rounds
