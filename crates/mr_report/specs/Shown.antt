-- The shares of workers as the lists that a report prints.
use Rattle.std.specs.Prelude.{List, map}
use Rattle.mr_base.specs.Spare.{Spared}
use Rattle.mr_items.specs.Report.{Work}
use Rattle.mr_report.specs.declared.printing.Share.{Share}

-- what a worker did; what the workers of a round did; and of all rounds
abbrev pub work_of : Share → Work
work_of share = (share.tasks.items, share.cells)

abbrev pub workers_of : List Share → List Work
workers_of shares = map work_of shares

abbrev pub rounds_seen : List (Spared Share) → List (List Work)
rounds_seen rounds = map (λ round. workers_of round.items) rounds
