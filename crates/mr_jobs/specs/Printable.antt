-- Outputs whose report can be printed.
use Rattle.std.specs.Prelude.{◌<◌, ◌^◌, All, length}
use Rattle.mr_jobs.specs.declared.output.Output.{Output}

-- the numbers of rounds and of workers are below what a report counts to
abbrev pub IsPrintable : Output → Type 0
IsPrintable o = (length o.rounds.items < 2 ^ 31) × All (λ round. length round.items < 2 ^ 32) o.rounds.items
