-- The exit code of each status.
use Rattle.std.specs.Prelude.{ℕ}
use Rattle.mr_base.specs.declared.status.Status.{Status}
use Rattle.mr_base.specs.declared.status.Status.TheVariants as status

abbrev pub code_of : Status → ℕ
code_of status.Done = 0
code_of status.Usage = 2
code_of status.Job = 3
code_of status.Input = 4
code_of status.Outside = 5
code_of status.Twice = 6
code_of status.Over = 7
code_of status.ReadFault = 8
code_of status.WriteFault = 9
code_of status.Memory = 10
