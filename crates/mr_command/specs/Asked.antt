-- A command as the form that it was read from.
use Rattle.mr_command.specs.declared.command.Command.{Command}
use Rattle.mr_command.specs.Form.{Form}

abbrev pub asked : Command → Form
asked c = record { workers = c.workers; mode = c.mode; report = c.report; job = c.job; inputs = c.inputs.items }
