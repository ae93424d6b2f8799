use Rattle.std.proofs.Common.{◌∙◌}
use Rattle.clap.specs.Words.{found_of}
use Rattle.mr_command.proofs.Getters.{raw_values_are}
use Rattle.mr_command.proofs.parse.values_of.Goals as goal

pub returns : goal.returns
returns c = c.get_strs.ensures ∙ raw_values_are (found_of c.args.matches.now) c.args.id.now
