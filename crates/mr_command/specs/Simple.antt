-- The command as clap's one simple command, and its reading of words.
use Rattle.std.specs.Prelude.{Bool, true, List, [], codes, Some, length, ◌==◌}
use Rattle.clap.specs.Lexer.{usize_max}
use Rattle.clap.specs.Words.{App, Row, Rule, Text, new_rule, with_rule, matches_of, fault_of}
use Rattle.clap.specs.Simple.{new_shape}
use Rattle.clap.specs.declared.builder.ArgAction.TheVariants.{Set, SetTrue, Append}

-- an option with one value; and a flag
abbrev pub option_rule : Text → Rule
option_rule name = record (new_rule name) { long = Some name; action = Some Set }

abbrev pub flag_rule : Text → Rule
flag_rule name = record (new_rule name) { long = Some name; action = Some SetTrue }

-- the job's name, which is required; and the names of inputs, of which there is any number
abbrev pub job_rule : Rule
job_rule = record (new_rule (codes "JOB")) { required = true; action = Some Set }

abbrev pub input_rule : Rule
input_rule =
    record (new_rule (codes "INPUT")) { action = Some Append; range = Some (record { start_inclusive = 0; end_inclusive = usize_max }) }

-- no help and no version
abbrev pub plain_app : App
plain_app = record { top = record (new_shape (codes "mapred")) { disable_help_flag = true; disable_version_flag = true }; subs = [] }

abbrev pub mapred_app : App
mapred_app = with_rule (with_rule
    (with_rule (with_rule (with_rule plain_app (option_rule (codes "workers"))) (option_rule (codes "mode"))) (flag_rule (codes "report")))
    job_rule) input_rule

-- clap accepts the words; and what it reads of them
unfoldable pub is_accepted : List Text → Bool
is_accepted words = length (fault_of mapred_app words) == 0

unfoldable pub rows : List Text → List Row
rows words = matches_of mapred_app words
