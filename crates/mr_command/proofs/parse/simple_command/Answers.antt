use Rattle.std.proofs.Common.{ap₂, ◌∙◌}
use Rattle.clap.specs.Words.{with_rule}
use Rattle.mr_command.proofs.parse.simple_command.Goals as goal

pub returns : goal.returns
returns c =
    let one = c.in_ok-one.ensures.shape c.option.ensures.local ∙ ap₂ with_rule c.plain.ensures c.option.ensures.rule in
    let two = c.in_ok-two.ensures.shape c.option-2.ensures.local ∙ ap₂ with_rule one c.option-2.ensures.rule in
    let three = c.in_ok-three.ensures.shape c.flag.ensures.local ∙ ap₂ with_rule two c.flag.ensures.rule in
    let four = c.in_ok-four.ensures.shape c.job.ensures.local ∙ ap₂ with_rule three c.job.ensures.rule in
    c.in_ok-five.ensures.shape c.inputs.ensures.local ∙ ap₂ with_rule four c.inputs.ensures.rule
