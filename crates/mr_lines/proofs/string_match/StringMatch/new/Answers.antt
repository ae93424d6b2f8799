use Rattle.mr_items.specs.StringMatch.{string_match_emits}
use Rattle.mr_lines.proofs.Whole.{whole_lines, line_pieces}
use Rattle.mr_lines.proofs.string_match.StringMatch.new.Goals as goal

pub invariant_of-result : goal.invariant_of-result
invariant_of-result c = record { are = line_pieces c.args.input.now c.args.pieces.now c.requires }

pub returns-clause-whole : goal.returns-clause-whole
returns-clause-whole c =
    whole_lines c.args.input.now c.args.pieces.now c.requires (string_match_emits c.args.patterns.now c.args.input.now)
