use Rattle.mr_lines.proofs.Whole.{whole_lines, line_pieces}
use Rattle.mr_lines.proofs.driver.Lines.over.Goals as goal

pub invariant_of-result : goal.invariant_of-result
invariant_of-result g c = record {
  of_text = c.requires.text;
  are = line_pieces c.args.input.now c.args.pieces.now c.requires.pieces;
}

pub returns-clause-whole : goal.returns-clause-whole
returns-clause-whole g c =
    whole_lines c.args.input.now c.args.pieces.now c.requires.pieces (g.J.LineJob.emits c.args.job)
