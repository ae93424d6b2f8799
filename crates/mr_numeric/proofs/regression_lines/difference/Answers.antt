use Rattle.mr_numeric.proofs.Products.{difference_fits, difference_is}
use Rattle.mr_numeric.proofs.regression_lines.difference.Goals as goal

pub overflow_sub-result : goal.overflow_sub-result
overflow_sub-result c = difference_fits c.args.a c.args.b c.args.c c.args.d c.requires.a c.requires.b c.requires.c c.requires.d

pub returns : goal.returns
returns c = difference_is c.args.a c.args.b c.args.c c.args.d c.requires.a c.requires.b c.requires.c c.requires.d
