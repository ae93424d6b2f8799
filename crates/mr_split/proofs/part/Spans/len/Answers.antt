use Rattle.std.proofs.Common.{length, sym, ap, ◌∙◌}
use Rattle.std.specs.Int.{div_ceil}
use Rattle.mr_split.proofs.Strides.{length-spans_of}
use Rattle.mr_split.proofs.part.Spans.len.Goals as goal

pub returns-clause-len : goal.returns-clause-len
returns-clause-len c = c.div_ceil.ensures ∙ ap (div_ceil c.self.inside.items) c.step.ensures
    ∙ sym (length-spans_of c.self.inside.chunk c.self.inside.items) ∙ ap length c.self.view_is
