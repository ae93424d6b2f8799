use Rattle.std.proofs.Common.{◌<◌, ◌+◌, ◌*◌, min, get_or, length, sym, ap, ap₂, ◌∙◌, subst}
use Rattle.mr_split.proofs.Strides.{get_or-spans_of}
use Rattle.mr_split.proofs.part.Spans.get.Goals as goal

pub returns : goal.returns
returns c =
    let items = c.self.inside.items in
    ap (λ end. (c.from.result * c.step-step.result, end)) c.min.ensures
    ∙ ap₂ (λ task step. (task * step, min (task * step + step) items)) c.from.ensures c.step-step.ensures
    ∙ sym
    (get_or-spans_of c.self.inside.chunk items c.args.task (0, 0) (subst (λ s. c.args.task < length s) (sym c.self.view_is) c.requires))
    ∙ ap (λ s. get_or s c.args.task (0, 0)) c.self.view_is
