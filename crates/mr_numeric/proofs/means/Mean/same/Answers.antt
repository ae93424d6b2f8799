use Rattle.std.proofs.Common.{sym, ◌∙◌}
use Rattle.std.proofs.lemmas.Bool.Decides.{Decides-int_eq, Decides-like}
use Rattle.std.proofs.lemmas.Slice.Eq.{slice_eq-Decides}
use Rattle.mr_numeric.proofs.means.Mean.same.Goals as goal

pub returns : goal.returns
returns c = Decides-like c.eq.result (λ e. sym c.coordinates.ensures ∙ e ∙ c.coordinates-2.ensures) (λ e. c.coordinates.ensures ∙ e
    ∙ sym c.coordinates-2.ensures)
    (slice_eq-Decides Decides-int_eq c.coordinates.result.now c.coordinates-2.result.now c.eq.result c.eq.ensures)
