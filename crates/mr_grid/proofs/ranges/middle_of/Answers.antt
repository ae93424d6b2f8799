use Rattle.std.proofs.Common.{◌≡◌, ◌+◌, ap, ◌∙◌, arith, inl, inr}
use Rattle.std.proofs.lemmas.Bool.{cases_lt}
use Rattle.mr_items.specs.Lines.{begins_line}
use Rattle.mr_grid.proofs.Rows.{begins_behind}
use Rattle.mr_grid.proofs.ranges.middle_of.Goals as goal

pub returns-clause-begins : goal.returns-clause-begins
returns-clause-begins c = λ h.
    let bytes = c.args.bytes.now in
    let end = c.line_end.result in
    let to = c.args.part.to in
    elim (cases_lt to (end + 1)) [
      | inl past ↦
          let whole : c.min.result ≡ to = omega (arith, past, c.min.ensures) in
          ap (begins_line bytes) whole ∙ c.requires.part.ends (omega (arith, whole, h))
      | inr within ↦
          let next : c.min.result ≡ end + 1 = omega (arith, within, c.min.ensures) in
          ap (begins_line bytes) next
          ∙ begins_behind bytes _ end c.line_end.ensures.inside.0 (omega (arith, next, h)) c.line_end.ensures.place
    ]
