use Rattle.std.proofs.Common.{◌≡◌, take}
use Rattle.mr_items.specs.Texts.{rows_text}
use Rattle.mr_text.proofs.rows.rows_text.Given as goal

abbrev pub invariant-loop-i : goal.invariant-loop-i
invariant-loop-i g l = l.text ≡ rows_text g.K.Key.printed (take l.i l.rows)
