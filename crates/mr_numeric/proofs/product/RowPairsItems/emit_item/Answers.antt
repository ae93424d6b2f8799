use Rattle.std.proofs.Common.{◌++◌, ℕ, ℤ, List, take, subst}
use Rattle.std.specs.Prelude.{OnOk, OnErr}
use Rattle.mr_defs.specs.Emission.{Emission}
use Rattle.mr_numeric.proofs.product.RowPairsItems.emit_item.Goals as goal

pub returns-clause-ok : goal.returns-clause-ok
returns-clause-ok g c =
    subst (λ l. OnOk c.emit_sum.result
    ((es : List (Emission ℕ ℤ)) → g.L.Local.stands c.args.out.now es → g.L.Local.stands c.emit_sum.new.out (es ++ l))) c.sum.ensures.sum
    c.emit_sum.ensures.ok

pub returns-clause-err : goal.returns-clause-err
returns-clause-err g c =
    subst (λ l. OnErr c.emit_sum.result
    ((es : List (Emission ℕ ℤ)) → g.L.Local.stands c.args.out.now es → (n : ℕ) × g.L.Local.stands c.emit_sum.new.out (es ++ take n l)))
    c.sum.ensures.sum c.emit_sum.ensures.err
