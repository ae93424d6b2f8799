use Rattle.std.proofs.Common.{◌≡◌, arith, ◌≤◌, ◌++◌, nat_abs, w64, to_z, of_z, ap₂, ◌∙◌, ◌∷◌, [], ℕ, ℤ, pos, ◌*ℤ◌, List, take, subst}
use Rattle.std.specs.Prelude.{OnOk, OnErr}
use Rattle.mr_defs.specs.Emission.{Emission, Pair}
use Rattle.mr_defs.specs.Folded.{limit}
use Rattle.mr_defs.specs.Limits.{greatest_element}
use Rattle.mr_items.specs.LinearRegression.{point_emits}
use Rattle.mr_numeric.proofs.Products.{kept}
use Rattle.mr_numeric.proofs.regression.emit_point.Given.{Over}
use Rattle.mr_numeric.proofs.regression.emit_point.Goals.{After-product-xy}
use Rattle.mr_numeric.proofs.regression.emit_point.Goals as goal

-- the pairs of a point, as they stand in memory
abbrev held : ℤ → ℤ
held z = to_z w64 (of_z w64 z)

abbrev pairs_of : ℤ → ℤ → ℤ → ℤ → ℤ → List (Emission ℕ ℤ)
pairs_of x y xx yy xy = Pair 0 (pos 1) ∷ Pair 1 (held x) ∷ Pair 2 (held y) ∷ Pair 3 (held xx) ∷ Pair 4 (held yy) ∷ Pair 5 (held xy) ∷ []

module _ (x y : ℤ) (left : nat_abs x ≤ greatest_element) (right : nat_abs y ≤ greatest_element) where
  abbrev first : held x ≡ x
  first = kept x (omega (arith, left))

  abbrev second : held y ≡ y
  second = kept y (omega (arith, right))

  pairs_are : (xx yy xy : ℤ) → nat_abs xx ≤ limit → nat_abs yy ≤ limit → nat_abs xy ≤ limit → xx ≡ held x *ℤ held x → yy ≡ held y *ℤ held y
      → xy ≡ held x *ℤ held y → pairs_of x y xx yy xy ≡ point_emits x y
  pairs_are xx yy xy k l m p q r =
      λ i. Pair 0 (pos 1) ∷ Pair 1 (first i) ∷ Pair 2 (second i)
      ∷ Pair 3 ((kept xx k ∙ p ∙ ap₂ ◌*ℤ◌ first first) i)
      ∷ Pair 4 ((kept yy l ∙ q ∙ ap₂ ◌*ℤ◌ second second) i)
      ∷ Pair 5 ((kept xy m ∙ r ∙ ap₂ ◌*ℤ◌ first second) i) ∷ []

is_point : (g : Over) (c : After-product-xy g)
    → pairs_of c.args.x c.args.y c.product-xx.result c.product-yy.result c.product-xy.result ≡ point_emits c.args.x c.args.y
is_point g c =
    pairs_are c.args.x c.args.y c.requires.x c.requires.y c.product-xx.result c.product-yy.result c.product-xy.result
    c.product-xx.ensures.small c.product-yy.ensures.small c.product-xy.ensures.small
    c.product-xx.ensures.product c.product-yy.ensures.product c.product-xy.ensures.product

pub returns-clause-ok : goal.returns-clause-ok
returns-clause-ok g c =
    subst (λ l. OnOk c.emit_pairs.result
    ((es : List (Emission ℕ ℤ)) → g.L.Local.stands c.args.out.now es → g.L.Local.stands c.emit_pairs.new.out (es ++ l)))
    (is_point g (goal.at.returns-clause-ok g c).After-product-xy) c.emit_pairs.ensures.ok

pub returns-clause-err : goal.returns-clause-err
returns-clause-err g c =
    subst (λ l. OnErr c.emit_pairs.result
    ((es : List (Emission ℕ ℤ)) → g.L.Local.stands c.args.out.now es → (n : ℕ) × g.L.Local.stands c.emit_pairs.new.out (es ++ take n l)))
    (is_point g (goal.at.returns-clause-err g c).After-product-xy) c.emit_pairs.ensures.err
