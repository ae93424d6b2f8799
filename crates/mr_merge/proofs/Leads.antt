-- Keys whose leads differ.
use Rattle.std.proofs.Common.{◌≡◌, ℕ, ◌<◌, ◌≢◌, nat_lt, true, false, refl, sym, ap, ◌∙◌, arith}
use Rattle.std.specs.Cmp.{IsTotalOrder}
use Rattle.std.specs.declared.cmp.Ordering.{Ordering}
use Rattle.std.specs.declared.cmp.Ordering.TheVariants.{Less}
use Rattle.std.specs.Ordering.{is_lt, ordering_reverse}
use Rattle.std.proofs.lemmas.Bool.{ltb-true}
use Rattle.std.proofs.lemmas.Bool.Decides.{nat_tests}

above_it : (m n : ℕ) → m ≢ n → nat_lt m n ≡ false → n < m
above_it m n d e = grind (arith, nat_tests)

pub by_lead : {K : Type 0} {R : K → K → Ordering} (o : IsTotalOrder R) (lead_of : K → ℕ)
    → ((a b : K) → lead_of a < lead_of b → R a b ≡ Less) → (x y : K) (m n : ℕ) → m ≡ lead_of x → n ≡ lead_of y → m ≢ n
    → nat_lt m n ≡ is_lt (R x y)
by_lead {R} o lead_of orders x y m n p q differ = elim (nat_lt m n) as (λ t. nat_lt m n ≡ t → t ≡ is_lt (R x y)) [
  | true ↦ λ e. let h : m < n = ltb-true m n e in sym (ap is_lt (orders x y (omega (arith, h, p, q))))
  | false ↦ λ e. let h : n < m = above_it m n differ e in sym
      (ap is_lt (o.antisymm x y ∙ ap ordering_reverse (orders y x (omega (arith, h, p, q)))))
] refl
