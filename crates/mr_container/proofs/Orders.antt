-- What tests of an order and of numbers tell.
use Rattle.std.proofs.Common.{◌≡◌, ◌≢◌, ℕ, ◌==◌, Bool, true, false, ◌&&◌, T, inl, inr, refl}
use Rattle.std.proofs.lemmas.Bool.Decides.{eqb_tells}
use Rattle.std.specs.declared.cmp.Ordering.{Ordering}
use Rattle.std.specs.declared.cmp.Ordering.TheVariants.{Less, Equal, Greater}
use Rattle.std.specs.Ordering.{is_eq, is_lt}

pub is_Equal : (r : Ordering) → is_eq r ≡ true → r ≡ Equal
is_Equal Less h = cc
is_Equal Equal h = refl
is_Equal Greater h = cc

pub is_Less : (r : Ordering) → T (is_lt r) → r ≡ Less
is_Less Less h = refl
is_Less Equal h = absurd h
is_Less Greater h = absurd h

pub both_first : (a b : Bool) → T (a && b) → T a
both_first true b p = tt
both_first false b p = p

pub both_second : (a b : Bool) → T (a && b) → T b
both_second true b p = p
both_second false b p = absurd p

-- numbers that differ
pub not_equal : (a b : ℕ) → a ≢ b → (a == b) ≡ false
not_equal a b h = elim (eqb_tells a b) [ inl same ↦ absurd (h same.1) | inr other ↦ other.0 ]
