-- Which pairs take no memory.
use Rattle.std.specs.Prelude.{◌≡◌, Bool, true, false, not, ◌||◌}
use Rattle.std.proofs.Common.{refl, ap}

pub fixed_spares : (fixed inside : Bool) → fixed ≡ true → (fixed || not inside) ≡ true
fixed_spares fixed inside e = ap (λ f. f || not inside) e

pub outside_spares : (fixed inside : Bool) → inside ≡ false → (fixed || not inside) ≡ true
outside_spares true inside e = refl
outside_spares false inside e = ap not e
