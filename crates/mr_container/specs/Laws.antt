-- What the laws of a container follow from.
use Rattle.std.specs.Prelude.{◌≡◌, ℕ, ◌+◌, ◌*◌, ◌/◌, ◌%◌, ◌<◌, ◌≤◌, Bool, true, false, not, ◌&&◌, if◌then◌else◌, List, Option, Some, None}
use Rattle.std.specs.List.Sorted.{IsPermutation}
use Rattle.std.specs.declared.cmp.Ordering.{Ordering}
use Rattle.std.specs.Cmp.{IsTotalOrder, nat_cmp_total}
use Rattle.std.specs.FinMap.{IsAntisymmetric, nat_cmp-IsAntisymmetric}
use Rattle.std.proofs.Common.{sym, ap, subst, ◌∙◌, arith}
use Rattle.std.proofs.Math.Nat.{div-add-mod, mul-add-mod_self_left, mul_assoc}
use Rattle.mr_defs.specs.Emission.{Emission}
use Rattle.mr_defs.specs.Commutative.{IsCommutative}
use Rattle.mr_defs.specs.CommutativeLaws.{joined_by-IsPermutation}
use Rattle.mr_defs.specs.Keyed.{at, any_key, large_key, malformed_offset}
use Rattle.mr_defs.specs.Faulty.{Noted}
use Rattle.mr_defs.specs.Stands.{IsNotedOf, StandsFor}
use Rattle.mr_defs.proofs.Lesser.{lesser_commutative}
use Rattle.mr_defs.proofs.Readings.{passing, malformed_read, outside_read, large_read}
use Rattle.mr_defs.proofs.SameRows.{cells_of-IsPermutation}
use Rattle.mr_defs.proofs.Shuffled.{IsPermutation-at}

module _ {K V : Type 0} {R : K → K → Ordering} (o : IsTotalOrder R) (one : IsAntisymmetric R) (inside : K → Bool) where
  -- what is noted of a list is noted of each order of it
  pub noted_in_any_order : (noted : Noted K) (es fs : List (Emission K V)) → IsPermutation es fs → IsNotedOf R inside noted es
      → IsNotedOf R inside noted fs
  noted_in_any_order noted es fs p was = record {
    malformed = was.malformed ∙ sym (malformed_read R inside es)
        ∙ sym (joined_by-IsPermutation (lesser_commutative nat_cmp_total nat_cmp-IsAntisymmetric) malformed_offset es fs p)
        ∙ malformed_read R inside fs;
    outside = was.outside ∙ sym (outside_read R inside es)
        ∙ sym (joined_by-IsPermutation (lesser_commutative o one) (λ e. passing (λ k. not (inside k)) (any_key e)) es fs p)
        ∙ outside_read R inside fs;
    over = was.over ∙ sym (large_read R inside es)
        ∙ sym (joined_by-IsPermutation (lesser_commutative o one) (λ e. passing inside (large_key e)) es fs p) ∙ large_read R inside fs;
  }

  -- what stands for a list stands for each order of it
  pub any_order : {C : Type 0} {merged : C → C → C} → IsCommutative merged
      → (unit : V → C) (cell_at : K → Option C) (cells : ℕ) (noted : Noted K) (es fs : List (Emission K V)) → IsPermutation es fs
      → StandsFor R inside unit merged cell_at cells noted es → StandsFor R inside unit merged cell_at cells noted fs
  any_order laws unit cell_at cells noted es fs p was = record {
    each = λ k. was.each k ∙ sym
        (ap (λ c. if inside k then c else None)
        (joined_by-IsPermutation laws (λ v. Some (unit v)) (at R es k) (at R fs k) (IsPermutation-at R es fs k p)));
    count = was.count ∙ sym (cells_of-IsPermutation R o one inside es fs p);
    faults = noted_in_any_order noted es fs p was.faults;
    twice = was.twice;
  }

-- cells and faults that are the same stand for the same
module _ {K V C : Type 0} (R : K → K → Ordering) (inside : K → Bool) (unit : V → C) (merged : C → C → C) where
  pub kept : (cell_at cell_at' : K → Option C) (cells cells' : ℕ) (noted noted' : Noted K) → ((k : K) → cell_at' k ≡ cell_at k)
      → cells' ≡ cells → noted' ≡ noted → (es : List (Emission K V))
      → StandsFor R inside unit merged cell_at cells noted es → StandsFor R inside unit merged cell_at' cells' noted' es
  kept cell_at cell_at' cells cells' noted noted' each count faults es was = record {
    each = λ k. each k ∙ was.each k;
    count = count ∙ was.count;
    faults = subst (λ n. IsNotedOf R inside n es) (sym faults) was.faults;
    twice = ap (λ n. n.twice) faults ∙ was.twice;
  }

pub both_true : (a b : Bool) → a ≡ true → b ≡ true → (a && b) ≡ true
both_true a b e f = ap (λ x. x && b) e ∙ f

pub never_outside : {A : Type 0} → true ≡ false → A
never_outside e = cc

pub part_below : (n parts : ℕ) → 1 ≤ parts → n % parts < parts
part_below n parts h = omega arith

-- a remainder of a multiple of a number leaves the number's remainder
pub part_nests : (n parts times : ℕ) → n % (parts * times) % parts ≡ n % parts
part_nests n parts times = sym (
    ap (λ m. m % parts) (sym (div-add-mod n (parts * times)))
    ∙ ap (λ m. (m + n % (parts * times)) % parts) (mul_assoc parts times (n / (parts * times)))
    ∙ mul-add-mod_self_left parts (times * (n / (parts * times))) (n % (parts * times))
    )
