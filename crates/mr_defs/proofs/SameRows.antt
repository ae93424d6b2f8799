-- Emissions in another order have the same rows, the same cells and the same fault, where no fold depends on the order.
use Rattle.std.proofs.Common.{◌≡◌, Bool, false, not, List, length, Option, Some, None, sym, ap, ◌∙◌, filter, filter_map, IsPermutation}
use Rattle.std.proofs.Common.{option_map, is_none}
use Rattle.std.specs.Prelude.{nat_lt}
use Rattle.std.proofs.lemmas.List.Sorted.{length_permutation}
use Rattle.std.specs.declared.cmp.Ordering.{Ordering}
use Rattle.std.specs.Cmp.{IsTotalOrder, nat_cmp_total}
use Rattle.std.specs.FinMap.{IsAntisymmetric, nat_cmp-IsAntisymmetric}
use Rattle.mr_defs.specs.Emission.{Emission, Answer, Row}
use Rattle.mr_defs.specs.Commutative.{joined}
use Rattle.mr_defs.specs.CommutativeLaws.{joined_by-append, joined_by-IsPermutation}
use Rattle.mr_defs.specs.Keyed.{at, keys_inside, any_key, large_key, malformed_offset, lesser, least}
use Rattle.mr_defs.specs.Faulty.{malformed_of, outside_of, twice_of, large_of, over_of, first_of, fault_of, common_fault_of}
use Rattle.mr_defs.specs.Rows.{rows_of, cells_of}
use Rattle.mr_defs.specs.Laws.{IsFoldOrderFree, MeansTheSame, SharesTheSame}
use Rattle.mr_defs.proofs.Lesser.{lesser_commutative}
use Rattle.mr_defs.proofs.Readings.{passing, malformed_read, outside_read, large_read}
use Rattle.mr_defs.proofs.Shuffled.{IsPermutation-at, keys-IsPermutation}
use Rattle.mr_defs.proofs.Short.{short, passed_over}

module _ {K V : Type 0} (R : K → K → Ordering) (o : IsTotalOrder R) (one : IsAntisymmetric R) (inside : K → Bool)
    (xs ys : List (Emission K V)) (p : IsPermutation xs ys) where
  same_keys : keys_inside R inside ys ≡ keys_inside R inside xs
  same_keys = ap (filter inside) (keys-IsPermutation R o one xs ys p)

  pub cells_of-IsPermutation : cells_of R inside ys ≡ cells_of R inside xs
  cells_of-IsPermutation = ap length same_keys

  same_malformed : malformed_of ys ≡ malformed_of xs
  same_malformed = sym (malformed_read R inside ys)
      ∙ joined_by-IsPermutation (lesser_commutative nat_cmp_total nat_cmp-IsAntisymmetric) malformed_offset xs ys p
      ∙ malformed_read R inside xs

  same_outside : outside_of R inside ys ≡ outside_of R inside xs
  same_outside = sym (outside_read R inside ys)
      ∙ joined_by-IsPermutation (lesser_commutative o one) (λ e. passing (λ k. not (inside k)) (any_key e)) xs ys p
      ∙ outside_read R inside xs

  same_large : large_of R inside ys ≡ large_of R inside xs
  same_large = sym (large_read R inside ys)
      ∙ joined_by-IsPermutation (lesser_commutative o one) (λ e. passing inside (large_key e)) xs ys p ∙ large_read R inside xs

  module _ (folded : List V → Option Answer) (free : IsFoldOrderFree folded) where
    same_folds : (k : K) → folded (at R ys k) ≡ folded (at R xs k)
    same_folds k = free (at R xs k) (at R ys k) (IsPermutation-at R xs ys k p)

    pub rows_of-IsPermutation : rows_of R inside folded ys ≡ rows_of R inside folded xs
    rows_of-IsPermutation = λ i. filter_map (λ k. option_map (λ a. (k, a)) (same_folds k i)) (same_keys i)

    over_keys : filter (λ k. is_none (folded (at R ys k))) (keys_inside R inside ys)
        ≡ filter (λ k. is_none (folded (at R xs k))) (keys_inside R inside xs)
    over_keys = λ i. filter (λ k. is_none (same_folds k i)) (same_keys i)

    same_over : over_of R inside folded ys ≡ over_of R inside folded xs
    same_over =
        joined_by-append (lesser_commutative o one) (λ k. Some k) (filter inside (filter_map large_key ys))
        (filter (λ k. is_none (folded (at R ys k))) (keys_inside R inside ys))
        ∙ ap (λ u. joined (lesser R) u (least R (filter (λ k. is_none (folded (at R ys k))) (keys_inside R inside ys)))) same_large
        ∙ ap (λ l. joined (lesser R) (large_of R inside xs) (least R l)) over_keys
        ∙ sym (joined_by-append (lesser_commutative o one) (λ k. Some k) (filter inside (filter_map large_key xs))
        (filter (λ k. is_none (folded (at R xs k))) (keys_inside R inside xs)))

    pub fault_of-IsPermutation : fault_of R inside folded ys ≡ fault_of R inside folded xs
    fault_of-IsPermutation =
        λ i. first_of (record { malformed = same_malformed i; outside = same_outside i; twice = None; over = same_over i })

    pub means_the_same : MeansTheSame R inside folded xs ys
    means_the_same = record { rows = rows_of-IsPermutation; fault = fault_of-IsPermutation; cells = cells_of-IsPermutation }

  -- in the array common to all: keys that stand in two pairs
  is_twice : List (Emission K V) → K → Bool
  is_twice es k = nat_lt 1 (length (at R es k))

  same_is_twice : (k : K) → is_twice ys k ≡ is_twice xs k
  unfolding is_twice
  same_is_twice k = ap (nat_lt 1) (length_permutation (at R xs k) (at R ys k) (IsPermutation-at R xs ys k p))

  same_twice : twice_of R inside ys ≡ twice_of R inside xs
  unfolding is_twice
  same_twice = λ i. least R (filter (λ k. same_is_twice k i) (same_keys i))

  pub common_fault_of-IsPermutation : common_fault_of R inside ys ≡ common_fault_of R inside xs
  common_fault_of-IsPermutation =
      λ i. first_of (record { malformed = same_malformed i; outside = same_outside i; twice = same_twice i; over = same_large i })

  module _ (folded : List V → Option Answer) where
    row_of : List (Emission K V) → K → Option (Row K)
    row_of es k = option_map (λ a. (k, a)) (folded (at R es k))

    once_same : twice_of R inside xs ≡ None → rows_of R inside folded ys ≡ rows_of R inside folded xs
    unfolding row_of
    once_same none = ap (filter_map (row_of ys)) same_keys
        ∙ passed_over (lesser R) (λ k. nat_lt 1 (length (at R xs k))) (row_of ys) (row_of xs) one_row (keys_inside R inside xs) none
      where
        one_row : (k : K) → nat_lt 1 (length (at R xs k)) ≡ false → row_of ys k ≡ row_of xs k
        one_row k few = ap (λ vs. option_map (λ a. (k, a)) (folded vs)) (short (at R xs k) (at R ys k) few (IsPermutation-at R xs ys k p))

    pub shares_the_same : SharesTheSame R inside folded xs ys
    shares_the_same = record { fault = common_fault_of-IsPermutation; rows = once_same }
