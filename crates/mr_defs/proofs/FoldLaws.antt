-- No line of the table of folds depends on the order of the values.
use Rattle.std.proofs.Common.{◌≡◌, ℕ, ◌-◌, ◌/◌, max, ◌&&◌, if◌then◌else◌, List, [], ◌∷◌, ◌++◌, length, map, get_or, ℤ, pos, ◌+ℤ◌, nat_abs}
use Rattle.std.proofs.Common.{nat_le, Option, Some, None, refl, sym, ap, ◌∙◌, arith, IsPermutation, option_map, option_and_then, bit_and}
use Rattle.std.proofs.Common.{bit_or, bit_xor}
use Rattle.std.specs.List.{reduce, list_all, range_with_len}
use Rattle.std.specs.Ordering.{int_cmp}
use Rattle.std.specs.Cmp.{int_cmp_total}
use Rattle.std.specs.FinMap.{int_cmp-IsAntisymmetric}
use Rattle.std.specs.Int.{int_min, int_max, cast_signed, cast_unsigned, w64}
use Rattle.std.proofs.lemmas.Int.{clamps, ints}
use Rattle.std.proofs.lemmas.Nat.{and_comm, and_assoc, xor_comm}
use Rattle.std.specs.Int.Bits.{xor_assoc, or_step, or_shr, or_zero_r}
use Rattle.std.proofs.Math.Arith.{bin_ind}
use Rattle.std.proofs.lemmas.Nat.{or_comm}
use Rattle.std.proofs.Math.IntN.{+ℤ_comm, +ℤ_assoc}
use Rattle.std.proofs.lemmas.List.Sorted.{sum_by-IsPermutation, length_permutation, IsPermutation-map}
use Rattle.mr_defs.specs.Commutative.{IsCommutative}
use Rattle.mr_defs.specs.CommutativeLaws.{joined_by-IsPermutation}
use Rattle.mr_defs.specs.Folded.{sum_up_to, min_folded, max_folded, one_folded, count_folded, and_folded, or_folded, xor_folded}
use Rattle.mr_defs.specs.Folded.{bits_folded, both_folded, vecsum_folded, list_folded, distinct_folded, median_folded, total, magnitude}
use Rattle.mr_defs.specs.Folded.{coordinates, in_order, put_in_order, limit}
use Rattle.mr_defs.proofs.Folds.{IsOrderFree, fold-IsPermutation, reduce-joined_by}
use Rattle.mr_defs.proofs.InOrder.{put_in_order_free}
use Rattle.mr_defs.proofs.Ascending.{ascending-IsPermutation}
use Rattle.mr_defs.specs.Laws.{IsFoldOrderFree}

sum_free : IsOrderFree ◌+ℤ◌
sum_free a x y = +ℤ_assoc a x y ∙ ap (λ s. a +ℤ s) (+ℤ_comm x y) ∙ sym (+ℤ_assoc a y x)

total-IsPermutation : (xs ys : List ℤ) → IsPermutation xs ys → total ys ≡ total xs
total-IsPermutation xs ys p = fold-IsPermutation ◌+ℤ◌ sum_free (pos 0) xs ys p

magnitude-IsPermutation : (xs ys : List ℤ) → IsPermutation xs ys → magnitude ys ≡ magnitude xs
magnitude-IsPermutation xs ys p = sum_by-IsPermutation nat_abs xs ys p

pub sum_up_to_free : (most : ℕ) → IsFoldOrderFree (sum_up_to most)
sum_up_to_free most xs ys p =
    λ i. if nat_le (magnitude-IsPermutation xs ys p i) most then Some (total-IsPermutation xs ys p i ∷ []) else None

pub count_folded_free : IsFoldOrderFree count_folded
count_folded_free xs ys p = ap (λ n. if nat_le n limit then Some (pos n ∷ []) else None) (length_permutation xs ys p)

pub one_folded_free : IsFoldOrderFree one_folded
one_folded_free xs ys p = refl

pub in_order-IsPermutation : (xs ys : List ℤ) → IsPermutation xs ys → in_order ys ≡ in_order xs
in_order-IsPermutation xs ys p =
    fold-IsPermutation (put_in_order int_cmp) (put_in_order_free int_cmp int_cmp_total int_cmp-IsAntisymmetric) [] xs ys p

pub list_folded_free : IsFoldOrderFree list_folded
list_folded_free xs ys p = ap Some (in_order-IsPermutation xs ys p)

pub distinct_folded_free : IsFoldOrderFree distinct_folded
distinct_folded_free xs ys p = ap Some (ascending-IsPermutation int_cmp int_cmp_total int_cmp-IsAntisymmetric xs ys p)

pub median_folded_free : IsFoldOrderFree median_folded
median_folded_free xs ys p = λ i. Some (get_or (in_order-IsPermutation xs ys p i) ((length_permutation xs ys p i - 1) / 2) (pos 0) ∷ [])

pub both_folded_free : (f g : List ℤ → Option (List ℤ)) → IsFoldOrderFree f → IsFoldOrderFree g → IsFoldOrderFree (both_folded f g)
both_folded_free f g first second xs ys p = λ i. option_and_then (λ a. option_map (λ b. a ++ b) (second xs ys p i)) (first xs ys p i)

max_free : IsOrderFree {A = ℕ} {X = List ℤ} (λ n q. max n (length q))
max_free n x y = omega arith

coordinates-IsPermutation : (xs ys : List (List ℤ)) (j : ℕ) → IsPermutation xs ys → IsPermutation (coordinates xs j) (coordinates ys j)
coordinates-IsPermutation xs ys j p = IsPermutation-map (λ q. get_or q j (pos 0)) xs ys p

pub vecsum_folded_free : IsFoldOrderFree vecsum_folded
vecsum_folded_free xs ys p = λ i.
    let places = range_with_len 0 (fold-IsPermutation (λ n q. max n (length q)) max_free 0 xs ys p i) in
    if nat_le (length_permutation xs ys p i) limit
    && list_all
    (λ j. nat_le (magnitude-IsPermutation (coordinates xs j) (coordinates ys j) (coordinates-IsPermutation xs ys j p) i) limit) places
    then Some (pos (length_permutation xs ys p i)
    ∷ map (λ j. total-IsPermutation (coordinates xs j) (coordinates ys j) (coordinates-IsPermutation xs ys j p) i) places) else None

-- an operation in which neither order nor grouping counts
reduce-IsPermutation : {A : Type 0} {op : A → A → A} → IsCommutative op → (xs ys : List A) → IsPermutation xs ys
    → reduce op ys ≡ reduce op xs
reduce-IsPermutation {op = op} laws xs ys p =
    reduce-joined_by laws ys ∙ joined_by-IsPermutation laws (λ a. Some a) xs ys p ∙ sym (reduce-joined_by laws xs)

pub bits_folded_free : (op : ℕ → ℕ → ℕ) → IsCommutative op → IsFoldOrderFree (bits_folded op)
bits_folded_free op laws xs ys p = ap (option_map (λ n. cast_signed w64 n ∷ []))
    (reduce-IsPermutation laws (map (cast_unsigned w64) xs) (map (cast_unsigned w64) ys) (IsPermutation-map (cast_unsigned w64) xs ys p))

pub int_min_commutative : IsCommutative int_min
int_min_commutative = record { comm = λ x y. omega (arith, clamps, ints); assoc = λ x y z. omega (arith, clamps, ints) }

pub int_max_commutative : IsCommutative int_max
int_max_commutative = record { comm = λ x y. omega (arith, clamps, ints); assoc = λ x y z. omega (arith, clamps, ints) }

pub min_folded_free : IsFoldOrderFree min_folded
min_folded_free xs ys p = ap (option_map (λ v. v ∷ [])) (reduce-IsPermutation int_min_commutative xs ys p)

pub max_folded_free : IsFoldOrderFree max_folded
max_folded_free xs ys p = ap (option_map (λ v. v ∷ [])) (reduce-IsPermutation int_max_commutative xs ys p)

pub and_commutative : IsCommutative bit_and
and_commutative = record { comm = and_comm; assoc = λ x y z. and_assoc z x y }

pub and_folded_free : IsFoldOrderFree and_folded
and_folded_free xs ys p = bits_folded_free bit_and and_commutative xs ys p

-- the order of two `|` is free
or_assoc : (c a b : ℕ) → bit_or (bit_or a b) c ≡ bit_or a (bit_or b c)
or_assoc =
    bin_ind (λ (c : ℕ). (a b : ℕ) → bit_or (bit_or a b) c ≡ bit_or a (bit_or b c))
    (λ a b. or_zero_r (bit_or a b) ∙ sym (ap (bit_or a) (or_zero_r b)))
    (λ c ih a b.
    let p : bit_or (bit_or a b / 2) (c / 2) ≡ bit_or (a / 2) (bit_or b c / 2) =
    ap (λ x. bit_or x (c / 2)) (or_shr a b 1) ∙ ih (a / 2) (b / 2) ∙ sym (ap (bit_or (a / 2)) (or_shr b c 1)) in
    omega (arith, or_step (bit_or a b) c, or_step a (bit_or b c), or_step a b, or_step b c, p))

pub or_commutative : IsCommutative bit_or
or_commutative = record { comm = or_comm; assoc = λ x y z. or_assoc z x y }

pub or_folded_free : IsFoldOrderFree or_folded
or_folded_free xs ys p = bits_folded_free bit_or or_commutative xs ys p

pub xor_commutative : IsCommutative bit_xor
xor_commutative = record { comm = xor_comm; assoc = xor_assoc }

pub xor_folded_free : IsFoldOrderFree xor_folded
xor_folded_free xs ys p = bits_folded_free bit_xor xor_commutative xs ys p
