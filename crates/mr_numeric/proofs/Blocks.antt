-- What a block emits column by column is what its rows emit, in another order.
use Rattle.std.proofs.Common.{◌≡◌, ℕ, suc, zero, ◌+◌, ◌-◌, ◌*◌, ◌<◌, ◌≤◌, ℤ, pos, ◌*ℤ◌, nat_abs, List, [], ◌∷◌, ◌++◌, length, map, min, zip}
use Rattle.std.proofs.Common.{get_or, slice_get, Some, None, if◌then◌else◌, IsPermutation, refl, sym, ap, ap₂, subst, ◌∙◌, append_assoc}
use Rattle.std.proofs.Common.{arith, w32, w64, to_z, of_z}
use Rattle.std.specs.Prelude.{flat_map}
use Rattle.std.specs.List.{All, AllByRecursion, range_with_len}
use Rattle.std.proofs.lemmas.Bool.{le-leb}
use Rattle.std.proofs.lemmas.Int.{unsigned_abs-mul, fits_signed_from_abs, to_z-of_z}
use Rattle.std.specs.Int.RustNames.{FitsSigned}
use Rattle.std.proofs.lemmas.List.{length-map, get_or-map}
use Rattle.std.proofs.lemmas.List.Concat.{flat_map_single}
use Rattle.std.proofs.lemmas.List.Elements.{All-get_or}
use Rattle.std.proofs.lemmas.List.Folds.{flat_map-map}
use Rattle.std.proofs.lemmas.List.FromFn.{get_or-map-range_with_len, length-map-range_with_len, map-range_with_len_more}
use Rattle.std.proofs.lemmas.List.Sorted.{IsPermutation-refl, IsPermutation-cons, IsPermutation-trans, IsPermutation-append_comm}
use Rattle.std.proofs.lemmas.List.Sorted.{IsPermutation-append_left, IsPermutation-append_right}
use Rattle.std.proofs.lemmas.Nat.{mul-le}
use Rattle.std.proofs.lemmas.Option.{get_or_from_slice_get, slice_get-get_or}
use Rattle.std.proofs.lemmas.Simd.{map-map}
use Rattle.std.proofs.lemmas.Slice.Zip.{length-zip, get_or-zip}
use Rattle.mr_defs.specs.Emission.{Emission, Pair}
use Rattle.mr_defs.specs.Folded.{limit}
use Rattle.mr_container.specs.Block.{run_emissions}
use Rattle.mr_items.specs.Grid.{columns_of}
use Rattle.mr_items.specs.MatrixProduct.{sum_emits}
use Rattle.mr_items.specs.Pca.{deviation, column_couples, spread_emits}
use Rattle.mr_numeric.specs.Blocks.{AreMild, block_of, deviations_of, products_of, couple_run, column_runs}
use Rattle.mr_numeric.specs.Pairs.{sum_of}
use Rattle.mr_numeric.proofs.Emitted.{flat_map-flat_map}
use Rattle.mr_numeric.proofs.Products.{kept}
use Rattle.mr_numeric.proofs.SumsOf.{number_within, sum_of_number}

-- lists of lists, by rows and by columns
moved : {E : Type 0} (xs ys zs : List E) → IsPermutation (xs ++ (ys ++ zs)) (ys ++ (xs ++ zs))
moved xs ys zs =
    subst (λ l. IsPermutation l (ys ++ (xs ++ zs))) (append_assoc xs ys zs)
    (subst (IsPermutation ((xs ++ ys) ++ zs)) (append_assoc ys xs zs)
    (IsPermutation-append_left zs (xs ++ ys) (ys ++ xs) (IsPermutation-append_comm xs ys)))

heads : {Y E : Type 0} (h : Y → E) (g : Y → List E) (ys : List Y) → IsPermutation (flat_map (λ y. h y ∷ g y) ys) (map h ys ++ flat_map g ys)
heads h g [] = IsPermutation-refl []
heads h g (y ∷ ys) =
    let rest = flat_map (λ y. h y ∷ g y) ys in
    IsPermutation-cons (h y) (g y ++ rest) (map h ys ++ (g y ++ flat_map g ys))
    (IsPermutation-trans (g y ++ rest) (g y ++ (map h ys ++ flat_map g ys)) (map h ys ++ (g y ++ flat_map g ys))
    (IsPermutation-append_right (g y) rest (map h ys ++ flat_map g ys) (heads h g ys))
    (moved (g y) (map h ys) (flat_map g ys)))

no_rows : {Y E : Type 0} (ys : List Y) → flat_map {X = Y} {A = E} (λ y. []) ys ≡ []
no_rows [] = refl
no_rows (y ∷ ys) = no_rows ys

turned : {X Y E : Type 0} (e : X → Y → E) (xs : List X) (ys : List Y)
    → IsPermutation (flat_map (λ y. map (λ x. e x y) xs) ys) (flat_map (λ x. map (e x) ys) xs)
turned e [] ys = subst (λ l. IsPermutation l []) (sym (no_rows ys)) (IsPermutation-refl [])
turned e (x ∷ xs) ys =
    IsPermutation-trans (flat_map (λ y. e x y ∷ map (λ x. e x y) xs) ys) (map (e x) ys ++ flat_map (λ y. map (λ x. e x y) xs) ys)
    (map (e x) ys ++ flat_map (λ x. map (e x) ys) xs)
    (heads (e x) (λ y. map (λ x. e x y) xs) ys)
    (IsPermutation-append_right (map (e x) ys) (flat_map (λ y. map (λ x. e x y) xs) ys) (flat_map (λ x. map (e x) ys) xs) (turned e xs ys))

-- what gives the same of each number of a range gives the same of the range
flat_map_same : {X E : Type 0} (f g : X → List E) (xs : List X) → AllByRecursion (λ x. f x ≡ g x) xs → flat_map f xs ≡ flat_map g xs
flat_map_same f g [] h = refl
flat_map_same f g (x ∷ xs) h = ap₂ ◌++◌ h.0 (flat_map_same f g xs h.1)

each_of : (P : ℕ → Type 0) (a n : ℕ) → ((k : ℕ) → a ≤ k → k < a + n → P k) → AllByRecursion P (range_with_len a n)
each_of P a zero h = tt
each_of P a (suc n) h = (h a (omega arith) (omega arith), each_of P (a + 1) n (λ k l m. h k (omega (arith, l)) (omega (arith, m))))

range_same : {E : Type 0} (f g : ℕ → List E) (a n : ℕ) → ((k : ℕ) → a ≤ k → k < a + n → f k ≡ g k)
    → flat_map f (range_with_len a n) ≡ flat_map g (range_with_len a n)
range_same f g a n h = flat_map_same f g (range_with_len a n) (each_of (λ k. f k ≡ g k) a n h)

-- the pairs of columns, first by first
module _ {E : Type 0} (c : ℕ) where
  by_first : (f : ℕ × ℕ → List E)
      → flat_map f (column_couples c) ≡ flat_map (λ i. flat_map (λ j. f (i, j)) (range_with_len i (c - i))) (range_with_len 0 c)
  by_first f =
      flat_map-flat_map f (λ i. map (λ j. (i, j)) (range_with_len i (c - i))) (range_with_len 0 c)
      ∙ (λ k. flat_map (λ i. flat_map-map f (λ j. (i, j)) (range_with_len i (c - i)) k) (range_with_len 0 c))

  couples_same : (f g : ℕ × ℕ → List E) → ((i j : ℕ) → i < c → j < c → f (i, j) ≡ g (i, j))
      → flat_map f (column_couples c) ≡ flat_map g (column_couples c)
  couples_same f g h =
      by_first f
      ∙ range_same (λ i. flat_map (λ j. f (i, j)) (range_with_len i (c - i))) (λ i. flat_map (λ j. g (i, j)) (range_with_len i (c - i))) 0 c
      (λ i l m. range_same (λ j. f (i, j)) (λ j. g (i, j)) i (c - i) (λ j p q. h i j (omega (arith, m)) (omega (arith, m, q))))
      ∙ sym (by_first g)

products_map : {X : Type 0} (f g : X → ℤ) (xs : List X) → products_of (map f xs) (map g xs) ≡ map (λ x. f x *ℤ g x) xs
products_map f g [] = refl
products_map f g (x ∷ xs) = ap (λ (l : List ℤ). (f x *ℤ g x) ∷ l) (products_map f g xs)

-- a product within the limit is emitted
one_emission : (key : ℕ) (x : ℤ) → nat_abs x ≤ limit → sum_emits key (x ∷ []) ≡ Pair key x ∷ []
one_emission key x h = sym (sum_of_number key x) ∙ ap (sum_of key) (number_is x h)
  where
    number_is : (x : ℤ) → nat_abs x ≤ limit → number_within x ≡ Some x
    number_is x h = ap (λ t. if t then Some x else None) (le-leb (nat_abs x) limit h)

pub mild_product : (x y : ℤ) → nat_abs x ≤ 2147483647 → nat_abs y ≤ 2147483647 → nat_abs (x *ℤ y) ≤ limit
mild_product x y left right = omega (arith, unsigned_abs-mul x y, mul-le (nat_abs x) (nat_abs y) 2147483647 2147483647 left right)

-- a mild number as 32 bits hold it, and then 64
abbrev pub held : ℤ → ℤ
held x = to_z w64 (of_z w64 (to_z w32 (of_z w32 x)))

held_is : (x : ℤ) → nat_abs x ≤ 2147483647 → held x ≡ x
held_is x h =
    ap (λ z. to_z w64 (of_z w64 z)) (to_z-of_z w32 x (fits_signed_from_abs w32 x (omega (arith, h)))) ∙ kept x (omega (arith, h))

module _ (x y : ℤ) (left : nat_abs x ≤ 2147483647) (right : nat_abs y ≤ 2147483647) where
  pub mild_fits : FitsSigned w64 (held x *ℤ held y)
  mild_fits = rw (held_is x left, held_is y right) (fits_signed_from_abs w64 (x *ℤ y) (omega (arith, mild_product x y left right)))

  pub mild_is : to_z w64 (of_z w64 (held x *ℤ held y)) ≡ x *ℤ y
  mild_is = rw (held_is x left, held_is y right) (kept (x *ℤ y) (mild_product x y left right))

-- two lists multiplied, place by place
module _ (left right : List ℤ) where
  pub length-products : length (products_of left right) ≡ min (length left) (length right)
  length-products = length-map (zip left right) (λ p. p.0 *ℤ p.1) ∙ length-zip left right

  pub product_there : (i : ℕ) → i < length (products_of left right)
      → slice_get (products_of left right) i ≡ Some (get_or left i (pos 0) *ℤ get_or right i (pos 0))
  product_there i h =
      slice_get-get_or (products_of left right) i (pos 0) h
      ∙ ap Some
      (get_or-map (λ p. p.0 *ℤ p.1) (zip left right) i (pos 0, pos 0) (pos 0) (omega (arith, h, length-products, length-zip left right))
      ∙ ap (λ (p : ℤ × ℤ). p.0 *ℤ p.1)
      (get_or-zip left right i (pos 0, pos 0) (omega (arith, h, length-products)) (omega (arith, h, length-products))))

-- a row more of a column, and a column more of a block
module _ (means : List ℤ) (grid : List (List ℤ)) (from : ℕ) where
  pub row_more : (r j : ℕ) (row : List ℤ) → from ≤ r → slice_get grid r ≡ Some row
      → deviations_of means grid from (r - from) j ++ deviation means row j ∷ [] ≡ deviations_of means grid from ((r + 1) - from) j
  row_more r j row l is =
      let meets : from + (r - from) ≡ r = omega (arith, l) in
      let size : (r - from) + 1 ≡ (r + 1) - from = omega (arith, l) in
      ap (λ w. deviations_of means grid from (r - from) j ++ deviation means w j ∷ []) (sym (get_or_from_slice_get grid r row [] is))
      ∙ sym (map-range_with_len_more (λ r. deviation means (get_or grid r []) j) from (r - from) r meets)
      ∙ ap (λ n. deviations_of means grid from n j) size

  pub column_more : (n j : ℕ) (column : List ℤ) → column ≡ deviations_of means grid from n j
      → map (deviations_of means grid from n) (range_with_len 0 j) ++ column ∷ []
      ≡ map (deviations_of means grid from n) (range_with_len 0 (j + 1))
  column_more n j column is =
      let meets : 0 + j ≡ j = omega arith in
      ap (λ l. map (deviations_of means grid from n) (range_with_len 0 j) ++ l ∷ []) is
      ∙ sym (map-range_with_len_more (deviations_of means grid from n) 0 j j meets)

pub block_long : (means : List ℤ) (grid : List (List ℤ)) (from n : ℕ) → length (block_of means grid from n) ≡ length means
block_long means grid from n = length-map-range_with_len (deviations_of means grid from n) 0 (length means)

module _ (means : List ℤ) (grid : List (List ℤ)) (from n : ℕ) (alike : length means ≡ columns_of grid)
    (mild : All AreMild (block_of means grid from n)) where
  abbrev c : ℕ
  c = length means

  abbrev at_row : ℕ → ℕ → ℤ
  at_row j r = deviation means (get_or grid r []) j

  abbrev emission : ℕ → ℕ × ℕ → Emission ℕ ℤ
  emission r p = Pair (p.0 * c + p.1) (at_row p.0 r *ℤ at_row p.1 r)

  column_is : (j : ℕ) → j < c → get_or (block_of means grid from n) j [] ≡ deviations_of means grid from n j
  column_is j h = get_or-map-range_with_len (deviations_of means grid from n) 0 c j j [] h (omega arith)

  mild_at : (j r : ℕ) → j < c → from ≤ r → r < from + n → nat_abs (at_row j r) ≤ 2147483647
  mild_at j r h l m =
      let place : r - from < n = omega (arith, l, m) in
      let size = length-map-range_with_len (at_row j) from n in
      let long = length-map-range_with_len (deviations_of means grid from n) 0 c in
      let column : AreMild (deviations_of means grid from n j) =
      subst AreMild (column_is j h) (All-get_or AreMild (block_of means grid from n) j [] (omega (arith, long, h)) mild) in
      subst (λ z. nat_abs z ≤ 2147483647) (get_or-map-range_with_len (at_row j) from n (r - from) r (pos 0) place (omega (arith, l)))
      (All-get_or (λ z. nat_abs z ≤ 2147483647) (deviations_of means grid from n j) (r - from) (pos 0) (omega (arith, size, place)) column)

  row_is : (r : ℕ) → from ≤ r → r < from + n → spread_emits means grid r ≡ map (emission r) (column_couples c)
  row_is r l m =
      ap (λ k. flat_map (λ p. sum_emits (p.0 * k + p.1) ((at_row p.0 r *ℤ at_row p.1 r) ∷ [])) (column_couples k)) (sym alike)
      ∙ couples_same c (λ p. sum_emits (p.0 * c + p.1) ((at_row p.0 r *ℤ at_row p.1 r) ∷ [])) (λ p. emission r p ∷ [])
      (λ i j p q. one_emission (i * c + j) (at_row i r *ℤ at_row j r)
      (mild_product (at_row i r) (at_row j r) (mild_at i r p l m) (mild_at j r q l m)))
      ∙ flat_map_single (emission r) (column_couples c)

  run_is : (i j : ℕ) → i < c → j < c → couple_run (block_of means grid from n) i j ≡ map (λ r. emission r (i, j)) (range_with_len from n)
  run_is i j p q =
      ap (λ k. run_emissions (i * k + j)
      (products_of (get_or (block_of means grid from n) i []) (get_or (block_of means grid from n) j [])))
      (length-map-range_with_len (deviations_of means grid from n) 0 c)
      ∙ ap₂ (λ xs ys. run_emissions (i * c + j) (products_of xs ys)) (column_is i p) (column_is j q)
      ∙ ap (run_emissions (i * c + j)) (products_map (at_row i) (at_row j) (range_with_len from n))
      ∙ map-map (λ z. Pair (i * c + j) z) (λ r. at_row i r *ℤ at_row j r) (range_with_len from n)

  columns_are : flat_map (column_runs (block_of means grid from n)) (range_with_len 0 (length (block_of means grid from n)))
      ≡ flat_map (λ p. map (λ r. emission r p) (range_with_len from n)) (column_couples c)
  columns_are =
      ap (λ k. flat_map (λ i. flat_map (couple_run (block_of means grid from n) i) (range_with_len i (k - i))) (range_with_len 0 k))
      (length-map-range_with_len (deviations_of means grid from n) 0 c)
      ∙ sym (by_first c (λ p. couple_run (block_of means grid from n) p.0 p.1))
      ∙ couples_same c (λ p. couple_run (block_of means grid from n) p.0 p.1) (λ p. map (λ r. emission r p) (range_with_len from n)) run_is

  pub block_turned : IsPermutation
      (flat_map (column_runs (block_of means grid from n)) (range_with_len 0 (length (block_of means grid from n))))
      (flat_map (spread_emits means grid) (range_with_len from n))
  block_turned =
      subst (IsPermutation (flat_map (column_runs (block_of means grid from n)) (range_with_len 0 (length (block_of means grid from n)))))
      (sym (range_same (spread_emits means grid) (λ r. map (emission r) (column_couples c)) from n row_is))
      (subst (λ l. IsPermutation l (flat_map (λ r. map (emission r) (column_couples c)) (range_with_len from n))) (sym columns_are)
      (turned emission (range_with_len from n) (column_couples c)))
