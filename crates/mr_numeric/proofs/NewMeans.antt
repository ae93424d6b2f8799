-- The means of the next round.
use Rattle.std.proofs.Common.{◌≡◌, ◌≤◌, ◌+◌, ◌*◌, ℕ, pos, ◌≤ℤ◌, nat_abs, List, [], ◌∷◌, length, get_or, map, drop, Option, Some, None, refl}
use Rattle.std.proofs.Common.{◌∙◌, arith}
use Rattle.std.specs.Prelude.{find, ◌==◌}
use Rattle.std.specs.Option.{option_map_or}
use Rattle.std.specs.List.{All, enumerate_from}
use Rattle.std.proofs.lemmas.Int.{ints}
use Rattle.std.proofs.lemmas.List.{length-map}
use Rattle.std.proofs.lemmas.List.Elements.{All-cons, All-head, All-tail, All-nil, All-map, All-weaker}
use Rattle.mr_defs.specs.Emission.{Answer, Row}
use Rattle.mr_defs.specs.Limits.{greatest_element}
use Rattle.mr_items.specs.KMeans.{Point, floor_div, mean_of, next_means}
use Rattle.mr_items.specs.Texts.{answer_at}
use Rattle.mr_numeric.specs.Sums.{AreMeans, IsCluster}
use Rattle.mr_numeric.proofs.Quotients.{quotient_small}
use Rattle.mr_numeric.proofs.Taken.{found_has}

-- the quotients are the mean where there are points
pub mean_of_some : (old : Point) (a : Answer) → pos 1 ≤ℤ get_or a 0 (pos 0) → map (λ sum. floor_div sum (get_or a 0 (pos 0))) (drop 1 a)
    ≡ mean_of old a
mean_of_some old [] some = absurd (grind (arith, ints))
mean_of_some old (count ∷ sums) some = refl

-- a mean of so many coordinates, each of 32 bits
abbrev Fits : ℕ → Point → Type 0
Fits c m = (length m ≡ c) × All (λ z. nat_abs z ≤ greatest_element) m

module _ (c : ℕ) (rows : List (Row ℕ)) (are : All (IsCluster c) rows) where
  answer_fits : (old : Point) (key : ℕ) (a : Answer) → IsCluster c (key, a) → Fits c (mean_of old a)
  answer_fits old key [] is = absurd (let long = is.long in omega (arith, long))
  answer_fits old key (count ∷ sums) is =
      let long = is.long in (
        (length-map sums (λ sum. floor_div sum count) ∙ omega (arith, long)),
        All-map (λ z. nat_abs z ≤ greatest_element) (λ sum. floor_div sum count) sums
            (All-weaker (λ z. nat_abs z ≤ greatest_element * nat_abs count) (λ z. nat_abs (floor_div z count) ≤ greatest_element)
            (λ z small. quotient_small z count is.some small) sums
            (All-tail (λ z. nat_abs z ≤ greatest_element * nat_abs count) count sums is.small)),
      )

  mean_fits : (old : Point) (k : ℕ) → Fits c old → Fits c (mean_of old (answer_at rows k))
  mean_fits old k fits = by (find (λ row. row.0 == k) rows) refl
    where
      by : (o : Option (Row ℕ)) → find (λ row. row.0 == k) rows ≡ o → Fits c (mean_of old (option_map_or (λ row. row.1) o []))
      by None e = fits
      by (Some row) e = answer_fits old row.0 row.1 (found_has (IsCluster c) (λ row. row.0 == k) rows row are e)

  all_fit : (a : ℕ) (means : List Point) → All (Fits c) means
      → All (Fits c) (map (λ e. mean_of e.1 (answer_at rows e.0)) (enumerate_from a means))
  all_fit a [] fit = All-nil (Fits c)
  all_fit a (m ∷ ms) fit =
      All-cons (Fits c) (mean_of m (answer_at rows a)) (map (λ e. mean_of e.1 (answer_at rows e.0)) (enumerate_from (a + 1) ms))
      (mean_fits m a (All-head (Fits c) m ms fit)) (all_fit (a + 1) ms (All-tail (Fits c) m ms fit))

  pub next_means_fit : (means : List Point) → AreMeans c means → AreMeans c (next_means means rows)
  next_means_fit means fit =
      let all = all_fit 0 means (λ k d below. (fit.each k d below, fit.small k d below)) in
      record { each = λ k d below. (all k d below).0; small = λ k d below. (all k d below).1 }
