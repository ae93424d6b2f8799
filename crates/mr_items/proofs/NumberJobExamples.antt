-- Jobs on bitmaps and grids, at inputs that are written out.
use Rattle.std.proofs.Common.{refl, ◌≡◌, ℕ, ℤ, pos, false, true, codes, List, [], ◌∷◌, length}
use Rattle.std.specs.Prelude.{Option, Result, Ok, Err, decimal, set}
use Rattle.std.specs.Fmt.{digits}
use Rattle.std.specs.Ordering.{nat_cmp}
use Rattle.mr_defs.specs.Emission.{Emission, Answer}
use Rattle.mr_defs.specs.declared.Fault.{Fault}
use Rattle.mr_defs.specs.declared.Fault.TheVariants as fault
use Rattle.mr_defs.specs.Folded.{sum_folded, vecsum_folded, once_folded}
use Rattle.mr_defs.specs.Rounds.{rounds_of, states_of, one_round_of}
use Rattle.mr_items.specs.Keys.{below}
use Rattle.mr_items.specs.Texts.{rows_text}
use Rattle.mr_items.specs.Grid.{rows_in, column}
use Rattle.mr_items.specs.Histogram.{histogram_emissions}
use Rattle.mr_items.specs.LinearRegression.{linear_regression_emissions, regression_text, is_regression_shape}
use Rattle.mr_items.specs.MatrixProduct.{matrix_product_emissions, is_product_shape}
use Rattle.mr_items.specs.KMeans.{KMeansState, kmeans_emissions, kmeans_first, kmeans_next, is_kmeans_shape}
use Rattle.mr_items.specs.Pca.{columns, pca_emissions, pca_next}
use Rattle.mr_items.proofs.OnePixel.{one_pixel}

abbrev common_text : List (Emission ℕ ℤ) → Result (List ℕ) (Fault ℕ)
common_text es = one_round_of nat_cmp (below 16) true once_folded (rows_text decimal) es

abbrev product : List ℕ → List ℕ → List (Emission ℕ ℤ)
product left right = matrix_product_emissions (rows_in left) (rows_in right)

abbrev clustered : List ℕ → ℕ → ℕ → Result (List ℕ) (Fault ℕ)
clustered text clusters rounds =
    rounds_of nat_cmp (below 16) false vecsum_folded (λ s. kmeans_emissions s.means (rows_in text)) kmeans_next rounds
    (kmeans_first clusters rounds (rows_in text))

abbrev rounds_run : List ℕ → ℕ → ℕ → List KMeansState
rounds_run text clusters rounds =
    states_of nat_cmp (below 16) false vecsum_folded (λ s. kmeans_emissions s.means (rows_in text)) kmeans_next rounds
    (kmeans_first clusters rounds (rows_in text))

abbrev varied : (List ℤ → Option Answer) → List ℕ → Result (List ℕ) (Fault ℕ)
varied folded text = rounds_of nat_cmp (below 16) false folded (pca_emissions (rows_in text)) (pca_next (rows_in text)) 2 columns

colours_of_a_pixel :
    one_round_of nat_cmp (below 768) false sum_folded (rows_text decimal) (histogram_emissions one_pixel)
    ≡ Ok (codes "1 1\n258 1\n767 1\n")
unfolding digits
colours_of_a_pixel = refl

colours_from_the_top :
    one_round_of nat_cmp (below 768) false sum_folded (rows_text decimal)
    (histogram_emissions (set (set (set (set one_pixel 22 255) 23 255) 24 255) 25 255))
    ≡ Ok (codes "1 1\n258 1\n767 1\n")
unfolding digits
colours_from_the_top = refl

green_outside : one_round_of nat_cmp (below 256) false sum_folded (rows_text decimal) (histogram_emissions one_pixel)
    ≡ Err (fault.Outside 258)
green_outside = refl

line_through_points :
    one_round_of nat_cmp (below 16) false sum_folded regression_text (linear_regression_emissions (rows_in (codes "1 2\n2 4\n3 6\n")))
    ≡ Ok (codes "n 3\nsx 6\nsy 12\nsxx 14\nsyy 56\nsxy 28\nslope 12/6\nintercept 0/6\n")
unfolding digits
line_through_points = refl

line_through_one_point :
    one_round_of nat_cmp (below 16) false sum_folded regression_text (linear_regression_emissions (rows_in (codes "1 2\n")))
    ≡ Ok (codes "n 1\nsx 1\nsy 2\nsxx 1\nsyy 4\nsxy 2\nslope 0/0\nintercept 0/0\n")
unfolding digits
line_through_one_point = refl

line_through_no_point :
    one_round_of nat_cmp (below 16) false sum_folded regression_text (linear_regression_emissions (rows_in (codes "")))
    ≡ Ok (codes "n 0\nsx 0\nsy 0\nsxx 0\nsyy 0\nsxy 0\nslope 0/0\nintercept 0/0\n")
unfolding digits
line_through_no_point = refl

squares_over :
    one_round_of nat_cmp (below 16) false sum_folded regression_text
    (linear_regression_emissions (rows_in (codes "2147483647 0\n2147483647 0\n2147483647 0\n")))
    ≡ Err (fault.Over 3)
squares_over = refl

three_columns : is_regression_shape (rows_in (codes "1 2 3\n")) ≡ false
three_columns = refl

columns_and_rows_differ : is_product_shape (rows_in (codes "1 2\n")) (rows_in (codes "1\n")) ≡ false
columns_and_rows_differ = refl

product_of_squares : common_text (product (codes "1 2\n3 4\n") (codes "5 6\n7 8\n")) ≡ Ok (codes "0 19\n1 22\n2 43\n3 50\n")
unfolding digits
product_of_squares = refl

product_too_large :
    common_text (product (codes "2147483647 2147483647 2147483647\n") (codes "2147483647\n2147483647\n2147483647\n")) ≡ Err (fault.Over 0)
product_too_large = refl

greatest_product :
    common_text (product (codes "2147483647 2147483647\n") (codes "2147483647\n2147483647\n")) ≡ Ok (codes "0 9223372028264841218\n")
unfolding digits
greatest_product = refl

two_clusters : clustered (codes "0\n4\n2\n") 2 1 ≡ Ok (codes "0 2 1\n1 1 4\n")
unfolding digits
two_clusters = refl

means_that_stay : clustered (codes "0\n4\n2\n") 2 9 ≡ Ok (codes "0 2 1\n1 1 4\n")
unfolding digits
means_that_stay = refl

rounds_until_they_stay : length (rounds_run (codes "0\n4\n2\n") 2 9) ≡ 2
rounds_until_they_stay = refl

one_round_of_them : length (rounds_run (codes "0\n4\n2\n") 2 1) ≡ 1
one_round_of_them = refl

cluster_without_points : clustered (codes "5\n5\n") 2 1 ≡ Ok (codes "0 2 5\n1 0 5\n")
unfolding digits
cluster_without_points = refl

fewer_points_than_clusters : is_kmeans_shape 2 (rows_in (codes "5\n")) ≡ false
fewer_points_than_clusters = refl

mean_rounded_down : clustered (codes "-1\n-2\n") 1 1 ≡ Ok (codes "0 2 -2\n")
unfolding digits
mean_rounded_down = refl

means_and_spread : varied sum_folded (codes "1 2\n3 6\n") ≡ Ok (codes "mean 0 2\nmean 1 4\ncov 0 0 2/1\ncov 0 1 4/1\ncov 1 1 8/1\n")
unfolding digits
means_and_spread = refl

couple_outside : varied sum_folded (codes "1 2 3 4 5\n") ≡ Err (fault.Outside 18)
couple_outside = refl

no_rows_no_lines : varied sum_folded (codes "") ≡ Ok (codes "")
no_rows_no_lines = refl

first_pass_over : varied sum_folded (codes "2147483647\n-2147483647\n2147483647\n-2147483647\n") ≡ Err (fault.Over 0)
first_pass_over = refl

second_column : column ((pos 1 ∷ pos 2 ∷ []) ∷ (pos 3 ∷ pos 4 ∷ []) ∷ []) 1 ≡ pos 2 ∷ pos 4 ∷ []
second_column = refl
