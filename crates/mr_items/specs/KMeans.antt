-- Points, each with the nearest of some means, in rounds that move the means.
use Rattle.std.specs.Prelude.{ℕ, ◌-◌, ◌*◌, ℤ, ◌-ℤ◌, nat_abs, Bool, ◌||◌, nat_le, if◌then◌else◌, List, [], ◌∷◌, ◌++◌, length, map, take, zip}
use Rattle.std.specs.Prelude.{flat_map, position, sum_by, get_or, unwrap_or, decimal}
use Rattle.std.specs.List.{range_with_len, enumerate_from, list_all}
use Rattle.std.specs.Int.{int_div_euclid}
use Rattle.std.specs.Ordering.{int_cmp, eq_by_cmp}
use Rattle.std.specs.Cmp.Lexicographic.{slice_cmp}
use Rattle.mr_defs.specs.Emission.{Emission, Pair, Answer, Row}
use Rattle.mr_defs.specs.Rounds.{Next, again, ended}
use Rattle.mr_items.specs.Texts.{line, spaced, answer_at, number_at}

abbrev pub Point : Type 0
Point = List ℤ

-- there is a point for each cluster
abbrev pub is_kmeans_shape : ℕ → List Point → Bool
is_kmeans_shape clusters points = nat_le clusters (length points)

-- the sum of the squared differences
abbrev pub distance : Point → Point → ℕ
distance p m = sum_by (λ e. nat_abs (e.0 -ℤ e.1) * nat_abs (e.0 -ℤ e.1)) (zip p m)

-- the number of the first mean that is as near to the point as each other
abbrev pub nearest : List Point → Point → ℕ
nearest means p = unwrap_or (position (λ m. list_all (λ other. nat_le (distance p m) (distance p other)) means) means) 0

-- what the point with this number emits; and what all points do
abbrev pub kmeans_emits : List Point → List Point → ℕ → List (Emission ℕ Point)
kmeans_emits means points i = let p = get_or points i [] in Pair (nearest means p) p ∷ []

abbrev pub kmeans_emissions : List Point → List Point → List (Emission ℕ Point)
kmeans_emissions means points = flat_map (kmeans_emits means points) (range_with_len 0 (length points))

-- a sum divided by a number of points, rounded down
abbrev pub floor_div : ℤ → ℤ → ℤ
floor_div sum count = int_div_euclid sum count

-- the mean of the points whose number and sums are these, or the old mean where there are none
abbrev pub mean_of : Point → Answer → Point
mean_of old [] = old
mean_of old (count ∷ sums) = map (λ sum. floor_div sum count) sums

abbrev pub next_means : List Point → List (Row ℕ) → List Point
next_means means rows = map (λ e. mean_of e.1 (answer_at rows e.0)) (enumerate_from 0 means)

abbrev pub means_eq : List Point → List Point → Bool
means_eq = eq_by_cmp (slice_cmp (slice_cmp int_cmp))

-- a line for each cluster: its number, how many points it has and its mean
abbrev pub kmeans_text : List Point → List (Row ℕ) → List ℕ
kmeans_text means rows =
    flat_map (λ e. line (decimal e.0 ++ flat_map spaced (number_at rows e.0 ∷ e.1))) (enumerate_from 0 means)

-- the means of a round, and how many rounds there are from it on
pub record KMeansState : Type 0 where
  pub means : List Point
  pub left : ℕ

-- the first points are the first means
abbrev pub kmeans_first : ℕ → ℕ → List Point → KMeansState
kmeans_first clusters rounds points = record { means = take clusters points; left = rounds }

-- a round whose new means are its own is the last
abbrev pub kmeans_next : KMeansState → List (Row ℕ) → Next KMeansState
kmeans_next state rows =
    let means = next_means state.means rows in
    if means_eq means state.means || nat_le state.left 1
    then ended (kmeans_text means rows)
    else again (record { means = means; left = state.left - 1 })
