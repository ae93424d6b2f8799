-- The rows of a round over the points of a grid: each has one or more points, and sums that so many can have.
use Rattle.std.proofs.Common.{inl, inr, ◌≡◌, ◌≤◌, ◌+◌, ◌*◌, ℕ, zero, suc, ℤ, pos, nat_abs, Bool, true, false, cond, List, [], ◌∷◌, length}
use Rattle.std.proofs.Common.{map, max, Option, Some, None, refl, ap, ◌∙◌, arith}
use Rattle.std.specs.Prelude.{nat_le, get_or, flat_map, fold, option_map, IfSome, ◌&&◌}
use Rattle.std.specs.BTreeSet.{insert_key}
use Rattle.std.specs.Cmp.{unsigned_tied}
use Rattle.std.specs.List.{All, filter_map, cons_option, list_all, range_with_len}
use Rattle.std.specs.Ordering.{nat_cmp, eq_by_cmp, match_ordering}
use Rattle.std.specs.declared.cmp.Ordering.{Ordering}
use Rattle.std.specs.declared.cmp.Ordering.TheVariants.{Less, Equal, Greater}
use Rattle.std.proofs.lemmas.Bool.{cases_lt}
use Rattle.std.proofs.lemmas.Bool.Decides.{Decides-eqb}
use Rattle.std.proofs.lemmas.Int.{ints}
use Rattle.std.proofs.lemmas.List.{get_or_past, length-map}
use Rattle.std.proofs.lemmas.List.Elements.{All-cons, All-nil, All-head, All-tail, All-get_or, All-filter, All-map, All-weaker}
use Rattle.std.proofs.lemmas.List.FromFn.{length-map-range_with_len}
use Rattle.std.proofs.lemmas.List.Sums.{sum_by-le}
use Rattle.mr_defs.specs.Emission.{Emission, Pair, TooLarge, Malformed, Row}
use Rattle.mr_defs.specs.Folded.{limit, magnitude, total, coordinates, dimension, vecsum_folded}
use Rattle.mr_defs.specs.Keyed.{at, ascending, keys_inside, pair_key, value_at}
use Rattle.mr_defs.specs.Limits.{greatest_element}
use Rattle.mr_defs.specs.Rows.{rows_of}
use Rattle.mr_items.specs.Grid.{columns_of}
use Rattle.mr_items.specs.KMeans.{Point, kmeans_emits, kmeans_emissions, nearest}
use Rattle.mr_numeric.proofs.SumRows.{with_one}
use Rattle.mr_numeric.proofs.SumsOf.{sum_small}
use Rattle.mr_numeric.specs.Grids.{IsEven}
use Rattle.mr_numeric.specs.Sums.{HasPoints, IsCluster}

-- the different keys of a list have what all of it have
module _ {K : Type 0} (P : K → Type 0) (R : K → K → Ordering) where
  key_put : (k : K) (ks : List K) → P k → All P ks → All P (insert_key R ks k)
  key_put k [] is all = All-cons P k [] is all
  key_put k (x ∷ xs) is all = by (R k x) (key_put k xs is (All-tail P x xs all))
    where
      by : (r : Ordering) → All P (insert_key R xs k) → All P (match_ordering r (k ∷ x ∷ xs) (x ∷ xs) (x ∷ insert_key R xs k))
      by Less rest = All-cons P k (x ∷ xs) is all
      by Equal rest = all
      by Greater rest = All-cons P x (insert_key R xs k) (All-head P x xs all) rest

  keys_put : (ks acc : List K) → All P acc → All P ks → All P (fold (insert_key R) acc ks)
  keys_put [] acc there all = there
  keys_put (k ∷ ks) acc there all = keys_put ks (insert_key R acc k) (key_put k acc (All-head P k ks all) there) (All-tail P k ks all)

module _ {V : Type 0} where
  -- a key has a value
  abbrev HasValue : List (Emission ℕ V) → ℕ → Type 0
  HasValue es k = 1 ≤ length (at nat_cmp es k)

  here : (k : ℕ) (v : V) (es : List (Emission ℕ V)) → HasValue (Pair k v ∷ es) k
  here k v es = by (eq_by_cmp nat_cmp k k) (unsigned_tied k k ∙ (Decides-eqb k k).1 refl)
    where
      by : (b : Bool) → b ≡ true → 1 ≤ length (cons_option (cond b (Some v) None) (at nat_cmp es k))
      by true e = omega arith
      by false e = absurd (cc)

  later : (e : Emission ℕ V) (es : List (Emission ℕ V)) (k : ℕ) → HasValue es k → HasValue (e ∷ es) k
  later e es k has = by (value_at nat_cmp k e)
    where
      by : (o : Option V) → 1 ≤ length (cons_option o (at nat_cmp es k))
      by None = has
      by (Some v) = omega arith

  keys_have : (es : List (Emission ℕ V)) → All (HasValue es) (filter_map pair_key es)
  keys_have [] = All-nil (HasValue [])
  keys_have (e ∷ es) = by e (All-weaker (HasValue es) (HasValue (e ∷ es)) (later e es) (filter_map pair_key es) (keys_have es))
    where
      by : (e : Emission ℕ V) → All (HasValue (e ∷ es)) (filter_map pair_key es)
          → All (HasValue (e ∷ es)) (cons_option (pair_key e) (filter_map pair_key es))
      by (Pair k v) rest = All-cons (HasValue (Pair k v ∷ es)) k (filter_map pair_key es) (here k v es) rest
      by (TooLarge k) rest = rest
      by (Malformed o) rest = rest

  inside_have : (inside : ℕ → Bool) (es : List (Emission ℕ V)) → All (HasValue es) (keys_inside nat_cmp inside es)
  inside_have inside es =
      All-filter inside (HasValue es) (ascending nat_cmp (filter_map pair_key es))
      (keys_put (HasValue es) nat_cmp (filter_map pair_key es) [] (All-nil (HasValue es)) (keys_have es))

-- what is given has a property, where each that is given of these does
given_all : {X Y : Type 0} (P : Y → Type 0) (Q : X → Type 0) (f : X → Option Y) → ((x : X) → Q x → IfSome (f x) P) → (xs : List X)
    → All Q xs → All P (filter_map f xs)
given_all P Q f h [] all = All-nil P
given_all P Q f h (x ∷ xs) all =
    with_one P f (f x) (filter_map f xs) (h x (All-head Q x xs all)) (given_all P Q f h xs (All-tail Q x xs all))

-- points of so many coordinates of a grid
module _ (c : ℕ) where
  abbrev Fits : Point → Type 0
  Fits p = (length p ≡ c) × All (λ z. nat_abs z ≤ greatest_element) p

  no_longer : (points : List Point) → All Fits points → fold (λ n p. max n (length p)) c points ≡ c
  no_longer [] fit = refl
  no_longer (p ∷ ps) fit =
      let same : max c (length p) ≡ c = omega (arith, (All-head Fits p ps fit).0) in
      ap (λ n. fold (λ n p. max n (length p)) n ps) same ∙ no_longer ps (All-tail Fits p ps fit)

  dimension_is : (points : List Point) → 1 ≤ length points → All Fits points → dimension points ≡ c
  dimension_is [] some fit = absurd (omega (arith, some))
  dimension_is (p ∷ ps) some fit =
      let first : max 0 (length p) ≡ c = omega (arith, (All-head Fits p ps fit).0) in
      ap (λ n. fold (λ n p. max n (length p)) n ps) first ∙ no_longer ps (All-tail Fits p ps fit)

  coordinate_small : (j : ℕ) (p : Point) → Fits p → nat_abs (get_or p j (pos 0)) ≤ greatest_element
  coordinate_small j p fit = elim (cases_lt j (length p)) [
    | inl there ↦ All-get_or (λ z. nat_abs z ≤ greatest_element) p j (pos 0) there fit.1
    | inr past ↦ omega (arith, ap nat_abs (get_or_past p j (pos 0) past))
  ]

  total_small : (points : List Point) → All Fits points → (j : ℕ)
      → nat_abs (total (coordinates points j)) ≤ greatest_element * length points
  total_small points fit j =
      let each = All-map (λ z. nat_abs z ≤ greatest_element) (λ p. get_or p j (pos 0)) points
      (All-weaker Fits (λ p. nat_abs (get_or p j (pos 0)) ≤ greatest_element) (coordinate_small j) points fit) in
      omega (
        arith,
        sum_small (pos 0) (coordinates points j),
        sum_by-le nat_abs greatest_element (coordinates points j) each,
        length-map points (λ p. get_or p j (pos 0)),
      )

  cluster_row : (k : ℕ) (points : List Point) → 1 ≤ length points → All Fits points
      → IfSome (option_map (λ a. (k, a)) (vecsum_folded points)) (IsCluster c)
  cluster_row k points some fit =
      by (nat_le (length points) limit && list_all (λ j. nat_le (magnitude (coordinates points j)) limit) places)
    where
      places : List ℕ
      places = range_with_len 0 (dimension points)

      sums : List ℤ
      sums = map (λ j. total (coordinates points j)) places

      all_small : (js : List ℕ) → All (λ z. nat_abs z ≤ greatest_element * length points) (map (λ j. total (coordinates points j)) js)
      all_small [] = All-nil (λ z. nat_abs z ≤ greatest_element * length points)
      all_small (j ∷ js) = All-cons (λ z. nat_abs z ≤ greatest_element * length points) (total (coordinates points j))
          (map (λ j. total (coordinates points j)) js) (total_small points fit j) (all_small js)

      by : (b : Bool) → IfSome (option_map (λ a. (k, a)) (cond b (Some (pos (length points) ∷ sums)) None)) (IsCluster c)
      by true = record {
        some = grind (arith, ints, some);
        long = omega (
          arith,
          length-map-range_with_len (λ j. total (coordinates points j)) 0 (dimension points),
          dimension_is points some fit,
        );
        small = All-cons (λ z. nat_abs z ≤ greatest_element * length points) (pos (length points)) sums (omega arith) (all_small places);
      }
      by false = tt

  -- the points of a key
  module _ (means grid : List Point) (even : All Fits grid) (k : ℕ) where
    points_at : (a n : ℕ) → a + n ≤ length grid → All Fits (at nat_cmp (flat_map (kmeans_emits means grid) (range_with_len a n)) k)
    points_at a zero inside = All-nil Fits
    points_at a (suc n) inside = by (eq_by_cmp nat_cmp k (nearest means (get_or grid a []))) (points_at (a + 1) n (omega (arith, inside)))
      where
        by : (b : Bool) → All Fits (at nat_cmp (flat_map (kmeans_emits means grid) (range_with_len (a + 1) n)) k)
            → All Fits (cons_option (cond b (Some (get_or grid a [])) None)
            (at nat_cmp (flat_map (kmeans_emits means grid) (range_with_len (a + 1) n)) k))
        by true rest = All-cons Fits (get_or grid a []) (at nat_cmp (flat_map (kmeans_emits means grid) (range_with_len (a + 1) n)) k)
            (All-get_or Fits grid a [] (omega (arith, inside)) even) rest
        by false rest = rest

-- of a grid as it was read
pub are_clusters : (inside : ℕ → Bool) (means grid : List Point) → IsEven grid
    → All (IsCluster (columns_of grid)) (rows_of nat_cmp inside vecsum_folded (kmeans_emissions means grid))
are_clusters inside means grid even =
    let c = columns_of grid in
    let es = kmeans_emissions means grid in
    let fit : All (Fits c) grid = λ k d below. (even.even k d below, even.small k d below) in
    given_all (IsCluster c) (HasValue es) (λ k. option_map (λ a. (k, a)) (vecsum_folded (at nat_cmp es k)))
    (λ k some. cluster_row c k (at nat_cmp es k) some (points_at c means grid fit k 0 (length grid) (omega arith)))
    (keys_inside nat_cmp inside es) (inside_have inside es)

pub have_points : (c : ℕ) (rows : List (Row ℕ)) → All (IsCluster c) rows → All HasPoints rows
have_points c rows are = All-weaker (IsCluster c) HasPoints (λ row is. is.some) rows are
