-- The rows of the sums of a grid's columns: there is one for each column, and none is larger than its elements can add up to.
use Rattle.std.proofs.Common.{◌≡◌, ◌≤◌, ◌<◌, ◌+◌, ◌*◌, ℕ, zero, suc, ℤ, pos, nat_abs, Bool, true, false, not, cond, List, [], ◌∷◌, ◌++◌}
use Rattle.std.proofs.Common.{length, map, filter, Option, Some, None, is_none, refl, sym, ap, ap₂, subst, ◌∙◌, arith}
use Rattle.std.specs.Prelude.{nat_le, get_or, flat_map, fold, option_map, IfSome}
use Rattle.std.specs.BTreeSet.{insert_key}
use Rattle.std.specs.Cmp.{ranked, unsigned_tied}
use Rattle.std.specs.List.{All, filter_map, cons_option, enumerate_from, range_with_len}
use Rattle.std.specs.Option.{option_or}
use Rattle.std.specs.Ordering.{nat_cmp, eq_by_cmp, match_ordering, MatchOrdering}
use Rattle.std.specs.declared.cmp.Ordering.{Ordering}
use Rattle.std.specs.declared.cmp.Ordering.TheVariants.{Less, Equal, Greater}
use Rattle.std.proofs.lemmas.Bool.{le-leb, eqb-true}
use Rattle.std.proofs.lemmas.List.Elements.{All-append, All-cons, All-nil, All-head, All-tail, All-get_or, filter-append, filter_map-append}
use Rattle.std.proofs.lemmas.List.Sums.{fold-append, sum_by-cons, sum_by-append}
use Rattle.std.proofs.lemmas.List.FromFn.{length-range_with_len}
use Rattle.mr_defs.specs.Commutative.{joined}
use Rattle.mr_defs.specs.Emission.{Emission, Pair, Row}
use Rattle.mr_defs.specs.Faulty.{Noted, fault_of, faults_of, first_of}
use Rattle.mr_defs.specs.declared.Fault.TheVariants as fault
use Rattle.mr_defs.specs.Folded.{limit, magnitude, total, sum_folded}
use Rattle.mr_defs.specs.Keyed.{at, any_key, ascending, keys_inside, least, lesser, pair_key, value_at}
use Rattle.mr_defs.specs.Limits.{greatest_element, input_limit}
use Rattle.mr_defs.specs.Rows.{rows_of}
use Rattle.mr_items.specs.Grid.{columns_of}
use Rattle.mr_items.specs.Pca.{column_emits, column_emissions}
use Rattle.mr_numeric.proofs.SumsOf.{sum_small}
use Rattle.mr_numeric.proofs.SumRows.{all_given}
use Rattle.mr_numeric.specs.Grids.{IsEven}
use Rattle.mr_numeric.specs.Sums.{IsColumnSum}

filter_map-flat_map : {I X Y : Type 0} (h : X → Option Y) (f : I → List X) (is : List I)
    → filter_map h (flat_map f is) ≡ flat_map (λ i. filter_map h (f i)) is
filter_map-flat_map h f [] = refl
filter_map-flat_map h f (i ∷ is) =
    filter_map-append h (f i) (flat_map f is) ∙ ap (λ l. filter_map h (f i) ++ l) (filter_map-flat_map h f is)

-- a row's elements from number a on, as they are emitted
abbrev emitted_from : ℕ → List ℤ → List (Emission ℕ ℤ)
emitted_from a row = map (λ e. Pair e.0 e.1) (enumerate_from a row)

module _ (k : ℕ) where
  -- a row's value for a key
  abbrev values : ℕ → List ℤ → List ℤ
  values a row = filter_map (value_at nat_cmp k) (emitted_from a row)

  is_here : (a : ℕ) → eq_by_cmp nat_cmp k a ≡ true → k ≡ a
  is_here a e = eqb-true k a (sym (unsigned_tied k a) ∙ e)

  later : (a : ℕ) (row : List ℤ) → k < a → magnitude (values a row) ≡ 0
  later a [] below = refl
  later a (z ∷ zs) below = by (later (a + 1) zs (omega (arith, below))) (eq_by_cmp nat_cmp k a) refl
    where
      by : magnitude (values (a + 1) zs) ≡ 0 → (t : Bool) → eq_by_cmp nat_cmp k a ≡ t
          → magnitude (cons_option (cond t (Some z) None) (values (a + 1) zs)) ≡ 0
      by rest true e = absurd (omega (arith, below, is_here a e))
      by rest false e = rest

  one_value : (a : ℕ) (row : List ℤ) → All (λ z. nat_abs z ≤ greatest_element) row → magnitude (values a row) ≤ greatest_element
  one_value a [] small = omega arith
  one_value a (z ∷ zs) small =
      by (one_value (a + 1) zs (All-tail (λ z. nat_abs z ≤ greatest_element) z zs small)) (eq_by_cmp nat_cmp k a) refl
    where
      by : magnitude (values (a + 1) zs) ≤ greatest_element → (t : Bool) → eq_by_cmp nat_cmp k a ≡ t
          → magnitude (cons_option (cond t (Some z) None) (values (a + 1) zs)) ≤ greatest_element
      by rest true e =
          omega (
            arith,
            sum_by-cons nat_abs z (values (a + 1) zs),
            later (a + 1) zs (omega (arith, is_here a e)),
            All-head (λ z. nat_abs z ≤ greatest_element) z zs small,
          )
      by rest false e = rest

  -- the values of so many rows
  all_values : (grid : List (List ℤ)) → All (All (λ z. nat_abs z ≤ greatest_element)) grid → (a n : ℕ) → a + n ≤ length grid
      → magnitude (flat_map (λ i. values 0 (get_or grid i [])) (range_with_len a n)) ≤ greatest_element * n
  all_values grid small a zero inside = omega arith
  all_values grid small a (suc n) inside =
      omega (
        arith,
        sum_by-append nat_abs (values 0 (get_or grid a [])) (flat_map (λ i. values 0 (get_or grid i [])) (range_with_len (a + 1) n)),
        one_value 0 (get_or grid a []) (All-get_or (All (λ z. nat_abs z ≤ greatest_element)) grid a [] (omega (arith, inside)) small),
        all_values grid small (a + 1) n (omega (arith, inside)),
      )

  column_small : (grid : List (List ℤ)) → All (All (λ z. nat_abs z ≤ greatest_element)) grid
      → magnitude (at nat_cmp (column_emissions grid) k) ≤ greatest_element * length grid
  column_small grid small =
      subst (λ vs. magnitude vs ≤ greatest_element * length grid)
      (sym (filter_map-flat_map (value_at nat_cmp k) (column_emits grid) (range_with_len 0 (length grid))))
      (all_values grid small 0 (length grid) (omega arith))

-- the row of a key
column_row : (k points : ℕ) (vs : List ℤ) → 1 ≤ points → magnitude vs ≤ greatest_element * points
    → IfSome (option_map (λ a. (k, a)) (sum_folded vs)) (IsColumnSum points)
column_row k points vs some small = by (nat_le (magnitude vs) limit)
  where
    by : (b : Bool) → IfSome (option_map (λ a. (k, a)) (cond b (Some (total vs ∷ [])) None)) (IsColumnSum points)
    by true = record { one = refl; some = some; small = omega (arith, sum_small (pos 0) vs, small) }
    by false = tt

-- of a grid as it was read
pub are_column_sums : (inside : ℕ → Bool) (grid : List (List ℤ)) → IsEven grid
    → All (IsColumnSum (length grid)) (rows_of nat_cmp inside sum_folded (column_emissions grid))
are_column_sums inside [] even = All-nil (IsColumnSum 0)
are_column_sums inside (r ∷ rs) even =
    let grid = r ∷ rs in
    let es = column_emissions grid in
    all_given (IsColumnSum (length grid)) (λ k. option_map (λ a. (k, a)) (sum_folded (at nat_cmp es k)))
    (λ k. column_row k (length grid) (at nat_cmp es k) (omega arith) (column_small k grid even.small)) (keys_inside nat_cmp inside es)

-- a key put among those from a on
key_there : (a n k : ℕ) → a ≤ k → k < a + n → insert_key nat_cmp (range_with_len a n) k ≡ range_with_len a n
key_there a zero k from below = absurd (omega (arith, from, below))
key_there a (suc n) k from below =
    by (nat_cmp k a) (ranked k a (nat_cmp k a) refl) (λ later. key_there (a + 1) n k later (omega (arith, below)))
  where
    by : (r : Ordering) → MatchOrdering r (k < a) (k ≡ a) (a < k)
        → (a + 1 ≤ k → insert_key nat_cmp (range_with_len (a + 1) n) k ≡ range_with_len (a + 1) n)
        → match_ordering r (k ∷ a ∷ range_with_len (a + 1) n) (a ∷ range_with_len (a + 1) n)
        (a ∷ insert_key nat_cmp (range_with_len (a + 1) n) k) ≡ a ∷ range_with_len (a + 1) n
    by Less h rest = absurd (omega (arith, from, h))
    by Equal h rest = refl
    by Greater h rest = ap (λ l. a ∷ l) (rest (omega (arith, h)))

key_next : (a n : ℕ) → insert_key nat_cmp (range_with_len a n) (a + n) ≡ range_with_len a (suc n)
key_next a zero = let same : a + 0 ≡ a = omega arith in ap (λ k. k ∷ []) same
key_next a (suc n) = by (nat_cmp (a + suc n) a) (ranked (a + suc n) a (nat_cmp (a + suc n) a) refl) (key_next (a + 1) n)
  where
    by : (r : Ordering) → MatchOrdering r (a + suc n < a) (a + suc n ≡ a) (a < a + suc n)
        → insert_key nat_cmp (range_with_len (a + 1) n) ((a + 1) + n) ≡ range_with_len (a + 1) (suc n)
        → match_ordering r ((a + suc n) ∷ (a ∷ range_with_len (a + 1) n)) (a ∷ range_with_len (a + 1) n)
        (a ∷ insert_key nat_cmp (range_with_len (a + 1) n) (a + suc n))
        ≡ a ∷ range_with_len (a + 1) (suc n)
    by Less h rest = absurd (omega (arith, h))
    by Equal h rest = absurd (omega (arith, h))
    by Greater h rest = let same : a + suc n ≡ (a + 1) + n = omega arith in
        ap (λ k. a ∷ insert_key nat_cmp (range_with_len (a + 1) n) k) same ∙ ap (λ l. a ∷ l) rest

-- the keys of a first row, and of further ones of the same length
first_keys : (m n : ℕ) → fold (insert_key nat_cmp) (range_with_len 0 m) (range_with_len m n) ≡ range_with_len 0 (m + n)
first_keys m zero = let same : m ≡ m + 0 = omega arith in ap (range_with_len 0) same
first_keys m (suc n) =
    let same : (m + 1) + n ≡ m + suc n = omega arith in
    let here : m ≡ 0 + m = omega arith in
    let next : suc m ≡ m + 1 = omega arith in
    ap (λ l. fold (insert_key nat_cmp) l (range_with_len (m + 1) n))
    (ap (insert_key nat_cmp (range_with_len 0 m)) here ∙ key_next 0 m ∙ ap (range_with_len 0) next)
    ∙ first_keys (m + 1) n ∙ ap (range_with_len 0) same

same_keys : (c : ℕ) (ks : List ℕ) → All (λ k. k < c) ks → fold (insert_key nat_cmp) (range_with_len 0 c) ks ≡ range_with_len 0 c
same_keys c [] below = refl
same_keys c (k ∷ ks) below =
    ap (λ l. fold (insert_key nat_cmp) l ks) (key_there 0 c k (omega arith) (omega (arith, All-head (λ k. k < c) k ks below)))
    ∙ same_keys c ks (All-tail (λ k. k < c) k ks below)

range_below : (a n m : ℕ) → a + n ≤ m → All (λ k. k < m) (range_with_len a n)
range_below a zero m inside = All-nil (λ k. k < m)
range_below a (suc n) m inside =
    All-cons (λ k. k < m) a (range_with_len (a + 1) n) (omega (arith, inside)) (range_below (a + 1) n m (omega (arith, inside)))

-- so many rows of keys below c
abbrev rows_of_keys : ℕ → ℕ → ℕ → List ℕ
rows_of_keys c a n = flat_map (λ i. range_with_len 0 c) (range_with_len a n)

keys_below : (c a n : ℕ) → All (λ k. k < c) (rows_of_keys c a n)
keys_below c a zero = All-nil (λ k. k < c)
keys_below c a (suc n) =
    All-append (λ k. k < c) (range_with_len 0 c) (rows_of_keys c (a + 1) n) (range_below 0 c c (omega arith)) (keys_below c (a + 1) n)

-- the different ones of them
ascending_keys : (c n : ℕ) → ascending nat_cmp (rows_of_keys c 0 (suc n)) ≡ range_with_len 0 c
ascending_keys c n =
    let same : 0 + c ≡ c = omega arith in
    fold-append (insert_key nat_cmp) [] (range_with_len 0 c) (rows_of_keys c 1 n)
    ∙ ap (λ l. fold (insert_key nat_cmp) l (rows_of_keys c 1 n)) (first_keys 0 c ∙ ap (range_with_len 0) same)
    ∙ same_keys c (rows_of_keys c 1 n) (keys_below c 1 n)

-- what tells the keys of pairs
module _ (h : Emission ℕ ℤ → Option ℕ) (is : (k : ℕ) (v : ℤ) → h (Pair k v) ≡ Some k) where
  row_keys : (a : ℕ) (row : List ℤ) → filter_map h (emitted_from a row) ≡ range_with_len a (length row)
  row_keys a [] = refl
  row_keys a (z ∷ zs) = ap (λ o. cons_option o (filter_map h (emitted_from (a + 1) zs))) (is a z) ∙ ap (λ l. a ∷ l) (row_keys (a + 1) zs)

  grid_keys : (grid : List (List ℤ)) (c : ℕ) → All (λ row. length row ≡ c) grid → (a n : ℕ) → a + n ≤ length grid
      → filter_map h (flat_map (column_emits grid) (range_with_len a n)) ≡ rows_of_keys c a n
  grid_keys grid c even a zero inside = refl
  grid_keys grid c even a (suc n) inside =
      filter_map-append h (column_emits grid a) (flat_map (column_emits grid) (range_with_len (a + 1) n))
      ∙ ap₂ (λ l r. l ++ r)
      (row_keys 0 (get_or grid a []) ∙ ap (range_with_len 0) (All-get_or (λ row. length row ≡ c) grid a [] (omega (arith, inside)) even))
      (grid_keys grid c even (a + 1) n (omega (arith, inside)))

-- where nothing is outside
no_outside : (noted : Noted ℕ) → first_of noted ≡ None → noted.outside ≡ None
no_outside noted e = by noted.malformed noted.outside e
  where
    by : (m : Option ℕ) (o : Option ℕ)
        → option_or (option_map fault.Malformed m)
        (option_or (option_map fault.Outside o) (option_or (option_map fault.Twice noted.twice) (option_map fault.Over noted.over))) ≡ None
        → o ≡ None
    by (Some m) o k = absurd (cc)
    by None None k = refl
    by None (Some o) k = absurd (cc)

none_least : (ks : List ℕ) → least nat_cmp ks ≡ None → ks ≡ []
none_least [] e = refl
none_least (k ∷ ks) e = absurd (by (least nat_cmp ks) e)
  where
    by : (o : Option ℕ) → joined (lesser nat_cmp) (Some k) o ≡ None → ⊥
    by None e = absurd (cc)
    by (Some x) e = absurd (cc)

first_nil : (xs ys : List ℕ) → xs ++ ys ≡ [] → xs ≡ []
first_nil [] ys e = refl
first_nil (x ∷ xs) ys e = absurd (cc)

all_inside : (inside : ℕ → Bool) (xs : List ℕ) → filter (λ k. not (inside k)) xs ≡ [] → filter inside xs ≡ xs
all_inside inside [] e = refl
all_inside inside (x ∷ xs) e = by (inside x) (all_inside inside xs) e
  where
    by : (b : Bool) → (filter (λ k. not (inside k)) xs ≡ [] → filter inside xs ≡ xs)
        → cond (not b) (x ∷ filter (λ k. not (inside k)) xs) (filter (λ k. not (inside k)) xs) ≡ []
        → cond b (x ∷ filter inside xs) (filter inside xs) ≡ x ∷ xs
    by true rest k = ap (λ l. x ∷ l) (rest k)
    by false rest k = absurd (cc)

length_given : {X Y : Type 0} (f : X → Option Y) → ((x : X) → is_none (f x) ≡ false) → (xs : List X) → length (filter_map f xs) ≡ length xs
length_given f h [] = refl
length_given f h (x ∷ xs) = by (f x) (h x) (length_given f h xs)
  where
    by : (o : Option _) → is_none o ≡ false → length (filter_map f xs) ≡ length xs
        → length (cons_option o (filter_map f xs)) ≡ suc (length xs)
    by None none rest = absurd (cc)
    by (Some y) none rest = ap suc rest

sum_there : (k : ℕ) (vs : List ℤ) → magnitude vs ≤ limit → is_none {T = Row ℕ} (option_map (λ a. (k, a)) (sum_folded vs)) ≡ false
sum_there k vs small =
    ap (λ b. is_none {T = Row ℕ} (option_map (λ a. (k, a)) (cond b (Some (total vs ∷ [])) None))) (le-leb (magnitude vs) limit small)

-- there is a row for each column
pub column_count : (inside : ℕ → Bool) (grid : List (List ℤ)) → IsEven grid → length grid ≤ input_limit
    → fault_of nat_cmp inside sum_folded (column_emissions grid) ≡ None
    → length (rows_of nat_cmp inside sum_folded (column_emissions grid)) ≡ columns_of grid
column_count inside [] even few sound = refl
column_count inside (r ∷ rs) even few sound =
    let grid = r ∷ rs in
    let es = column_emissions grid in
    let c = columns_of grid in
    let n = length rs in
    let outside = none_least _ (no_outside (faults_of nat_cmp inside sum_folded es) sound) in
    let here = first_nil (filter (λ k. not (inside k)) (range_with_len 0 c)) (filter (λ k. not (inside k)) (rows_of_keys c 1 n))
    (sym (filter-append (λ k. not (inside k)) (range_with_len 0 c) (rows_of_keys c 1 n))
    ∙ ap (filter (λ k. not (inside k))) (sym (grid_keys any_key (λ k v. refl) grid c even.even 0 (suc n) (omega arith))) ∙ outside) in
    let keyed : keys_inside nat_cmp inside es ≡ range_with_len 0 c =
    ap (λ ks. filter inside (ascending nat_cmp ks)) (grid_keys pair_key (λ k v. refl) grid c even.even 0 (suc n) (omega arith))
    ∙ ap (filter inside) (ascending_keys c n) ∙ all_inside inside (range_with_len 0 c) here in
    length_given (λ k. option_map (λ a. (k, a)) (sum_folded (at nat_cmp es k)))
    (λ k. sum_there k (at nat_cmp es k) (omega (arith, few, column_small k grid even.small))) (keys_inside nat_cmp inside es)
    ∙ ap length keyed ∙ length-range_with_len 0 c
