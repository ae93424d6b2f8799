-- The edges of the runs of a list, read off block by block.
use Rattle.std.proofs.Common.{◌≡◌, ◌≤◌, ◌<◌, ◌+◌, ◌-◌, ◌*◌, ◌/◌, ◌%◌, ◌^◌, ◌==◌, ◌&&◌, ◌||◌, ℕ, zero, suc, Bool, true, false, not, cond}
use Rattle.std.proofs.Common.{List, [], ◌∷◌, ◌++◌, length, take, drop, map, get_or, bit_and, bit_xor, refl, sym, ap, ap₂, ◌∙◌, arith}
use Rattle.std.specs.List.{prefix_len, range_with_len}
use Rattle.std.specs.Prelude.{filter, flat_map, slice_range}
use Rattle.std.specs.Simd.Lanes.{mask_l, zip2}
use Rattle.std.proofs.Math.Seq.{take-add}
use Rattle.std.proofs.lemmas.Bool.{ne_eqb}
use Rattle.std.proofs.lemmas.List.{drop_more, drop-drop, length-take, length-take-le, length-map, take-map, take-take, map-append}
use Rattle.std.proofs.lemmas.List.{length-drop}
use Rattle.std.proofs.lemmas.List.Sums.{prefix_len-le-length}
use Rattle.std.proofs.lemmas.Nat.{and_mask}
use Rattle.std.proofs.lemmas.Nat.Bits.{ones_shr, shr_and_one}
use Rattle.std.proofs.lemmas.Simd.{bit_mask_l}
use Rattle.mr_items.specs.Runs.{begins, run_at}
use Rattle.mr_kernels.specs.Edges.{bits, set_places, run_edges}
use Rattle.mr_kernels.proofs.Bits.{differs, changes, few_places, same_places}

-- the edges of a list of bits from a place on, where the bit before it was this
abbrev pub edges_from : Bool → ℕ → List Bool → List ℕ
edges_from before k [] = cond before (k ∷ []) []
edges_from before k (b ∷ bs) = cond (differs b before) (k ∷ edges_from b (k + 1) bs) (edges_from b (k + 1) bs)

-- the last bit of a list, or the one before it
abbrev pub last_of : Bool → List Bool → Bool
last_of before [] = before
last_of before (b ∷ bs) = last_of b bs

-- the edges of a block, and then those of the rest
pub block : (c : Bool) (k : ℕ) (bs rest : List Bool)
    → edges_from c k (bs ++ rest) ≡ set_places k (zip2 differs bs (c ∷ bs)) ++ edges_from (last_of c bs) (k + length bs) rest
block c k [] rest = ap (λ j. edges_from c j rest) (omega arith)
block c k (b ∷ bs) rest =
    let here : k + 1 + length bs ≡ k + suc (length bs) = omega arith in
    by _ _ _ (differs b c)
    (block b (k + 1) bs rest ∙ ap (λ j. set_places (k + 1) (zip2 differs bs (b ∷ bs)) ++ edges_from (last_of b bs) j rest) here)
  where
    by : (S R E : List ℕ) (d : Bool) → E ≡ S ++ R → cond d (k ∷ E) E ≡ cond d (k ∷ S) S ++ R
    by S R E true e = ap (λ es. k ∷ es) e
    by S R E false e = e

last_of-take : (c : Bool) (bs : List Bool) (n : ℕ) → n < length bs → last_of c (take (suc n) bs) ≡ get_or bs n false
last_of-take c [] n h = absurd (omega (arith, h))
last_of-take c (b ∷ bs) zero h = refl
last_of-take c (b ∷ bs) (suc n) h = last_of-take b bs n (omega (arith, h))

-- the last bit of a front, read off the mask
pub last_bit : (c : Bool) (bs : List Bool) (n : ℕ) → 0 < n → n ≤ length bs → mask_l bs / 2 ^ (n - 1) % 2 ≡ cond (last_of c (take n bs)) 1 0
last_bit c bs n some inside =
    let whole : suc (n - 1) ≡ n = omega (arith, some) in
    bit_mask_l bs (n - 1)
    ∙ ap (λ b. cond b 1 0) (sym (last_of-take c bs (n - 1) (omega (arith, some, inside))) ∙ ap (λ m. last_of c (take m bs)) whole)

pub is_bit : (b : Bool) → (cond b 1 0 == 1) ≡ b
is_bit true = refl
is_bit false = refl

module _ (test : ℕ → Bool) (xs : List ℕ) where
  abbrev before : ℕ → Bool
  before k = not (k == 0) && test (get_or xs (k - 1) 0)

  abbrev pair : ℕ → List ℕ
  pair p = p ∷ (p + length (run_at test xs p)) ∷ []

  abbrev open_run : Bool → ℕ → List ℕ
  open_run b k = cond b ((k + prefix_len test (drop k xs)) ∷ []) []

  begins_at : (k : ℕ) (t b : Bool) → t ≡ test (get_or xs k 0) → b ≡ before k → begins test xs k ≡ (t && not b)
  begins_at k t b e f = go (k == 0) (test (get_or xs k 0)) (test (get_or xs (k - 1) 0)) ∙ ap₂ (λ x y. x && not y) (sym e) (sym f)
    where
      go : (z x y : Bool) → (x && (z || not y)) ≡ (x && not (not z && y))
      go true true y = refl
      go true false y = refl
      go false x y = refl

  run_length : (k : ℕ) → length (run_at test xs k) ≡ prefix_len test (drop k xs)
  run_length k = length-take-le (prefix_len test (drop k xs)) (drop k xs) (prefix_len-le-length test (drop k xs))

  step : (t b : Bool) (k next size : ℕ) (R : List ℕ) → prefix_len test (drop k xs) ≡ cond t (1 + size) 0 → next ≡ k + 1 + size
      → cond (differs t b) (k ∷ (cond t (next ∷ []) [] ++ flat_map pair R)) (cond t (next ∷ []) [] ++ flat_map pair R)
      ≡ open_run b k ++ flat_map pair (cond (t && not b) (k ∷ R) R)
  step true true k next size R e f = ap (λ j. j ∷ flat_map pair R) (omega (arith, e, f))
  step true false k next size R e f = ap (λ j. k ∷ j ∷ flat_map pair R) (let l = run_length k in omega (arith, e, f, l))
  step false true k next size R e f = ap (λ j. j ∷ flat_map pair R) (omega (arith, e))
  step false false k next size R e f = refl

  from_place : (n k : ℕ) (b : Bool) → k + n ≡ length xs → b ≡ before k
      → edges_from b k (map test (drop k xs)) ≡ open_run b k ++ flat_map pair (filter (begins test xs) (range_with_len k n))
  from_place zero k b whole is = rw (all) (by b)
    where
      all : drop k xs ≡ []
      all = none (drop k xs) (omega (arith, length-drop k xs, whole))
        where
          none : (ys : List ℕ) → length ys ≡ 0 → ys ≡ []
          none [] e = refl
          none (y ∷ ys) e = absurd (omega (arith, e))

      by : (c : Bool) → cond c (k ∷ []) [] ≡ cond c ((k + 0) ∷ []) [] ++ []
      by true = ap (λ j. j ∷ []) (omega arith)
      by false = refl
  from_place (suc n) k b whole is =
      let first : drop k xs ≡ get_or xs k 0 ∷ drop (k + 1) xs = drop_more xs k 0 (omega (arith, whole)) in
      let t = test (get_or xs k 0) in
      let later : edges_from t (k + 1) (map test (drop (k + 1) xs))
      ≡ open_run t (k + 1) ++ flat_map pair (filter (begins test xs) (range_with_len (k + 1) n)) =
      from_place n (k + 1) t (omega (arith, whole)) (behind k) in
      let rest = filter (begins test xs) (range_with_len (k + 1) n) in
      ap (λ ys. edges_from b k (map test ys)) first
      ∙ ap (λ es. cond (differs t b) (k ∷ es) es) later
      ∙ step t b k (k + 1 + prefix_len test (drop (k + 1) xs)) (prefix_len test (drop (k + 1) xs)) rest (ap (prefix_len test) first) refl
      ∙ ap (λ c. open_run b k ++ flat_map pair (cond c (k ∷ rest) rest)) (sym (begins_at k t b refl is))
    where
      behind : (j : ℕ) → test (get_or xs j 0) ≡ before (j + 1)
      behind j =
          let some : (j + 1 == 0) ≡ false = ne_eqb (j + 1) 0 (λ z. omega arith) in
          let same : j + 1 - 1 ≡ j = omega arith in
          sym (ap₂ (λ z i. not z && test (get_or xs i 0)) some same)

  -- the edges are those of the runs
  pub edges_of_runs : edges_from false 0 (map test xs) ≡ run_edges test xs
  edges_of_runs = from_place (length xs) 0 false (omega arith) refl

-- a stretch of a text: its first bytes, and the rest
pub stretch_split : (xs : List ℕ) (at size to : ℕ) → at + size ≤ to
    → slice_range xs at to ≡ take size (drop at xs) ++ slice_range xs (at + size) to
stretch_split xs at size to h =
    let whole : to - at ≡ size + (to - (at + size)) = omega (arith, h) in
    ap (λ n. take n (drop at xs)) whole ∙ take-add size (to - (at + size)) (drop at xs)
    ∙ ap (λ ys. take size (drop at xs) ++ take (to - (at + size)) ys) (drop-drop size at xs)

short_zip : (bs : List Bool) (c : Bool) → length (zip2 differs bs (c ∷ bs)) ≤ length bs
short_zip [] c = omega arith
short_zip (b ∷ bs) c = let h = short_zip bs b in omega (arith, h)

-- one block of a stretch, as its mask shows it: the places of its changes, how many there are, and the edges behind them
module _ (test : ℕ → Bool) (xs : List ℕ) (base at to size mask before : ℕ) (some : 0 < size) (few : size ≤ 64) (order : at + size ≤ to)
    (inside : to ≤ length xs) (mask_is : mask ≡ mask_l (map test (take 64 (drop at xs)))) (bit : before ≤ 1) where
  abbrev pub changed : ℕ
  changed = bit_and (bit_xor mask (mask * 2 % 2 ^ 64 + before)) ((2 ^ 64 - 1) / 2 ^ (64 - size))

  abbrev pub last : ℕ
  last = bit_and (mask / 2 ^ (size - 1)) 1

  abbrev all : List Bool
  all = map test (take 64 (drop at xs))

  abbrev these : List Bool
  these = map test (take size (drop at xs))

  fronted : take size all ≡ these
  fronted = take-map test size (take 64 (drop at xs)) ∙ ap (map test) (take-take size 64 (drop at xs) few)

  enough : size ≤ length all
  enough = omega (arith, length-map (take 64 (drop at xs)) test, length-take 64 (drop at xs), length-drop at xs, order, inside, few)

  length-these : length these ≡ size
  length-these = ap length (sym fronted) ∙ length-take-le size all enough

  carried : before ≡ cond (before == 1) 1 0
  carried = by before bit
    where
      by : (n : ℕ) → n ≤ 1 → n ≡ cond (n == 1) 1 0
      by zero h = refl
      by (suc zero) h = refl
      by (suc (suc n)) h = absurd (omega (arith, h))

  changed_is : changed ≡ mask_l (zip2 differs these ((before == 1) ∷ these))
  changed_is =
      let kept : (2 ^ 64 - 1) / 2 ^ (64 - size) ≡ 2 ^ size - 1 =
      ones_shr 64 (64 - size) (omega arith) ∙ ap (λ n. 2 ^ n - 1) (omega (arith, few)) in
      ap (bit_and (bit_xor mask (mask * 2 % 2 ^ 64 + before))) kept
      ∙ and_mask (bit_xor mask (mask * 2 % 2 ^ 64 + before)) size
      ∙ ap₂ (λ m b. bit_xor m (m * 2 % 2 ^ 64 + b) % 2 ^ size) mask_is carried
      ∙ changes (before == 1) all size enough few
      ∙ ap (λ bs. mask_l (zip2 differs bs ((before == 1) ∷ bs))) fronted

  noted : set_places base (bits 64 changed) ≡ set_places base (zip2 differs these ((before == 1) ∷ these))
  noted = ap (λ m. set_places base (bits 64 m)) changed_is
      ∙ same_places 64 base (zip2 differs these ((before == 1) ∷ these)) (omega (arith, short_zip these (before == 1), length-these, few))

  pub few_noted : length (set_places base (bits 64 changed)) ≤ size
  few_noted = omega
      (arith, ap length noted, few_places base (zip2 differs these ((before == 1) ∷ these)), short_zip these (before == 1), length-these)

  last_is : last ≡ cond (last_of (before == 1) these) 1 0
  last_is = shr_and_one mask (size - 1) ∙ ap (λ m. m / 2 ^ (size - 1) % 2) mask_is ∙ last_bit (before == 1) all size some enough
      ∙ ap (λ bs. cond (last_of (before == 1) bs) 1 0) fronted

  pub next_block : edges_from (before == 1) base (map test (slice_range xs at to))
      ≡ set_places base (bits 64 changed) ++ edges_from (last == 1) (base + size) (map test (slice_range xs (at + size) to))
  next_block =
      ap (λ ys. edges_from (before == 1) base (map test ys)) (stretch_split xs at size to order)
      ∙ ap (edges_from (before == 1) base) (map-append test (take size (drop at xs)) (slice_range xs (at + size) to))
      ∙ block (before == 1) base these (map test (slice_range xs (at + size) to))
      ∙ ap₂ (λ es n. es ++ edges_from (last_of (before == 1) these) (base + n) (map test (slice_range xs (at + size) to)))
      (sym noted) length-these
      ∙ ap (λ b. set_places base (bits 64 changed) ++ edges_from b (base + size) (map test (slice_range xs (at + size) to)))
      (sym (ap (λ n. n == 1) last_is ∙ is_bit (last_of (before == 1) these)))

-- behind the last block the end is an edge where its last bit was set
pub at_end : (test : ℕ → Bool) (xs : List ℕ) (from at to before : ℕ) → at ≡ to
    → edges_from (before == 1) (at - from) (map test (slice_range xs at to)) ≡ cond (before == 1) ((to - from) ∷ []) []
at_end test xs from at to before e =
    let none : to - to ≡ 0 = omega arith in
    ap (λ k. edges_from (before == 1) (k - from) (map test (slice_range xs k to))) e
    ∙ ap (λ n. edges_from (before == 1) (to - from) (map test (take n (drop to xs)))) none
