-- The lines of means and of couples of columns, one after the other.
use Rattle.std.proofs.Common.{◌≡◌, ◌≤◌, ◌<◌, ◌+◌, ◌-◌, ◌*◌, ℕ, ℤ, pos, List, [], ◌∷◌, ◌++◌, length, get_or, map, sym, ap, ◌∙◌, append_assoc}
use Rattle.std.proofs.Common.{arith}
use Rattle.std.specs.Prelude.{flat_map, codes, decimal}
use Rattle.std.specs.List.{enumerate_from, range_with_len}
use Rattle.std.proofs.lemmas.List.FromFn.{get_or-enumerate_from, length-enumerate_from}
use Rattle.std.proofs.lemmas.List.Folds.{flat_map-map}
use Rattle.std.proofs.lemmas.Nat.{mul-le}
use Rattle.mr_defs.specs.Emission.{Row}
use Rattle.mr_items.specs.Pca.{mean_line, couple_line, column_couples}
use Rattle.mr_split.proofs.Numbered.{flat_map-numbered}
use Rattle.mr_numeric.specs.Couples.{column_lines, couple_text}
use Rattle.mr_items.specs.Texts.{fraction, line, number_at}
use Rattle.mr_numeric.proofs.Emitted.{emitted, flat_map-flat_map}
use Rattle.mr_numeric.proofs.Same.{all_numbers, flat_map-same, items-same}

-- the line of the mean at a place
abbrev pub mean_at : List ℤ → ℕ → List ℕ
mean_at means j = mean_line (get_or (enumerate_from 0 means) j (0, pos 0))

pub mean_here : (means : List ℤ) (j : ℕ) → j < length means → mean_line (j, get_or means j (pos 0)) ≡ mean_at means j
mean_here means j below = let same : 0 + j ≡ j = omega arith in
    ap mean_line (sym (get_or-enumerate_from 0 means j (0, pos 0) below ∙ ap (λ k. (k, get_or means j (pos 0))) same))

pub all_means : (means : List ℤ) → emitted (mean_at means) 0 (length means) ≡ flat_map mean_line (enumerate_from 0 means)
all_means means =
    let all : length means - 0 ≡ length (enumerate_from 0 means) = omega (arith, length-enumerate_from 0 means) in
    ap (λ n. flat_map (mean_at means) (range_with_len 0 n)) all ∙ flat_map-numbered mean_line (enumerate_from 0 means) (0, pos 0)

couple_same : (points i j : ℕ) (sum : ℤ)
    → line (codes "cov " ++ (decimal i ++ (32 ∷ decimal j ++ (32 ∷ fraction sum (pos (points - 1)))))) ≡ couple_text points i j sum
couple_same points i j sum =
    let below = fraction sum (pos (points - 1)) in
    ap (λ l. line (codes "cov " ++ l))
    (sym (append_assoc (decimal i) (32 ∷ decimal j ++ 32 ∷ []) below
    ∙ ap (λ l. decimal i ++ 32 ∷ l) (append_assoc (decimal j) (32 ∷ []) below)))

-- the lines of all couples are those of each column
pub all_couples : (points c : ℕ) (rows : List (Row ℕ))
    → flat_map (couple_line points c rows) (column_couples c) ≡ flat_map (column_lines points c (number_at rows)) (range_with_len 0 c)
all_couples points c rows =
    flat_map-flat_map (couple_line points c rows) (λ i. map (λ j. (i, j)) (range_with_len i (c - i))) (range_with_len 0 c)
    ∙ (λ k. flat_map (λ i. flat_map-map (couple_line points c rows) (λ j. (i, j)) (range_with_len i (c - i)) k) (range_with_len 0 c))
    ∙ (λ k. flat_map (λ i. flat_map (λ j. couple_same points i j (number_at rows (i * c + j)) k) (range_with_len i (c - i)))
    (range_with_len 0 c))

pub key_below : (i j c : ℕ) → i < c → j < c → i * c + j < c * c
key_below i j c row column = let most : (i + 1) * c ≤ c * c = mul-le (i + 1) c c c (omega (arith, row)) (omega arith) in
    omega (arith, most, column)

-- the lines of sums that are the same at each key
pub lines_same : (points c : ℕ) (f g : ℕ → ℤ) → ((k : ℕ) → k < c * c → f k ≡ g k)
    → flat_map (column_lines points c f) (range_with_len 0 c) ≡ flat_map (column_lines points c g) (range_with_len 0 c)
lines_same points c f g same = items-same (column_lines points c f) (column_lines points c g) c (λ i row.
    flat_map-same (λ j. couple_text points i j (f (i * c + j))) (λ j. couple_text points i j (g (i * c + j))) (range_with_len i (c - i))
    (all_numbers _ i (c - i) (λ j below. ap (couple_text points i j) (same (i * c + j) (key_below i j c row (omega (arith, row, below)))))))
