-- Where the tasks of each queue begin.
use Rattle.std.proofs.Common.{◌≡◌, ℕ, zero, suc, ◌+◌, ◌*◌, ◌/◌, ◌<◌, ◌≤◌, ◌-◌, List, map, length, slice_get, Some, sym, ap, ◌∙◌, arith}
use Rattle.std.proofs.Common.{subst}
use Rattle.std.proofs.Math.Nat.{mul-div_cancel_left, mul-le-mul_right, zero-div, div-mul-le_self}
use Rattle.std.proofs.lemmas.Nat.{le-div}
use native.Mathlib.Decide.{dec_lt}
use mathlib.Core.Logic.{dite}
use Rattle.std.proofs.lemmas.List.FromFn.{length-map-range_with_len, get_or-map-range_with_len}
use Rattle.std.proofs.lemmas.Option.{slice_get-get_or, same_Some}
use Rattle.std.proofs.lemmas.List.Sums.{sum_by-cons}
use Rattle.std.specs.List.{range_with_len}
use Rattle.mr_base.specs.Tasks.{start_of, range_of, ranges_of, total_of}

pub start_zero : (t n : ℕ) → start_of t n 0 ≡ 0
start_zero t n = ap (λ k. k / n) (omega arith) ∙ zero-div n

pub start_last : (t n : ℕ) → 0 < n → start_of t n n ≡ t
start_last t n h = mul-div_cancel_left t h

pub start_up : (t n q r : ℕ) → 0 < n → q ≤ r → start_of t n q ≤ start_of t n r
start_up t n q r h le =
    let a = div-mul-le_self (q * t) n in
    let b = mul-le-mul_right t le in
    le-div (start_of t n q) (r * t) n h (omega (arith, a, b))

pub start_below : (t n q : ℕ) → 0 < n → q ≤ n → start_of t n q ≤ t
start_below t n q h le = let a = start_up t n q n h le in let b = start_last t n h in omega (arith, a, b)

-- each task is in some queue
find : (t n x k : ℕ) → x < start_of t n k → (q : ℕ) × (q < k) × (start_of t n q ≤ x) × (x < start_of t n (q + 1))
find t n x zero h = let z = start_zero t n in absurd (omega (arith, z, h))
find t n x (suc k) h =
    dite (dec_lt x (start_of t n k)) (λ y. let r = find t n x k y in (r.0, omega (arith, r.1), r.2, r.3))
    (λ no. (k, omega arith, omega (arith, no), subst (λ m. x < start_of t n m) (omega arith) h))

pub locate : (t n x : ℕ) → 0 < n → x < t → (q : ℕ) × (q < n) × (start_of t n q ≤ x) × (x < start_of t n (q + 1))
locate t n x h lt = find t n x n (let e = start_last t n h in omega (arith, e, lt))

-- and in no two
pub apart : (t n q r x : ℕ) → 0 < n → q < r → x < start_of t n (q + 1) → start_of t n r ≤ x → ⊥
apart t n q r x h lt a b = let u = start_up t n (q + 1) r h (omega (arith, lt)) in absurd (omega (arith, u, a, b))

-- the ranges of some queues have the tasks between the ends of these
sum_of : (t n a k : ℕ) → 0 < n → total_of (map (range_of t n) (range_with_len a k)) + start_of t n a ≡ start_of t n (a + k)
sum_of t n a zero h = let e : start_of t n a ≡ start_of t n (a + 0) = ap (start_of t n) (omega arith) in omega (arith, e)
sum_of t n a (suc k) h =
    let rest = sum_of t n (a + 1) k h in
    let c = sum_by-cons (λ (r : ℕ × ℕ). r.1 - r.0) (range_of t n a) (map (range_of t n) (range_with_len (a + 1) k)) in
    let up = start_up t n a (a + 1) h (omega arith) in
    let end : start_of t n (a + 1 + k) ≡ start_of t n (a + suc k) = ap (start_of t n) (omega arith) in
    omega (arith, rest, c, up, end)

pub total_is : (t n : ℕ) → 0 < n → total_of (ranges_of t n) ≡ t
total_is t n h =
    let all = sum_of t n 0 n h in
    let first = start_zero t n in
    let last : start_of t n (0 + n) ≡ t = ap (start_of t n) (omega arith) ∙ start_last t n h in
    omega (arith, all, first, last)

pub count_is : (t n : ℕ) → length (ranges_of t n) ≡ n
count_is t n = length-map-range_with_len (range_of t n) 0 n

-- what a list of the ranges says, where it has as many as there are queues
pub ranges_total : (t n : ℕ) (rs : List (ℕ × ℕ)) → rs ≡ ranges_of t n → 0 < n → total_of rs ≡ t
ranges_total t n rs is h = ap total_of is ∙ total_is t n h

pub ranges_count : (t n : ℕ) (rs : List (ℕ × ℕ)) → rs ≡ ranges_of t n → length rs ≡ n
ranges_count t n rs is = ap length is ∙ count_is t n

-- the range at a place
pub range_at : (t n q : ℕ) (r : ℕ × ℕ) (rs : List (ℕ × ℕ)) → rs ≡ ranges_of t n → q < n → slice_get rs q ≡ Some r → r ≡ range_of t n q
range_at t n q r rs is h at =
    let listed = slice_get-get_or (ranges_of t n) q r (omega (arith, count_is t n, h)) in
    let there = get_or-map-range_with_len (range_of t n) 0 n q q r h (omega arith) in
    same_Some r (range_of t n q) (sym at ∙ ap (λ l. slice_get l q) is ∙ listed ∙ ap Some there)
