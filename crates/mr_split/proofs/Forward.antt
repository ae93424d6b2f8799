-- The first boundary at or after a place.
use Rattle.std.proofs.Common.{◌≡◌, inl, inr, ℕ, ◌+◌, ◌-◌, ◌<◌, ◌≤◌, Bool, true, false, not, length, get_or, sym, ◌∙◌, ap, arith}
use Rattle.std.specs.List.{prefix_len, range_with_len}
use Rattle.std.proofs.lemmas.Bool.{cases_lt, not-true, not-false}
use Rattle.std.proofs.lemmas.List.Sums.{prefix_len_is, prefix_len_passes, prefix_len_stops, prefix_len-le-length}
use Rattle.std.proofs.lemmas.List.FromFn.{length-range_with_len, get_or-range_with_len}
use Rattle.mr_defs.specs.Tasks.{boundary_from}

module _ (b : ℕ → Bool) (len : ℕ) where
  -- no place before it is a boundary, and it is one unless it is the end
  pub boundary_from_is : (p m : ℕ) → p ≤ m → m ≤ len → ((k : ℕ) → p ≤ k → k < m → b k ≡ false) → (m < len → b m ≡ true)
      → boundary_from b len p ≡ m
  boundary_from_is p m from bound none here =
      let size : length (range_with_len p (len - p)) ≡ len - p = length-range_with_len p (len - p) in
      let run : prefix_len (λ q. not (b q)) (range_with_len p (len - p)) ≡ m - p =
      prefix_len_is (λ q. not (b q)) (range_with_len p (len - p)) (m - p) 0 (omega (arith, size))
      (λ k below. let at : get_or (range_with_len p (len - p)) k 0 ≡ p + k = get_or-range_with_len p (len - p) k 0 (omega arith) in
      ap (λ q. not (b q)) at ∙ ap not (none (p + k) (omega arith) (omega arith)))
      (λ less. let at : get_or (range_with_len p (len - p)) (m - p) 0
      ≡ p + (m - p) = get_or-range_with_len p (len - p) (m - p) 0 (omega (arith, size)) in
      let there : p + (m - p) ≡ m = omega arith in ap (λ q. not (b q)) (at ∙ there) ∙ ap not (here (omega (arith, size)))) in
      ap (λ n. p + n) run ∙ (let e : p + (m - p) ≡ m = omega arith in e)

  pub boundary_from_bound : (p : ℕ) → p ≤ len → boundary_from b len p ≤ len
  boundary_from_bound p le =
      let size : length (range_with_len p (len - p)) ≡ len - p = length-range_with_len p (len - p) in
      let most : prefix_len (λ q. not (b q)) (range_with_len p (len - p)) ≤ length (range_with_len p (len - p)) =
      prefix_len-le-length (λ q. not (b q)) (range_with_len p (len - p)) in
      omega (arith, size, most)

  none_before : (p : ℕ) → p ≤ len → (k : ℕ) → p ≤ k → k < boundary_from b len p → b k ≡ false
  none_before p le k from below =
      let bound : boundary_from b len p ≤ len = boundary_from_bound p le in
      let passes : not (b (get_or (range_with_len p (len - p)) (k - p) 0)) ≡ true =
      prefix_len_passes (λ q. not (b q)) (range_with_len p (len - p)) (k - p) 0 (omega arith) in
      let at : get_or (range_with_len p (len - p)) (k - p) 0 ≡ p + (k - p) =
      get_or-range_with_len p (len - p) (k - p) 0 (omega (arith, bound)) in
      let there : p + (k - p) ≡ k = omega arith in
      not-true (b k) (ap (λ q. not (b q)) (sym (at ∙ there)) ∙ passes)

  stops : (p : ℕ) → p ≤ len → boundary_from b len p < len → b (boundary_from b len p) ≡ true
  stops p le below =
      let size : length (range_with_len p (len - p)) ≡ len - p = length-range_with_len p (len - p) in
      let n : ℕ = prefix_len (λ q. not (b q)) (range_with_len p (len - p)) in
      let stop : not (b (get_or (range_with_len p (len - p)) n 0)) ≡ false =
      prefix_len_stops (λ q. not (b q)) (range_with_len p (len - p)) 0 (omega (arith, size)) in
      let at : get_or (range_with_len p (len - p)) n 0 ≡ p + n = get_or-range_with_len p (len - p) n 0 (omega arith) in
      not-false (b (p + n)) (ap (λ q. not (b q)) (sym at) ∙ stop)

  pub boundary_from_boundary : (p : ℕ) → b len ≡ true → p ≤ len → b (boundary_from b len p) ≡ true
  boundary_from_boundary p end le = elim (cases_lt (boundary_from b len p) len) [
    | inl less ↦ stops p le less
    | inr more ↦ let e : boundary_from b len p ≡ len = omega (arith, more, boundary_from_bound p le) in ap b e ∙ end
  ]

  -- a place up to the one where an earlier place goes, goes there too
  pub boundary_from_same : (p q : ℕ) → p ≤ len → p ≤ q → q ≤ boundary_from b len p → boundary_from b len q ≡ boundary_from b len p
  boundary_from_same p q le from to = boundary_from_is q (boundary_from b len p) to (boundary_from_bound p le)
      (λ k after before. none_before p le k (omega arith) before) (stops p le)

  pub boundary_from_rises : (p q : ℕ) → q ≤ len → p ≤ q → boundary_from b len p ≤ boundary_from b len q
  boundary_from_rises p q le from = elim (cases_lt (boundary_from b len p) q) [
    | inl less ↦ omega arith
    | inr more ↦ let e : boundary_from b len q ≡ boundary_from b len p = boundary_from_same p q (omega arith) from more in omega (arith, e)
  ]
