-- The spans of a number of items, by their numbers.
use Rattle.std.proofs.Common.{◌≡◌, inl, inr, ℕ, ◌+◌, ◌*◌, ◌<◌, ◌≤◌, min, length, get_or, ap, ◌∙◌, sym, subst, arith}
use Rattle.std.specs.Int.{div_ceil}
use Rattle.std.specs.List.{All}
use Rattle.std.proofs.lemmas.Grind.{div_ceil_times}
use Rattle.std.proofs.lemmas.List.FromFn.{length-map-range_with_len, get_or-map-range_with_len}
use Rattle.std.proofs.lemmas.Bool.{cases_lt}
use Rattle.std.proofs.Math.Nat.{mul-le-mul_right}
use Rattle.mr_defs.specs.Tasks.{Stretch, step_of, spans_of, most_tasks}
use Rattle.mr_split.specs.Pieces.{IsSpan}

module _ (chunk items : ℕ) where
  abbrev step : ℕ
  step = step_of chunk items

  abbrev span : ℕ → Stretch
  span t = (t * step, min ((t + 1) * step) items)

  pub length-spans_of : length (spans_of chunk items) ≡ div_ceil items step
  length-spans_of = length-map-range_with_len span 0 (div_ceil items step)

  pub get_or-spans_of : (t : ℕ) (d : Stretch) → t < length (spans_of chunk items)
      → get_or (spans_of chunk items) t d ≡ (t * step, min (t * step + step) items)
  get_or-spans_of t d below =
      get_or-map-range_with_len span 0 (div_ceil items step) t t d
      (let e : length (spans_of chunk items) ≡ div_ceil items step = length-spans_of in omega (arith, below, e)) (omega arith)
      ∙ (let next : (t + 1) * step ≡ t * step + step = omega arith in ap (λ k. (t * step, min k items)) next)

  pub few_spans : 1 ≤ chunk → length (spans_of chunk items) ≤ most_tasks
  few_spans some = elim (cases_lt most_tasks (length (spans_of chunk items))) [
    | inl more ↦
        let all = div_ceil_times items step (omega (arith, some)) in
        let big : 1048577 * step ≤ div_ceil items step * step = mul-le-mul_right step (omega (arith, more, length-spans_of)) in
        let enough : items ≤ step * most_tasks = omega arith in
        absurd (omega (arith, all.1, big, enough, some))
    | inr few ↦ few
  ]

  pub each_span : 1 ≤ chunk → All (IsSpan items) (spans_of chunk items)
  each_span some t d below =
      let number : length (spans_of chunk items) ≡ div_ceil items step = length-spans_of in
      let all = div_ceil_times items step (omega (arith, some)) in
      let next : (t + 1) * step ≤ div_ceil items step * step = mul-le-mul_right step (omega (arith, below, number)) in
      let more : (t + 1) * step ≡ t * step + step = omega arith in
      subst (IsSpan items) (sym (get_or-spans_of t d below))
      (record { some = omega (arith, all.1, next, more, some); inside = omega arith })
