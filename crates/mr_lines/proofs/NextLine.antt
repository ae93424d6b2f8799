-- The line that begins at a boundary.
use Rattle.std.proofs.Common.{◌≡◌, inl, inr, ℕ, ◌+◌, ◌-◌, ◌<◌, ◌≤◌, ◌==◌, ◌||◌, min, Bool, true, false, not, List, [], ◌∷◌, ◌++◌, length}
use Rattle.std.proofs.Common.{take, drop, get_or, ◌∙◌, ap, arith, eq-eqb, append-nil}
use Rattle.std.specs.Prelude.{filter, flat_map, slice_range}
use Rattle.std.specs.List.{prefix_len, range_with_len}
use Rattle.std.proofs.lemmas.Bool.{cases_lt, ne_eqb, or_left, or_right, not-true, not-false}
use Rattle.mr_defs.specs.Tasks.{items_in, task_emissions}
use Rattle.mr_defs.proofs.Joins.{items_in-range}
use Rattle.mr_defs.proofs.Places.{IsNowhere, places-none, places-next}
use Rattle.mr_items.specs.Lines.{begins_line, is_line_boundary, line_at, line_places}
use Rattle.mr_kernels.specs.Scan.{line_end_in}
use Rattle.mr_text.proofs.Scans.{run_end_bound, run_passes, run_stops}
use Rattle.mr_lines.specs.Ends.{is_line_end}

module _ (bs : List ℕ) (at : ℕ) (below : at < length bs) (starts : is_line_boundary bs at ≡ true) (end : ℕ)
    (end_is : end ≡ line_end_in bs at) where
  abbrev inner : ℕ → Bool
  inner b = not (b == 10)

  abbrev pub next : ℕ
  next = min (end + 1) (length bs)

  pub begins_here : begins_line bs at ≡ true
  begins_here = go (begins_line bs at) (at == length bs) (ne_eqb at (length bs) (λ e. omega (arith, e, below))) starts
    where
      go : (b l : Bool) → l ≡ false → (b || l) ≡ true → b ≡ true
      go b l e f = grind (arith)

  pub later : at ≤ end
  later = omega (arith, end_is)

  pub inside : end ≤ length bs
  inside = omega (arith, end_is, run_end_bound inner bs at (omega (arith, below)))

  pub ends_here : is_line_end bs end ≡ true
  ends_here = elim (cases_lt end (length bs)) [
    | inl before ↦ or_right (end == length bs)
        _ (not-false (get_or bs end 0 == 10)
        (ap (λ k. inner (get_or bs k 0)) end_is ∙ run_stops inner bs at (omega (arith, end_is, before))))
    | inr there ↦ or_left (end == length bs) _ (eq-eqb end (length bs) (omega (arith, there, inside)))
  ]

  pub line_is : line_at bs at ≡ slice_range bs at end
  line_is = let size : prefix_len inner (drop at bs) ≡ end - at = omega (arith, end_is) in ap (λ n. take n (drop at bs)) size

  none_begins : IsNowhere (begins_line bs) (at + 1) next
  none_begins k from upto =
      let some : (k == 0) ≡ false = ne_eqb k 0 (λ e. omega (arith, e, from)) in
      let other : (get_or bs (k - 1) 0 == 10) ≡ false =
      not-true (get_or bs (k - 1) 0 == 10) (run_passes inner bs at (k - 1) (omega (arith, from)) (omega (arith, from, upto, end_is))) in
      go (k == 0) (get_or bs (k - 1) 0 == 10) some other
    where
      go : (z t : Bool) → z ≡ false → t ≡ false → (z || t) ≡ false
      go z t e f = grind (arith)

  pub next_later : at < next
  next_later = omega (arith, below, later)

  pub next_inside : next ≤ length bs
  next_inside = omega arith

  pub next_between : is_line_boundary bs next ≡ true
  next_between = elim (cases_lt end (length bs)) [
    | inl before ↦
        let there : next ≡ end + 1 = omega (arith, before) in
        let back : next - 1 ≡ end = omega (arith, there) in
        or_left (begins_line bs next) (next == length bs)
        (or_right (next == 0) (get_or bs (next - 1) 0 == 10)
        (ap (λ k. get_or bs k 0 == 10) back
        ∙ not-false (get_or bs end 0 == 10)
        (ap (λ k. inner (get_or bs k 0)) end_is ∙ run_stops inner bs at (omega (arith, end_is, before)))))
    | inr past ↦ or_right (begins_line bs next) (next == length bs) (eq-eqb next (length bs) (omega (arith, past)))
  ]

  -- no line goes over a boundary
  pub next_within : (to : ℕ) → at < to → to ≤ length bs → is_line_boundary bs to ≡ true → next ≤ to
  next_within to more bound ends = elim (cases_lt to next) [
    | inl before ↦ absurd (go (begins_line bs to) (to == length bs) (none_begins to (omega (arith, more)) before)
        (ne_eqb to (length bs) (λ e. omega (arith, e, before, next_inside))) ends)
    | inr not_before ↦ not_before
  ]
    where
      go : (b l : Bool) → b ≡ false → l ≡ false → (b || l) ≡ true → ⊥
      go b l e f g = grind (arith)

  nothing : filter (begins_line bs) (range_with_len at (at - at)) ≡ []
  nothing = let e : at - at ≡ 0 = omega arith in ap (λ n. filter (begins_line bs) (range_with_len at n)) e

  -- it is the one line that begins before the next
  one_line : items_in (at, next) (line_places bs) ≡ at ∷ []
  one_line =
      items_in-range at next (begins_line bs) (length bs) (omega (arith, next_later)) next_inside
      ∙ places-none (begins_line bs) at (at + 1) next (omega arith) (omega (arith, next_later)) none_begins
      ∙ places-next (begins_line bs) at at at (omega arith) (omega arith) (λ q from upto. absurd (omega (arith, from, upto))) begins_here
      ∙ ap (λ l. l ++ at ∷ []) nothing

  pub emits_line : {E : Type 0} (emits : ℕ → List E) → task_emissions emits (line_places bs) (at, next) ≡ emits at
  emits_line emits = ap (flat_map emits) one_line ∙ append-nil (emits at)
