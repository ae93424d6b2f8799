-- What the items from one place to another emit, one item after the other.
use Rattle.std.proofs.Common.{◌≡◌, ℕ, ◌+◌, ◌-◌, ◌≤◌, Bool, List, [], ◌++◌, sym, ◌∙◌, ap, arith}
use Rattle.std.specs.Prelude.{filter, flat_map}
use Rattle.std.specs.List.{range_with_len}
use Rattle.std.proofs.lemmas.List.Concat.{flat_map-append}
use Rattle.std.proofs.lemmas.List.Elements.{filter-append}
use Rattle.mr_defs.specs.Tasks.{items_in, task_emissions}
use Rattle.mr_defs.proofs.Joins.{items_in-range, range-append}

module _ {E : Type 0} (emits : ℕ → List E) (begins : ℕ → Bool) (n : ℕ) where
  abbrev items : List ℕ
  items = filter begins (range_with_len 0 n)

  abbrev pub emitted : ℕ → ℕ → List E
  emitted from to = task_emissions emits items (from, to)

  pub emitted-none : (a : ℕ) → a ≤ n → emitted a a ≡ []
  emitted-none a le =
      let none : a - a ≡ 0 = omega arith in
      ap (flat_map emits) (items_in-range a a begins n (omega arith) le ∙ ap (λ k. filter begins (range_with_len a k)) none)

  pub emitted-append : (a m c : ℕ) → a ≤ m → m ≤ c → c ≤ n → emitted a m ++ emitted m c ≡ emitted a c
  emitted-append a m c le ge inside =
      let meets : m ≡ a + (m - a) = omega arith in
      let size : (m - a) + (c - m) ≡ c - a = omega arith in
      sym (flat_map-append emits (items_in (a, m) items) (items_in (m, c) items))
      ∙ ap (flat_map emits) (
      ap (λ xs. xs ++ items_in (m, c) items) (items_in-range a m begins n le (omega (arith, ge, inside)))
      ∙ ap (λ xs. filter begins (range_with_len a (m - a)) ++ xs) (items_in-range m c begins n ge inside)
      ∙ sym (filter-append begins (range_with_len a (m - a)) (range_with_len m (c - m)))
      ∙ ap (filter begins) (ap (λ k. range_with_len a (m - a) ++ range_with_len k (c - m)) meets ∙ sym (range-append a (m - a) (c - m))
      ∙ ap (range_with_len a) size)
      ∙ sym (items_in-range a c begins n (omega (arith, le, ge)) inside)
      )
