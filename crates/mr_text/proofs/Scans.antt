-- Where a run of bytes that pass a test ends, from a place on.
use Rattle.std.proofs.Common.{◌≡◌, ℕ, ◌+◌, ◌-◌, ◌<◌, ◌≤◌, ◌==◌, ◌&&◌, ◌||◌, Bool, true, false, not, List, length, drop, get_or, sym, ◌∙◌}
use Rattle.std.proofs.Common.{ap, arith}
use Rattle.std.specs.List.{prefix_len}
use Rattle.std.proofs.lemmas.List.{length-drop, get_or-drop}
use Rattle.mr_items.specs.Words.{is_word_byte, is_word_boundary}
use Rattle.std.proofs.lemmas.List.Sums.{prefix_len_passes, prefix_len_stops, prefix_len-le-length}

module _ (p : ℕ → Bool) (xs : List ℕ) (a : ℕ) where
  abbrev pub run_end : ℕ
  run_end = a + prefix_len p (drop a xs)

  size : length (drop a xs) ≡ length xs - a
  size = length-drop a xs

  pub run_end_bound : a ≤ length xs → run_end ≤ length xs
  run_end_bound le = omega (arith, size, prefix_len-le-length p (drop a xs))

  pub run_passes : (k : ℕ) → a ≤ k → k < run_end → p (get_or xs k 0) ≡ true
  run_passes k from below =
      let there : a + (k - a) ≡ k = omega arith in
      ap p (sym (get_or-drop a xs (k - a) 0 ∙ ap (λ i. get_or xs i 0) there)) ∙ prefix_len_passes p (drop a xs) (k - a) 0 (omega arith)

  pub run_stops : run_end < length xs → p (get_or xs run_end 0) ≡ false
  run_stops below =
      ap p (sym (get_or-drop a xs (prefix_len p (drop a xs)) 0)) ∙ prefix_len_stops p (drop a xs) 0 (omega (arith, size, below))

-- a place whose byte belongs to no word is a boundary
pub boundary_from_other : (bs : List ℕ) (e : ℕ) → is_word_byte (get_or bs e 0) ≡ false → is_word_boundary bs e ≡ true
boundary_from_other bs e other = go (e == 0) (e == length bs) (is_word_byte (get_or bs (e - 1) 0)) (is_word_byte (get_or bs e 0)) other
  where
    go : (z l b h : Bool) → h ≡ false → (z || (l || not (b && h))) ≡ true
    go z l b h e = grind (arith)
