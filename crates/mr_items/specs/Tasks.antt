-- What it is for the tasks of an input, one after the other, to emit this: words and lines by pieces of a text, other items by spans.
use Rattle.std.specs.Prelude.{◌≡◌, ◌<◌, ℕ, List, length, flat_map}
use Rattle.std.specs.List.{range_with_len}
use Rattle.mr_defs.specs.Tasks.{pieces_of, spans_of, task_emissions}
use Rattle.mr_items.specs.Words.{word_places, is_word_boundary}
use Rattle.mr_items.specs.Lines.{line_places, is_line_boundary}

module _ {E : Type 0} where
  abbrev pub AllWords : List ℕ → (ℕ → List E) → List E → Type 0
  AllWords bytes emits all =
      (chunk : ℕ) → flat_map (task_emissions emits (word_places bytes)) (pieces_of (is_word_boundary bytes) chunk (length bytes)) ≡ all

  abbrev pub AllLines : List ℕ → (ℕ → List E) → List E → Type 0
  AllLines bytes emits all =
      (chunk : ℕ) → flat_map (task_emissions emits (line_places bytes)) (pieces_of (is_line_boundary bytes) chunk (length bytes)) ≡ all

  abbrev pub AllSpans : ℕ → (ℕ → List E) → List E → Type 0
  AllSpans count emits all =
      (chunk : ℕ) → 0 < chunk → flat_map (task_emissions emits (range_with_len 0 count)) (spans_of chunk count) ≡ all
