-- What all tasks give, one after the other, is what all items give.
use Rattle.std.proofs.Common.{ℕ, List, length}
use Rattle.std.specs.Prelude.{flat_map}
use Rattle.std.specs.List.{range_with_len}
use Rattle.mr_defs.specs.Tasks.{pieces_of, spans_of}
use Rattle.mr_defs.proofs.Joins.{flat_map-all_tasks, flat_map-all_spans}
use Rattle.mr_defs.proofs.Chains.{pieces_of-IsChain, spans_of-IsChain}
use Rattle.mr_items.specs.Runs.{begins}
use Rattle.mr_items.specs.Words.{is_word_byte, word_places, is_word_boundary}
use Rattle.mr_items.specs.Lines.{begins_line, line_places, is_line_boundary}
use Rattle.mr_items.specs.Tasks.{AllWords, AllLines, AllSpans}

module _ {E : Type 0} (emits : ℕ → List E) where
  pub word_tasks : (bytes : List ℕ) → AllWords bytes emits (flat_map emits (word_places bytes))
  word_tasks bytes chunk =
      flat_map-all_tasks emits (begins is_word_byte bytes) (length bytes) (pieces_of (is_word_boundary bytes) chunk (length bytes))
      (pieces_of-IsChain (is_word_boundary bytes) chunk (length bytes))

  pub line_tasks : (bytes : List ℕ) → AllLines bytes emits (flat_map emits (line_places bytes))
  line_tasks bytes chunk =
      flat_map-all_tasks emits (begins_line bytes) (length bytes) (pieces_of (is_line_boundary bytes) chunk (length bytes))
      (pieces_of-IsChain (is_line_boundary bytes) chunk (length bytes))

  pub span_tasks : (count : ℕ) → AllSpans count emits (flat_map emits (range_with_len 0 count))
  span_tasks count chunk h = flat_map-all_spans emits count (spans_of chunk count) (spans_of-IsChain chunk count h)
