-- All tasks of a job over words together, each of which is a piece of the text.
use Rattle.std.proofs.Common.{◌≡◌, ℕ, List, length, get_or, sym, ap, subst, ◌∙◌}
use Rattle.std.specs.Prelude.{flat_map}
use Rattle.std.specs.List.{All, range_with_len}
use Rattle.mr_defs.specs.Tasks.{Stretch, task_emissions}
use Rattle.mr_items.specs.Words.{is_word_boundary, word_places}
use Rattle.mr_items.proofs.AllTasks.{word_tasks}
use Rattle.mr_split.specs.Pieces.{ArePieces, IsPiece}
use Rattle.mr_split.specs.declared.boundary.Boundary.{Boundary}
use Rattle.mr_split.proofs.Whole.{each_of}
use Rattle.mr_text.proofs.Numbered.{flat_map-numbered}

module _ (text : List ℕ) (pieces : List Stretch) (are : ArePieces Boundary.Word text pieces) where
  pub word_pieces : All (IsPiece (is_word_boundary text) (length text)) pieces
  word_pieces = subst (All (IsPiece (is_word_boundary text) (length text))) (sym are.1) (each_of Boundary.Word text are.0)

  pub whole_words : {E : Type 0} (emits : ℕ → List E)
      → flat_map (λ t. task_emissions emits (word_places text) (get_or pieces t (0, 0))) (range_with_len 0 (length pieces))
      ≡ flat_map emits (word_places text)
  whole_words emits =
      let of_piece = task_emissions emits (word_places text) in
      flat_map-numbered of_piece pieces (0, 0) ∙ ap (flat_map of_piece) are.1 ∙ word_tasks emits text are.0
