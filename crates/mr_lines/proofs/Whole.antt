-- All tasks of a job over lines together, each of which is a piece of the text.
use Rattle.std.proofs.Common.{◌≡◌, ℕ, List, length, get_or, sym, ap, subst, ◌∙◌}
use Rattle.std.specs.Prelude.{flat_map}
use Rattle.std.specs.List.{All, range_with_len}
use Rattle.mr_defs.specs.Tasks.{Stretch, task_emissions}
use Rattle.mr_items.specs.Lines.{is_line_boundary, line_places}
use Rattle.mr_items.proofs.AllTasks.{line_tasks}
use Rattle.mr_split.specs.Pieces.{ArePieces, IsPiece}
use Rattle.mr_split.specs.declared.boundary.Boundary.{Boundary}
use Rattle.mr_split.proofs.Numbered.{flat_map-numbered}
use Rattle.mr_split.proofs.Whole.{each_of}

module _ (text : List ℕ) (pieces : List Stretch) (are : ArePieces Boundary.Line text pieces) where
  pub line_pieces : All (IsPiece (is_line_boundary text) (length text)) pieces
  line_pieces = subst (All (IsPiece (is_line_boundary text) (length text))) (sym are.1) (each_of Boundary.Line text are.0)

  pub whole_lines : {E : Type 0} (emits : ℕ → List E)
      → flat_map (λ t. task_emissions emits (line_places text) (get_or pieces t (0, 0))) (range_with_len 0 (length pieces))
      ≡ flat_map emits (line_places text)
  whole_lines emits =
      let of_piece = task_emissions emits (line_places text) in
      flat_map-numbered of_piece pieces (0, 0) ∙ ap (flat_map of_piece) are.1 ∙ line_tasks emits text are.0
