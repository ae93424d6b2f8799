-- The pieces of a text and the spans of a number of items.
use Rattle.std.specs.Prelude.{◌≡◌, ◌<◌, ◌≤◌, true, ℕ, Bool, List, length}
use Rattle.mr_defs.specs.Tasks.{Stretch, pieces_of, spans_of}
use Rattle.mr_items.specs.Words.{is_word_boundary}
use Rattle.mr_items.specs.Lines.{is_line_boundary}
use Rattle.mr_split.specs.declared.boundary.Boundary.{Boundary}

-- where a text may be cut
abbrev pub boundary_of : Boundary → List ℕ → ℕ → Bool
boundary_of Boundary.Word bytes = is_word_boundary bytes
boundary_of Boundary.Line bytes = is_line_boundary bytes

-- these are the pieces of this text, for some chunk
abbrev pub ArePieces : Boundary → List ℕ → List Stretch → Type 0
ArePieces kind bytes pieces = (chunk : ℕ) × (pieces ≡ pieces_of (boundary_of kind bytes) chunk (length bytes))

-- these are the spans of so many items, for some chunk
abbrev pub AreSpans : ℕ → List Stretch → Type 0
AreSpans items spans = (chunk : ℕ) × (0 < chunk) × (spans ≡ spans_of chunk items)

-- one byte or more, between two boundaries of a text of this length
pub record IsPiece (is_boundary : ℕ → Bool) (len : ℕ) (piece : Stretch) : Type 0 where
  pub some : piece.0 < piece.1
  pub inside : piece.1 ≤ len
  pub starts : is_boundary piece.0 ≡ true
  pub ends : is_boundary piece.1 ≡ true

-- one item or more, of so many
pub record IsSpan (items : ℕ) (span : Stretch) : Type 0 where
  pub some : span.0 < span.1
  pub inside : span.1 ≤ items
