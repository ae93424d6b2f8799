-- The generated text, and the summary of what was made of it.
use Rattle.std.specs.Prelude.{ℕ, ◌*◌, ◌%◌, List, ◌∷◌, ◌++◌, length, flat_map, sum_by, decimal, codes}
use Rattle.std.specs.List.{enumerate_from}
use Rattle.rand_core.specs.Steps.{first_words}
use Rattle.rand_xoshiro.specs.SplitMix64.{mix_u64}
use Rattle.mr_items.specs.Texts.{line}

-- the letter w and a number below 5000, on a line
abbrev pub word_of : ℕ → List ℕ
word_of x = line (119 ∷ decimal (x % 5000))

-- so many words, from the outputs of SplitMix64 with this seed as its state
unfoldable pub generated : ℕ → ℕ → List ℕ
generated seed count = flat_map word_of (first_words mix_u64 count seed)

-- each byte times its place, counted from 1
abbrev pub mark_of : List ℕ → ℕ
mark_of text = sum_by (λ e. e.0 * e.1) (enumerate_from 1 text)

-- a name and a number on a line
abbrev pub counted : List ℕ → ℕ → List ℕ
counted name n = line (name ++ (32 ∷ decimal n))

-- the length of a generated text, the number of rows that a job has of it, and their text
abbrev pub summary : ℕ → ℕ → List ℕ → List ℕ
summary input rows output =
    counted (codes "input") input ++ (counted (codes "rows") rows
    ++ (counted (codes "output") (length output) ++ counted (codes "mark") (mark_of output)))
