-- Rows of sums.
use Rattle.std.specs.Prelude.{◌≡◌, ◌≤◌, ◌+◌, ◌*◌, ◌≤ℤ◌, ℕ, ℤ, pos, nat_abs, List, length, get_or}
use Rattle.std.specs.List.{All}
use Rattle.mr_defs.specs.Emission.{Row}
use Rattle.mr_defs.specs.Folded.{limit}
use Rattle.mr_defs.specs.Limits.{greatest_element}

-- the answer is one number, of a magnitude within the limit
pub record IsSum (row : Row ℕ) : Type 0 where
  pub one : length row.1 ≡ 1
  pub small : nat_abs (get_or row.1 0 (pos 0)) ≤ limit

abbrev pub AreSums : List (Row ℕ) → Type 0
AreSums rows = All IsSum rows

-- the answer is one number, of a magnitude that so many elements of a grid can add up to
pub record IsColumnSum (points : ℕ) (row : Row ℕ) : Type 0 where
  pub one : length row.1 ≡ 1
  pub some : 1 ≤ points
  pub small : nat_abs (get_or row.1 0 (pos 0)) ≤ greatest_element * points

-- a number of means, each of so many coordinates, whose magnitude is at most 2147483647
pub record AreMeans (columns : ℕ) (means : List (List ℤ)) : Type 0 where
  pub each : All (λ m. length m ≡ columns) means
  pub small : All (All (λ z. nat_abs z ≤ greatest_element)) means

-- the answer of a cluster begins with the number of its points, which is one or more
abbrev pub HasPoints : Row ℕ → Type 0
HasPoints row = pos 1 ≤ℤ get_or row.1 0 (pos 0)

-- it goes on with the sum of each of so many coordinates, of a magnitude that so many points of a grid can add up to
pub record IsCluster (columns : ℕ) (row : Row ℕ) : Type 0 where
  pub some : HasPoints row
  pub long : length row.1 ≡ columns + 1
  pub small : All (λ z. nat_abs z ≤ greatest_element * nat_abs (get_or row.1 0 (pos 0))) row.1
