-- Keys and cells, by the bucket of their key.
use Rattle.std.specs.Prelude.{ℕ, ◌%◌, ◌==◌, List, filter}

-- those of a partition, where there are n buckets
abbrev pub of_partition : {K C : Type 0} → (K → ℕ) → ℕ → ℕ → ℕ → List (K × C) → List (K × C)
of_partition hash_of n parts part entries = filter (λ e. hash_of e.0 % n % parts == part) entries
