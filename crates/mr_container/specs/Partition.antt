-- The keys and cells of one partition of a container.
use Rattle.std.specs.Prelude.{◌≡◌, ℕ, ◌==◌, List, map, Option, None, if◌then◌else◌}
use Rattle.std.specs.List.{IsDistinct}
use Rattle.std.specs.declared.cmp.Ordering.{Ordering}
use Rattle.std.specs.Ordering.{eq_by_cmp}
use Rattle.std.specs.FinMap.{find}

-- the entries are the keys of one partition with their cells, each once
pub record IsPartition {K C : Type 0} (R : K → K → Ordering) (cell : K → Option C) (part_of : K → ℕ) (part : ℕ)
    (entries : List (K × C)) : Type 0 where
  pub distinct : IsDistinct (eq_by_cmp R) (map (λ e. e.0) entries)
  pub found : (k : K) → find R k entries ≡ (if part_of k == part then cell k else None)
