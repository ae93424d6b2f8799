-- What lent entries come to where those of one key are merged.
use Rattle.std.specs.Prelude.{◌≡◌, List}
use Rattle.std.specs.Borrow.{Bor}
use Rattle.std.specs.List.{IsDistinct}
use Rattle.std.specs.declared.cmp.Ordering.{Ordering}
use Rattle.std.specs.Ordering.{eq_by_cmp}
use Rattle.std.specs.FinMap.{find}
use Rattle.mr_defs.specs.Commutative.{joined_by}
use Rattle.mr_container.specs.Entries.{cell_in, seen_of}
use Rattle.mr_hash.specs.declared.entry.Entry.{Entry}
use Rattle.mr_hash.specs.Pairs.{keys_of, pairs_of}

-- each key that was lent stands once, with all its cells merged
pub record AreJoined {K C : Type 0} (R : K → K → Ordering) (merged : C → C → C) (lent : List (Bor K × Bor C)) (entries : List (Entry K C))
    : Type 0 where
  pub distinct : IsDistinct (eq_by_cmp R) (keys_of entries)
  pub found : (k : K) → find R k (pairs_of entries) ≡ joined_by merged (cell_in R k) (seen_of lent)
