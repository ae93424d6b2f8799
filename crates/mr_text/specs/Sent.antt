-- Emissions on their way to a local: those that it has taken, and those that still wait in a block.
use Rattle.std.specs.Prelude.{◌≡◌, List, ◌++◌}

module _ {S E : Type 0} (stands : S → List E → Type 0) where
  -- of all these emissions the last ones wait, and the local has taken the others
  abbrev pub Sent : S → S → List E → List E → Type 0
  Sent old new all left = (ds : List E) → stands old ds → (sent : List E) × (stands new (ds ++ sent)) × (sent ++ left ≡ all)

  -- it has taken some of them, from the first on
  abbrev pub SentSome : S → S → List E → Type 0
  SentSome old new all =
      (ds : List E) → stands old ds → (sent : List E) × (left : List E) × (stands new (ds ++ sent)) × (sent ++ left ≡ all)
