-- What a list becomes whose items were lent.
use Rattle.std.specs.Prelude.{List, ◌++◌, take, drop, length}
use Rattle.std.specs.Borrow.{Lends, MutBor, Fml, Array}
use denote.RattleType.{RattleType}
use Rattle.mr_base.specs.Spare.{Spared}
use Rattle.mr_base.specs.contracts.few.Few.{the_row}

-- the list with these as its items; how many there are and the room stay
abbrev pub refilled : {X : Type 0} → Spared X → List X → Spared X
refilled few ws = record { items = take (length few.items) (ws ++ drop (length ws) few.items); spare = few.spare }

-- what is written through the slice comes back as the items
abbrev pub LendsItems : (T : RattleType) → MutBor (Spared T.Denot) → MutBor (List T.Denot) → Fml
LendsItems T s r = Lends (the_row T) (Array T 0) s r (refilled s.now)
