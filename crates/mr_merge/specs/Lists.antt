-- Lists of rows.
use Rattle.std.specs.Prelude.{List, [], ◌∷◌, ◌++◌, map, flat_map}
use Rattle.std.specs.Borrow.{Bor}
use Rattle.std.specs.declared.vec.Vec.{Vec}

-- the items of all the lists, one after the other
abbrev pub rows_of : {X Z : Type 0} → List (Vec X Z) → List X
rows_of lists = flat_map (λ l. l.items) lists

-- each list: of vectors, and of those that are borrowed
abbrev pub lists_of : {X Z : Type 0} → List (Vec X Z) → List (List X)
lists_of lists = map (λ l. l.items) lists

abbrev pub lent : {X : Type 0} → List (Bor (List X)) → List (List X)
lent lists = map (λ l. l.now) lists

-- each list with the one at its place behind it
abbrev pub each_with : {X : Type 0} → List (List X) → List (List X) → List (List X)
each_with [] backs = []
each_with (front ∷ fronts) [] = []
each_with (front ∷ fronts) (back ∷ backs) = (front ++ back) ∷ each_with fronts backs
