-- What it is for a reducer to answer, of the cell of some values, what these values fold to.
use Rattle.std.specs.Prelude.{◌≡◌, Bool, List, Option, Some, None, if◌then◌else◌, IfSome}
use Rattle.mr_defs.specs.Emission.{Answer}
use Rattle.mr_defs.specs.Stands.{cell_of}

-- what a cell comes to: nothing where it is over
abbrev pub outcome : {C : Type 0} → (C → Bool) → (C → Answer) → C → Option Answer
outcome over answer c = if over c then None else Some (answer c)

-- the cell of any list of values is over exactly where their fold is None, and answers their fold where it is not
abbrev pub IsFoldOf : {V C : Type 0} → (V → C) → (C → C → C) → (C → Bool) → (C → Answer) → (List V → Option Answer) → Type 0
IsFoldOf {V} unit merged over answer folded = (vs : List V) → IfSome (cell_of unit merged vs) (λ c. folded vs ≡ outcome over answer c)
