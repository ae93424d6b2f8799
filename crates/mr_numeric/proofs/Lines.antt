-- Lines that are put at the end of a text, one after the other.
use Rattle.std.proofs.Common.{◌≡◌, ◌≤◌, ℕ, ℤ, nat_abs, List, ◌++◌, ap, ◌∙◌, append_assoc, to_z, of_z}
use Rattle.std.specs.Int.{w128}
use Rattle.mr_defs.specs.Folded.{limit}
use Rattle.mr_items.specs.LinearRegression.{named}
use Rattle.mr_numeric.proofs.Products.{kept_wide}

pub line_before : (old new line rest : List ℕ) → new ≡ old ++ line → new ++ rest ≡ old ++ (line ++ rest)
line_before old new line rest e = ap (λ t. t ++ rest) e ∙ append_assoc old line rest

-- a line of a name and a sum
pub named_before : (name old new rest : List ℕ) (z : ℤ) → nat_abs z ≤ limit → new ≡ old ++ named name (to_z w128 (of_z w128 z))
    → new ++ rest ≡ old ++ (named name z ++ rest)
named_before name old new rest z small e = line_before old new (named name z) rest (e ∙ ap (λ x. old ++ named name x) (kept_wide z small))
