-- What a sink in memory holds.
use Rattle.std.specs.Prelude.{ℕ, List}
use Rattle.mr_outside.specs.Calls.{Calls}

-- the bytes that it took, how many it takes in all, its calls of `write` and its faults
pub record SinkState : Type 0 where
  pub bytes : List ℕ
  pub room : ℕ
  pub calls : Calls
  pub faults : ℕ
