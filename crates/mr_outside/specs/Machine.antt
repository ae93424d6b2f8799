-- What the answers of the machine are taken for.
use Rattle.std.specs.Prelude.{ℕ, zero, suc, Option, Some, None, Ok, Err}
use Rattle.std.specs.declared.result.Result.{Result}
use Rattle.mr_outside.specs.declared.shelf.Got.{Got}
use Rattle.mr_outside.specs.declared.shelf.Got.TheVariants as got
use Rattle.mr_outside.specs.declared.sink.Put.{Put}
use Rattle.mr_outside.specs.declared.sink.Put.TheVariants as put

-- a read of no byte is at the end
abbrev pub got_of : {E : Type 0} → Result ℕ E → Got
got_of (Ok zero) = got.End
got_of (Ok (suc n)) = got.Bytes (suc n)
got_of (Err e) = got.Failed

-- a write of no byte took none
abbrev pub taken_of : {E : Type 0} → Result ℕ E → Option ℕ
taken_of (Ok zero) = None
taken_of (Ok (suc n)) = Some (suc n)
taken_of (Err e) = None

-- what was written but not flushed is lost
abbrev pub put_of : {E : Type 0} → ℕ → Result (Unit {0}) E → Put
put_of n (Ok u) = put.Took n
put_of n (Err e) = put.Failed
