-- What a look-up in a table says of its members.
use Rattle.std.proofs.Common.{◌≡◌, Bool, true, false, not, Option, Some, None, is_some, option_map, Bor}
use Rattle.toml.specs.Data.{Data}

pub missing : {V : Type 0} (view : V → Data) (found : Option (Bor V)) (d : Option Data) (none : Bool)
    → option_map (λ x. view x.now) found ≡ d → is_some found ≡ not none
    → none ≡ not (is_some d)
missing view None d true e n = rw (← e)
missing view None d false e n = cc
missing view (Some x) d true e n = cc
missing view (Some x) d false e n = rw (← e)
