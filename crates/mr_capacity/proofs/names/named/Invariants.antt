use Rattle.std.proofs.Common.{◌≡◌, drop}
use Rattle.mr_capacity.specs.Names.{entries, named}
use Rattle.mr_capacity.proofs.names.named.Given as goal

abbrev pub invariant-loop-name : goal.invariant-loop-name
invariant-loop-name g l = named (entries l.names) l.text ≡ named (entries (drop l.name-index l.names)) l.text
