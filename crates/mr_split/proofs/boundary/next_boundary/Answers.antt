use Rattle.std.proofs.Common.{sym, ◌∙◌, length, arith}
use Rattle.mr_split.specs.Pieces.{boundary_of}
use Rattle.mr_split.proofs.Forward.{boundary_from_is}
use Rattle.mr_split.proofs.boundary.next_boundary.Goals as goal

pub returns-then-is_boundary : goal.returns-then-is_boundary
returns-then-is_boundary c = sym
    (boundary_from_is (boundary_of c.args.kind c.args.bytes.now) (length c.args.bytes.now) c.args.from c.loop-place.place (omega arith)
    (omega arith) c.loop-place.invariant (λ _. sym c.is_boundary.ensures ∙ c.if-is_boundary.true))

pub returns : goal.returns
returns c = sym (boundary_from_is (boundary_of c.args.kind c.args.bytes.now) (length c.args.bytes.now) c.args.from
    (length c.args.bytes.now) (omega arith) (omega arith) (λ k from below. c.loop-place.invariant k from (omega arith))
    (λ below. absurd (omega (arith, below))))
