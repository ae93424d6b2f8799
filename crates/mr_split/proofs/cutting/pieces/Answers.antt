use Rattle.std.proofs.Common.{subst, sym, ap, ◌∙◌, length, take, drop, ◌-◌, [], ◌∷◌}
use Rattle.std.specs.Prelude.{flat_map, filter}
use Rattle.std.specs.List.{All, range_with_len}
use Rattle.mr_defs.specs.Tasks.{items_in}
use Rattle.mr_defs.proofs.Chains.{pieces_of-IsChain}
use Rattle.mr_defs.proofs.Joins.{flat_map-all_tasks}
use Rattle.mr_split.specs.Pieces.{boundary_of, IsPiece}
use Rattle.mr_split.proofs.Whole.{each_of, pieces_joined, items_joined}
use Rattle.mr_split.proofs.cutting.pieces.Goals as goal

pub returns-clause-each : goal.returns-clause-each
returns-clause-each c =
    subst (All (IsPiece (boundary_of c.args.kind c.args.bytes.now) (length c.args.bytes.now))) (sym c.in_ok-pieces.ensures.exact)
    (each_of c.args.kind c.args.bytes.now c.args.chunk)

pub returns-clause-joined : goal.returns-clause-joined
returns-clause-joined c =
    ap (flat_map (λ q. take (q.1 - q.0) (drop q.0 c.args.bytes.now))) c.in_ok-pieces.ensures.exact
    ∙ pieces_joined c.args.bytes.now (boundary_of c.args.kind c.args.bytes.now) c.args.chunk

pub returns-clause-items : goal.returns-clause-items
returns-clause-items c = λ begins.
    let len = length c.args.bytes.now in
    ap (flat_map (λ piece. items_in piece (filter begins (range_with_len 0 len)))) c.in_ok-pieces.ensures.exact
    ∙ items_joined
    _ _ (flat_map-all_tasks (λ x. x ∷ []) begins len _ (pieces_of-IsChain (boundary_of c.args.kind c.args.bytes.now) c.args.chunk len))
