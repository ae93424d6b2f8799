use Rattle.std.proofs.Common.{◌≡◌, ◌<◌, ◌∙◌, ap, sym, Some, None, length, set, arith}
use Rattle.std.proofs.lemmas.List.{get_or_default, set-get_or}
use Rattle.std.specs.Cmp.{nat_cmp_total}
use Rattle.std.specs.FinMap.{nat_cmp-IsAntisymmetric}
use Rattle.mr_defs.specs.Commutative.{joined}
use Rattle.mr_container.proofs.Emitted.{after_pair_outside}
use Rattle.mr_array.specs.Cells.{is_below}
use Rattle.mr_array.proofs.Places.{below, not_below, emitted, emitted_ok}
use Rattle.mr_array.proofs.array.ArrayLocalLocal.emit.Goals as goal

pub returns-then-key-self-clause-ok : goal.returns-then-key-self-clause-ok
returns-then-key-self-clause-ok g c es was = rw c.keep_lesser.ensures
    (after_pair_outside nat_cmp_total nat_cmp-IsAntisymmetric
    (is_below g.S.Size.size) g.C.Combiner.unit_of g.met.C.Combiner.laws _ _ _ es was c.args.key c.args.value
    (not_below g.S.Size.size c.args.key (omega (arith, c.if-key-self.true, c.key.view_is, c.args.self.now.sized))))

pub returns-in-Some-clause-ok : goal.returns-in-Some-clause-ok
returns-in-Some-clause-ok g c =
    let cells = c.args.self.now.cells in
    let place = c.key.inside.0 in
    let within : place < length cells.items =
    omega (arith, c.if-key-self.false, c.args.self.now.sized, c.args.self.now.places, cells.ok.0) in
    emitted_ok (is_below g.S.Size.size) g.C.Combiner.unit_of g.met.C.Combiner.laws cells.items _ c.args.key place c.key.view_is
    c.args.value within (below g.S.Size.size c.args.key (omega (arith, c.if-key-self.false, c.key.view_is, c.args.self.now.sized)))
    c.in-Some.cell c.add.new.cell _ (get_or_default cells.items place None _ within ∙ sym c.index_mut.ensures.value ∙ c.in-Some.is)
    c.add.ensures.ok

pub returns-in_ok-cell-in-None-clause-ok : goal.returns-in_ok-cell-in-None-clause-ok
returns-in_ok-cell-in-None-clause-ok g c es was =
    let cells = c.args.self.now.cells in
    let place = c.key.inside.0 in
    let within : place < length cells.items =
    omega (arith, c.if-key-self.false, c.args.self.now.sized, c.args.self.now.places, cells.ok.0) in
    let same : set cells.items place c.index_mut.result.now ≡ cells.items =
    ap (set cells.items place) c.index_mut.ensures.value ∙ set-get_or cells.items place c.index_mut.result.now in
    rw same (emitted (is_below g.S.Size.size) g.C.Combiner.unit_of g.met.C.Combiner.laws cells.items _ c.args.key place c.key.view_is
    c.args.value within (below g.S.Size.size c.args.key (omega (arith, c.if-key-self.false, c.key.view_is, c.args.self.now.sized)))
    c.in_ok-cell-in-None.cell
    (ap Some c.in_ok-cell-in-None.ensures.ok
    ∙ ap (λ x. joined g.C.Combiner.merged x (Some (g.C.Combiner.unit_of c.args.value)))
    (sym (get_or_default cells.items place None _ within ∙ sym c.index_mut.ensures.value ∙ c.in-None.is))) es was)
