use Rattle.std.proofs.Common.{◌≡◌, ◌<◌, ◌≤◌, [], ◌∷◌, ◌++◌, nat_lt, refl, ap, ◌∙◌, subst, arith, to_z, of_z}
use Rattle.std.specs.Cmp.{nat_cmp_total}
use Rattle.std.specs.FinMap.{nat_cmp-IsAntisymmetric}
use Rattle.std.proofs.lemmas.Int.{to_z-of_z}
use Rattle.std.proofs.lemmas.List.{length-map}
use mathlib.Core.Logic.{dite}
use mir.Syntax.{w64}
use native.Mathlib.Decide.{dec_lt}
use Rattle.mr_base.proofs.Times.{apart_length}
use Rattle.mr_common.specs.Lawful.{keys}
use Rattle.mr_common.specs.Passes.{won, refused}
use Rattle.mr_common.proofs.Emitting.{after_won, after_refused, after_outside, below, not_below}
use Rattle.mr_common.proofs.local.CommonLocalLocal.emit.Goals as goal

pub overflow_add-self : goal.overflow_add-self
overflow_add-self c =
    let l = c.args.self.now in
    let few = apart_length c.args.self.now.array.now.size (keys (won l.pass)) l.of.3 in
    let same = length-map (won l.pass) (λ p. p.0) in
    let n = l.counted in
    let small = l.array.now.few.1 in
    omega (arith, few, same, n, small)

pub returns-in-Won-clause-ok : goal.returns-in-Won-clause-ok
returns-in-Won-clause-ok c es was =
    let w = c.in-Won.ensures.won refl in
    let t = c.ranges.value.sfits in
    let z : to_z w64 (of_z w64 c.args.value) ≡ c.args.value = grind (arith, to_z-of_z, t) in
    let more : won c.emit.new.pass ≡ won c.args.self.now.pass ++ (c.args.key, c.args.value) ∷ [] =
    w.0 ∙ (λ i. won c.args.self.now.pass ++ (c.key.view_is i, z i) ∷ []) in
    let lt : c.key.inside.0 < c.args.self.now.array.now.size = dite (dec_lt c.key.inside.0 c.args.self.now.array.now.size) (λ x. x)
    (λ no. absurd (let e = c.in-Won.ensures.outside.1 (omega (arith, no)) in cc)) in
    rw (more, w.1) (after_won nat_cmp_total nat_cmp-IsAntisymmetric
    (λ k. nat_lt k c.args.self.now.array.now.size) _ _ _ _ es was c.args.key c.args.value
    (below c.args.self.now.array.now.size c.args.key (subst (λ k. k < c.args.self.now.array.now.size) c.key.view_is lt)))

pub returns-in-Twice-clause-ok : goal.returns-in-Twice-clause-ok
returns-in-Twice-clause-ok c es was =
    let w = c.in-Twice.ensures.twice refl in
    let more : refused c.emit.new.pass ≡ refused c.args.self.now.pass ++ c.args.key ∷ [] =
    w.1 ∙ (λ i. refused c.args.self.now.pass ++ c.key.view_is i ∷ []) in
    let lt : c.key.inside.0 < c.args.self.now.array.now.size = dite (dec_lt c.key.inside.0 c.args.self.now.array.now.size) (λ x. x)
    (λ no. absurd (let e = c.in-Twice.ensures.outside.1 (omega (arith, no)) in cc)) in
    rw (w.0, more, c.keep_lesser.ensures)
    (after_refused nat_cmp_total nat_cmp-IsAntisymmetric
    (λ k. nat_lt k c.args.self.now.array.now.size) _ _ _ _ es was c.args.key c.args.value
    (below c.args.self.now.array.now.size c.args.key (subst (λ k. k < c.args.self.now.array.now.size) c.key.view_is lt)))

pub returns-in-Outside-clause-ok : goal.returns-in-Outside-clause-ok
returns-in-Outside-clause-ok c es was =
    let same = c.in-Outside.ensures.unchanged refl in
    let past = c.in-Outside.ensures.outside.0 refl in
    rw (ap won same, ap refused same, c.keep_lesser-in-Outside.ensures)
    (after_outside nat_cmp_total nat_cmp-IsAntisymmetric
    (λ k. nat_lt k c.args.self.now.array.now.size) _ _ _ _ es was c.args.key c.args.value
    (not_below c.args.self.now.array.now.size c.args.key (subst (λ k. c.args.self.now.array.now.size ≤ k) c.key.view_is past)))
