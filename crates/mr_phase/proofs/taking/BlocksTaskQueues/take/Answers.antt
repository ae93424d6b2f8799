use Rattle.std.proofs.Common.{refl, arith, sym, subst, ◌≤◌, ◌+◌, ◌-◌, ◌++◌, ◌∷◌, []}
use Rattle.std.specs.List.{range_with_len}
use Rattle.std.specs.List.Sorted.{IsPermutation}
use Rattle.std.proofs.lemmas.List.Sorted.{IsPermutation-refl}
use Rattle.mr_phase.proofs.Blocking.{next_is, one_more, apart_is}
use Rattle.mr_phase.proofs.taking.BlocksTaskQueues.take.Goals as goal

pub returns-clause-some : goal.returns-clause-some
returns-clause-some c =
    let p = c.args.pass.now in
    let l = range_with_len p.start (p.next - p.start) ++ p.next ∷ [] in (
      (let a = c.requires.4 in let b = c.requires.5 in let d = c.if-pass.false in omega (arith, a, b, d)),
      subst (IsPermutation l) (one_more p.start p.next c.requires.3) (IsPermutation-refl l),
      refl,
    )

pub returns-clause-same : goal.returns-clause-same
returns-clause-same c =
    let p = c.args.pass.now in
    let a = c.requires.3 in let b = c.requires.4 in let d = c.if-pass.false in
    let fits : p.next + 1 ≤ p.end = omega (arith, b, d) in
    let up : p.start ≤ p.next + 1 = omega (arith, a) in (
      (
        c.requires.0,
        c.requires.1,
        c.requires.2,
        up,
        fits,
        c.requires.5,
        (λ yes. absurd (d (c.requires.6 yes))),
        apart_is c.args.self.now.tasks p.start (p.next + 1) p.end up fits c.requires.5,
      ),
      refl,
    )

pub returns-clause-order : goal.returns-clause-order
returns-clause-order c =
    let p = c.args.pass.now in
    rw (sym c.requires.1, sym c.requires.2)
    (let a = c.requires.4 in let d = c.if-pass.false in next_is p.start p.next p.end c.requires.3 c.requires.4 (omega (arith, a, d)))
