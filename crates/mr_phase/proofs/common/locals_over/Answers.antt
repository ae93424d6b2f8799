use Rattle.std.proofs.Common.{◌≡◌, [], ◌∷◌, ◌++◌, Some, nat_lt, ap, ◌∙◌, arith}
use Rattle.std.specs.Ordering.{nat_cmp}
use Rattle.std.proofs.lemmas.List.Elements.{All-pop, All-push, All-same}
use Rattle.mr_base.specs.Noting.{noted_of}
use Rattle.mr_common.specs.Passes.{IsPassOf, IsUnused, won, refused}
use Rattle.mr_defs.specs.Stands.{SharesFor}
use Rattle.mr_phase.proofs.Sorts.{one_longer}
use Rattle.mr_phase.proofs.common.locals_over.Goals as goal

pub loop-pass-preserved : goal.loop-pass-preserved
loop-pass-preserved c =
    let i = c.loop-pass.invariant in
    let array = c.args.array.now in
    let popped = c.in-Some.ensures.0 in
    let pushed = c.push.ensures.items ∙ ap (λ l. l ++ c.new.result ∷ []) c.room.ensures.items in
    let n = one_longer _ _ _ popped in
    let m = one_longer _ _ _ pushed in
    let s = i.0 in (
      omega (arith, n, m, s),
      (All-pop (IsPassOf array.table.shared.table_id array.size) _ c.pop.new.self.items (Some c.in-Some.pass) popped i.1).0,
      (All-pop IsUnused _ c.pop.new.self.items (Some c.in-Some.pass) popped i.2).0,
      All-same (λ s. s.array.now ≡ array) _ _ pushed (All-push (λ s. s.array.now ≡ array) _ c.new.result i.3 c.new.ensures.origin.0),
      All-same
          (λ s. SharesFor nat_cmp (λ k. nat_lt k s.array.now.size) (won s.pass) (refused s.pass) s.cells (noted_of s.faults) []) _ _ pushed
          (All-push (λ s. SharesFor nat_cmp (λ k. nat_lt k s.array.now.size) (won s.pass) (refused s.pass) s.cells (noted_of s.faults) [])
          _ c.new.result i.4 c.new.ensures.empty),
    )
