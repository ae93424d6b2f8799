use Rattle.std.proofs.Common.{rules, ◌≡◌, ◌+◌, ◌*◌, ◌/◌, ◌<◌, ◌≤◌, ◌∙◌, ℕ, List, [], ◌∷◌, length, slice_index, slice_index_or, refl, sym}
use Rattle.std.proofs.Common.{ap, subst, arith}
use Rattle.mr_base.specs.Tasks.{total_of, start_of}
use Rattle.mr_claims.specs.Lawful.{view, IsLawful}
use Rattle.mr_claims.specs.declared.claims.ClaimPass.{ClaimPass}
use Rattle.mr_claims.specs.Passes.{IsNew}
use Rattle.mr_claims.proofs.Steps.{begins, queue_of-word_of}
use Rattle.mr_claims.proofs.Unused.{IsUnused, Cutting, cut_one, all_cut}
use Rattle.mr_claims.proofs.queues.ClaimsTaskQueues.open.Goals as goal

pub of_words-requires : goal.of_words-requires
of_words-requires c =
    let ranges = c.args.ranges.now in
    let bounds = c.copy.ensures.bounds in
    let words = c.as_slice.ensures.value in
    subst (λ (l : List (ℕ × ℕ)). IsLawful (total_of l) (length l) c.as_slice.result.now
    (view (total_of l) (length l) (length l) [] [] ∷ [])) (sym c.in_ok-kept.ensures.same)
    (begins (total_of ranges) (length ranges) c.as_slice.result.now bounds.0 bounds.1 bounds.2
    (ap length words ∙ c.in_ok-words.ensures.len)
    (λ q lt. ap (λ l. slice_index l (q * 8)) words ∙ c.in_ok-words.ensures.starts (q * 8) (omega (arith, lt))
    ∙ ap (start_of (total_of ranges) (length ranges)) (queue_of-word_of q)))

pub loop-number-preserved : goal.loop-number-preserved
loop-number-preserved c =
    let i = c.loop-number.invariant in
    let lt = c.loop-number-test.true in
    let queues = i.2 in
    let spare = c.push.ensures.spare in
    let room = i.3 in
    let ranges = ap length i.1 in
    let cut = cut_one c.whole-claims.result c.loop-number.seat c.cut_off-own.new.seat c.cut_off-own.result c.loop-number.number
    c.loop-number.passes.items c.unused.result i.0
    (omega (arith, lt, queues, ranges)) c.cut_off-own.ensures.same c.cut_off-own.ensures.left c.cut_off-own.ensures.right
    c.unused.ensures in (
      subst (Cutting c.whole-claims.result c.cut_off-own.new.seat (c.loop-number.number + 1)) (sym c.push.ensures.items) cut,
      i.1,
      i.2,
      omega (arith, spare, room),
    )

all_of : (c : goal.After-drop-words-2) → (length c.push-2.new.self.items ≡ length c.whole-claims.result.ranges)
    × ((i : ℕ) (d : ClaimPass) → i < length c.whole-claims.result.ranges
    → IsUnused c.whole-claims.result i (slice_index_or c.push-2.new.self.items i d))
all_of c =
    let i = c.loop-number.invariant in
    let no = c.loop-number-test.false in
    let end = c.loop-number.auto.number-end in
    let queues = i.2 in
    let ranges = ap length i.1 in
    let some = c.queues-queues.ensures.few.0 in
    subst (λ (l : List ClaimPass). (length l ≡ length c.whole-claims.result.ranges)
    × ((i : ℕ) (d : ClaimPass) → i < length c.whole-claims.result.ranges → IsUnused c.whole-claims.result i (slice_index_or l i d)))
    (sym c.push-2.ensures.items)
    (all_cut c.whole-claims.result c.loop-number.seat c.loop-number.number c.loop-number.passes.items c.unused-2.result i.0
    (omega (arith, no, end, queues, ranges, some))
    (subst (λ k. IsNew c.loop-number.seat k c.unused-2.result) (omega (arith, no, end)) c.unused-2.ensures))

pub returns-clause-passes : goal.returns-clause-passes
returns-clause-passes c = let all = all_of c in (all.0, λ i d lt. ((all.1 i d lt).0, (all.1 i d lt).1))

pub returns-clause-unused : goal.returns-clause-unused
returns-clause-unused c = let all = all_of c in λ i d lt. let u = all.1 i d (let n = all.0 in omega (arith, lt, n)) in (u.2, u.3)
