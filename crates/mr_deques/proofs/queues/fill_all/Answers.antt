use Rattle.std.proofs.Common.{◌≡◌, ◌+◌, ◌∷◌, ◌++◌, [], true, sym, ap, ◌∙◌, subst, arith, length, slice_index_or}
use Rattle.crossbeam_deque.specs.Handles.{worker_deque, worker_flavor, worker_view, stealer_deque, stealer_flavor}
use Rattle.mr_base.specs.Tasks.{total_of, start_of}
use Rattle.mr_base.proofs.Passes.{length-push, each_push}
use Rattle.mr_deques.specs.declared.passes.DequePass.{DequePass}
use Rattle.mr_deques.specs.Lawful.{view, about}
use Rattle.mr_deques.proofs.Shares.{IsFresh, fresh_sharing, push_both}
use Rattle.mr_deques.proofs.queues.fill_all.Goals as goal

pub loop-q-preserved : goal.loop-q-preserved
loop-q-preserved c =
    let i = c.loop-q.invariant in
    let ranges = c.args.ranges.now in
    let tasks = total_of ranges in
    let queues = length ranges in
    let q = c.loop-q.q in
    let thieves = c.loop-q.thieves.items in
    let passes = c.loop-q.passes.items in
    let thief = c.in_ok-stealer.field-0 in
    let pass : DequePass = c.in_ok-unused.field-0 in
    let made = c.in_ok-unused.ensures.made in
    let o = c.in_ok-owner.ensures in
    let s = c.in_ok-stealer.ensures in
    let a = c.push.ensures in
    let b = c.push-in-loop-q.ensures in
    let even = c.range-start.ensures.even in
    let count = i.0 in
    let v : worker_view c.in_ok-owner.owner
    ≡ view (about (start_of tasks queues q) (start_of tasks queues (q + 1)) queues)
    (start_of tasks queues (q + 1) + queues) queues [] true =
    o.1 ∙ (λ k. view (about (even.0 k) (even.1 k) (count k)) (even.1 k + count k) (count k) [] true) in
    let new : IsFresh tasks queues q pass × (worker_deque pass.own ≡ stealer_deque thief) = (
      (
        made.1,
        c.in_ok-unused.ensures.unmarked.0,
        made.3,
        ap worker_flavor made.0 ∙ o.0,
        made.2,
        ap worker_view made.0 ∙ v,
        c.in_ok-unused.ensures.unmarked.1,
      ),
      ap worker_deque made.0 ∙ sym s.0,
    ) in
    let room = i.1 in
    let room' = i.2 in
    let spare = a.spare in
    let spare' = b.spare in (
      count,
      omega (arith, room, spare),
      omega (arith, room', spare'),
      ap length a.items ∙ length-push thieves thief ∙ ap (λ n. n + 1) i.3,
      ap length b.items ∙ length-push passes pass ∙ ap (λ n. n + 1) i.4,
      (λ k t lt. ap (λ l. stealer_flavor (slice_index_or l k t)) a.items
          ∙ each_push (λ k x. stealer_flavor x ≡ 0) q thieves thief i.3 i.5 (s.1 ∙ o.0) k t lt),
      (λ k e t lt. subst (λ l. IsFresh tasks queues k (slice_index_or l k e)
          × (worker_deque (slice_index_or l k e).own ≡ stealer_deque (slice_index_or c.push.new.self.items k t))) (sym b.items)
          (subst (λ l. IsFresh tasks queues k (slice_index_or (passes ++ pass ∷ []) k e)
          × (worker_deque (slice_index_or (passes ++ pass ∷ []) k e).own ≡ stealer_deque (slice_index_or l k t))) (sym a.items)
          (push_both (λ j x y. IsFresh tasks queues j x × (worker_deque x.own ≡ stealer_deque y)) passes thieves pass thief q i.4 i.3 i.6
          new k e t lt))),
    )

pub returns : goal.returns
returns c =
    let i = c.loop-q.invariant in
    let w = c.whole.ensures in
    let no = c.loop-q-test.false in
    let end = c.loop-q.auto.q-end in
    let count = i.0 in
    let ranges = w.1 ∙ c.in_ok-kept.ensures.same in
    let same = ap length ranges in
    let all : c.loop-q.q ≡ length c.whole.result.ranges = omega (arith, no, end, count, same) in
    let passes = c.loop-q.passes.items in (
      ranges,
      fresh_sharing c.whole.result passes c.whole.result.few.0
          (ap (λ f. length f.items) w.0 ∙ i.3 ∙ all)
          (i.4 ∙ all)
          (λ k t lt. ap (λ f. stealer_flavor (slice_index_or f.items k t)) w.0 ∙ i.5 k t (omega (arith, lt, all)))
          (λ k e t lt. let r = i.6 k e t (omega (arith, lt, all)) in (
            subst (λ l. IsFresh (total_of l) (length l) k (slice_index_or passes k e)) (sym ranges) r.0,
            r.1 ∙ ap (λ f. stealer_deque (slice_index_or f.items k t)) (sym w.0),
          )),
    )
