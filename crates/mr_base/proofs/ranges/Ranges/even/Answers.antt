use Rattle.std.specs.List.{range_with_len}
use Rattle.std.proofs.Common.{◌≡◌, ◌<◌, ◌≤◌, ◌∙◌, ap, sym, subst, arith, ◌++◌, ◌∷◌, [], map, ℕ}
use Rattle.std.proofs.lemmas.List.FromFn.{map-range_with_len_more}
use Rattle.mr_defs.specs.Tasks.{most_tasks}
use Rattle.mr_base.specs.Tasks.{ranges_of, range_of}
use Rattle.mr_base.proofs.Starts.{ranges_total, ranges_count}
use Rattle.mr_base.proofs.ranges.Ranges.even.Goals as goal

pub loop-q-preserved : goal.loop-q-preserved
loop-q-preserved c = (
  c.push.ensures.items ∙ ap (λ l. l ++ (c.start.result, c.start-in-loop-q.result) ∷ []) c.loop-q.invariant.0
      ∙ ap (λ (r : ℕ × ℕ). map (range_of c.args.tasks c.args.queues) (range_with_len 0 c.loop-q.q) ++ r ∷ [])
      (λ i. (c.start.ensures i, c.start-in-loop-q.ensures i))
      ∙ sym (map-range_with_len_more (range_of c.args.tasks c.args.queues) 0 c.loop-q.q c.loop-q.q (omega arith)),
  (let s = c.push.ensures.spare in let v = c.loop-q.invariant.1 in omega (arith, s, v)),
)

pub invariant_of-result : goal.invariant_of-result
invariant_of-result c =
    let all = c.loop-q.invariant.0 in
    let end : c.loop-q.q ≡ c.args.queues = omega (arith, c.loop-q-test.false, c.loop-q.auto.q-end) in
    let is : c.loop-q.kept.items ≡ ranges_of c.args.tasks c.args.queues =
    subst (λ n. c.loop-q.kept.items ≡ map (range_of c.args.tasks c.args.queues) (range_with_len 0 n)) end all in
    let count = ranges_count c.args.tasks c.args.queues c.loop-q.kept.items is in
    subst (λ n. (c.loop-q.kept.items ≡ ranges_of c.args.tasks n) × (c.args.tasks ≤ most_tasks) × (0 < n) × (n ≤ 32)) (sym count)
    (is, c.requires.0, c.requires.1, c.requires.2)

pub returns-clause-split : goal.returns-clause-split
returns-clause-split c =
    let end : c.loop-q.q ≡ c.args.queues = omega (arith, c.loop-q-test.false, c.loop-q.auto.q-end) in
    subst (λ n. c.loop-q.kept.items ≡ map (range_of c.args.tasks c.args.queues) (range_with_len 0 n)) end c.loop-q.invariant.0

pub returns-clause-counts : goal.returns-clause-counts
returns-clause-counts c =
    let end : c.loop-q.q ≡ c.args.queues = omega (arith, c.loop-q-test.false, c.loop-q.auto.q-end) in
    let is = subst (λ n. c.loop-q.kept.items ≡ map (range_of c.args.tasks c.args.queues) (range_with_len 0 n)) end c.loop-q.invariant.0 in
    (ranges_total _ _ _ is c.requires.1, ranges_count _ _ _ is)
