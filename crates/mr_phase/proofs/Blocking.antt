-- What a pass takes from its block, and that the blocks joined are all tasks.
use Rattle.std.proofs.Common.{◌≡◌, ℕ, zero, suc, ◌+◌, ◌-◌, ◌<◌, ◌≤◌, true, false, List, [], ◌∷◌, ◌++◌, length, flat_map, slice_get}
use Rattle.std.proofs.Common.{slice_index_or, Some, None, refl, sym, ap, ◌∙◌, arith, subst}
use Rattle.std.specs.List.{range_with_len}
use Rattle.std.specs.List.Sorted.{IsPermutation}
use Rattle.std.proofs.lemmas.Bool.Decides.{nat_tests}
use Rattle.std.proofs.lemmas.List.FromFn.{length-range_with_len}
use Rattle.std.proofs.lemmas.List.Sorted.{IsPermutation-refl}
use Rattle.mr_defs.proofs.Joins.{range-append}
use Rattle.mr_base.specs.Tasks.{start_of, AreAll, AreAllGiven, HaveEnded, IsApartBelow}
use Rattle.mr_base.proofs.Bridge.{times-range}
use Rattle.mr_base.proofs.Starts.{start_zero, start_last, start_up, start_below}
use Rattle.mr_phase.specs.declared.blocks.BlockPass.{BlockPass}
use Rattle.mr_phase.specs.declared.blocks.Blocks.{Blocks}
use Rattle.mr_phase.specs.Blocks.{given_of, IsBlockOf}

range_get : (a n i : ℕ) → i < n → slice_get (range_with_len a n) i ≡ Some (a + i)
range_get a zero i h = absurd (omega (arith, h))
range_get a (suc n) zero h = ap Some (omega arith)
range_get a (suc n) (suc i) h = range_get (a + 1) n i (omega (arith, h)) ∙ ap Some (omega arith)

range_past : (a n i : ℕ) → n ≤ i → slice_get (range_with_len a n) i ≡ None
range_past a zero i h = refl
range_past a (suc n) zero h = absurd (omega (arith, h))
range_past a (suc n) (suc i) h = range_past (a + 1) n i (omega (arith, h))

module _ (start next end : ℕ) (low : start ≤ next) (high : next ≤ end) where
  -- the task at a pass's place is the next of its block, and at the end none is
  pub next_is : next < end → Some next ≡ slice_get (range_with_len start (end - start)) (length (range_with_len start (next - start)))
  next_is lt =
      sym (ap (slice_get (range_with_len start (end - start))) (length-range_with_len start (next - start))
      ∙ range_get start (end - start) (next - start) (omega (arith, low, high, lt))
      ∙ ap Some (omega (arith, low)))

  pub none_is : next ≡ end → None ≡ slice_get (range_with_len start (end - start)) (length (range_with_len start (next - start)))
  none_is e =
      sym (ap (slice_get (range_with_len start (end - start))) (length-range_with_len start (next - start))
      ∙ range_past start (end - start) (next - start) (omega (arith, low, high, e)))

pub one_more : (start next : ℕ) → start ≤ next
    → range_with_len start (next - start) ++ next ∷ [] ≡ range_with_len start ((next + 1) - start)
one_more start next le =
    let last : start + (next - start) ≡ next = omega (arith, le) in
    let more : (next + 1) - start ≡ (next - start) + 1 = omega (arith, le) in
    sym (ap (range_with_len start) more ∙ range-append start (next - start) 1
    ∙ ap (λ k. range_with_len start (next - start) ++ k ∷ []) last)

pub apart_is : (tasks start next end : ℕ) → start ≤ next → next ≤ end → end ≤ tasks
    → IsApartBelow tasks (range_with_len start (next - start))
apart_is tasks start next end a b d x = let e = times-range x start (next - start) in grind (arith, nat_tests, e, a, b, d)

-- what the passes have from one number on
all_from : (q : Blocks) (k : ℕ) (ps : List BlockPass) → 0 < q.queues
    → ((i : ℕ) (d : BlockPass) → i < length ps
    → IsBlockOf q (slice_index_or ps i d) × ((slice_index_or ps i d).number ≡ k + i) × ((slice_index_or ps i d).ended ≡ true))
    → flat_map given_of ps
    ≡ range_with_len (start_of q.tasks q.queues k) (start_of q.tasks q.queues (k + length ps) - start_of q.tasks q.queues k)
all_from q k [] pos h = sym (ap (range_with_len (start_of q.tasks q.queues k)) none)
  where
    same : start_of q.tasks q.queues (k + 0) ≡ start_of q.tasks q.queues k
    same = ap (start_of q.tasks q.queues) (omega arith)

    none : start_of q.tasks q.queues (k + 0) - start_of q.tasks q.queues k ≡ 0
    none = omega (arith, same)
all_from q k (p ∷ ps) pos h =
    joins (all_from q (k + 1) ps pos (λ i d lt. let t = h (suc i) d (omega (arith, lt)) in (t.0, (let e = t.1 in omega (arith, e)), t.2)))
  where
    here : IsBlockOf q p × (p.number ≡ k + 0) × (p.ended ≡ true)
    here = h zero p (omega arith)

    num : p.number ≡ k
    num = let e = here.1 in omega (arith, e)

    a : ℕ
    a = start_of q.tasks q.queues k

    b : ℕ
    b = start_of q.tasks q.queues (k + 1)

    c : ℕ
    c = start_of q.tasks q.queues (k + 1 + length ps)

    st : p.start ≡ a
    st = here.0.1 ∙ ap (start_of q.tasks q.queues) num

    en : p.next ≡ b
    en = here.0.6 here.2 ∙ here.0.2 ∙ ap (λ n. start_of q.tasks q.queues (n + 1)) num

    cut : a + (b - a) ≡ b
    cut = let u = start_up q.tasks q.queues k (k + 1) pos (omega arith) in omega (arith, u)

    sums : (b - a) + (c - b) ≡ start_of q.tasks q.queues (k + suc (length ps)) - a
    sums =
        let z : c ≡ start_of q.tasks q.queues (k + suc (length ps)) = ap (start_of q.tasks q.queues) (omega arith) in
        let u = start_up q.tasks q.queues k (k + 1) pos (omega arith) in
        let w = start_up q.tasks q.queues (k + 1) (k + 1 + length ps) pos (omega arith) in
        omega (arith, z, u, w)

    joins : flat_map given_of ps ≡ range_with_len b (c - b)
        → flat_map given_of (p ∷ ps) ≡ range_with_len a (start_of q.tasks q.queues (k + suc (length ps)) - a)
    joins rest =
        (λ i. range_with_len (st i) (en i - st i) ++ flat_map given_of ps)
        ∙ ap (λ l. range_with_len a (b - a) ++ l) (rest ∙ ap (λ n. range_with_len n (c - b)) (sym cut))
        ∙ sym (range-append a (b - a) (c - b))
        ∙ ap (range_with_len a) sums

pub all_given : (q : Blocks) (ps : List BlockPass) → 0 < q.queues → AreAll q.queues (IsBlockOf q) (λ (p : BlockPass). p.number) ps
    → HaveEnded (λ (p : BlockPass). p.ended) ps → AreAllGiven q.tasks given_of ps
all_given q ps pos all ended =
    let n = all.0 in
    let joined = all_from q 0 ps pos
    (λ i d lt. let r = all.1 i d (omega (arith, lt, n)) in (r.0, (let e = r.1 in omega (arith, e)), ended i d lt)) in
    let first = start_zero q.tasks q.queues in
    let last : start_of q.tasks q.queues (0 + length ps) ≡ q.tasks =
    ap (start_of q.tasks q.queues) (omega (arith, n)) ∙ start_last q.tasks q.queues pos in
    let long : start_of q.tasks q.queues (0 + length ps) - start_of q.tasks q.queues 0 ≡ q.tasks = omega (arith, first, last) in
    let is : flat_map given_of ps ≡ range_with_len 0 q.tasks = joined
    ∙ ap (λ m. range_with_len m (start_of q.tasks q.queues (0 + length ps) - start_of q.tasks q.queues 0)) first
    ∙ ap (range_with_len 0) long in
    subst (IsPermutation (range_with_len 0 q.tasks)) (sym is) (IsPermutation-refl (range_with_len 0 q.tasks))

-- passes so far, none of which has taken a task
abbrev pub Opening : ℕ → ℕ → ℕ → List BlockPass → Type 0
Opening tasks queues number ps = (length ps ≡ number) × ((i : ℕ) (d : BlockPass) → i < number → let p = slice_index_or ps i d in
    (p.number ≡ i) × (p.start ≡ start_of tasks queues i) × (p.next ≡ p.start) × (p.end ≡ start_of tasks queues (i + 1)) × (p.ended ≡ false))

no_end : false ≡ true → ⊥
no_end e = cc

pub opened : (q : Blocks) (ps : List BlockPass) → Opening q.tasks q.queues q.queues ps
    → AreAll q.queues (IsBlockOf q) (λ (p : BlockPass). p.number) ps
opened q ps so = (so.0, λ i d lt. let p = so.1 i d lt in (is_block i (slice_index_or ps i d) lt p, p.0))
  where
    is_block : (i : ℕ) (p : BlockPass) → i < q.queues
        → (p.number ≡ i) × (p.start ≡ start_of q.tasks q.queues i) × (p.next ≡ p.start) × (p.end ≡ start_of q.tasks q.queues (i + 1))
        × (p.ended ≡ false) → IsBlockOf q p
    is_block i p lt h =
        let some : 0 < q.queues = omega (arith, lt) in
        let up = start_up q.tasks q.queues i (i + 1) some (omega arith) in
        let below = start_below q.tasks q.queues (i + 1) some (omega (arith, lt)) in
        let a = h.0 in let b = h.1 in let c = h.2 in let d = h.3 in
        let st : p.start ≡ start_of q.tasks q.queues p.number = b ∙ ap (start_of q.tasks q.queues) (sym a) in
        let en : p.end ≡ start_of q.tasks q.queues (p.number + 1) = d ∙ ap (λ n. start_of q.tasks q.queues (n + 1)) (sym a) in
        let low : p.start ≤ p.next = omega (arith, c) in
        let high : p.next ≤ p.end = omega (arith, b, c, d, up) in
        let top : p.end ≤ q.tasks = omega (arith, d, below) in (
          omega (arith, a, lt),
          st,
          en,
          low,
          high,
          top,
          (λ yes. absurd (no_end (sym h.4 ∙ yes))),
          apart_is q.tasks p.start p.next p.end low high top,
        )
