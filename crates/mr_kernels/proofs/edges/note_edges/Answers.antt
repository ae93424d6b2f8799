use Rattle.std.proofs.Common.{◌≡◌, ◌≤◌, ◌<◌, ◌+◌, ◌-◌, ◌++◌, ◌∷◌, [], ◌==◌, ◌^◌, ◌/◌, bit_and, cond, take, map, ap, sym, ◌∙◌, arith}
use Rattle.std.proofs.Common.{append-nil, append_assoc, eq-eqb}
use Rattle.std.specs.Prelude.{slice_range}
use Rattle.std.proofs.lemmas.Bool.{ne_eqb}
use Rattle.std.proofs.lemmas.List.{take_more_set}
use Rattle.std.proofs.lemmas.Nat.{and_le_r}
use Rattle.mr_kernels.specs.Scan.{is_target}
use Rattle.mr_kernels.proofs.Runs.{edges_from, edges_of_runs, few_noted, next_block, at_end}
use Rattle.mr_kernels.proofs.edges.note_edges.Goals as goal

pub loop-at-preserved : goal.loop-at-preserved
loop-at-preserved c =
    let test = is_target c.args.target in
    let xs = c.args.bytes.now in
    let at = c.loop-at.at in
    let base = at - c.args.from in
    let size = c.min-size.result in
    let mask = c.sought_from-mask.result in
    let before = c.loop-at.before in
    let some : 0 < size = omega (arith, c.min-size.ensures, c.loop-at-test.true) in
    let few : size ≤ 64 = omega (arith, c.min-size.ensures) in
    let order : at + size ≤ c.args.to = omega (arith, c.min-size.ensures, c.loop-at-test.true) in
    let noted = few_noted test xs base at c.args.to size mask before some few order c.requires.inside c.sought_from-mask.ensures
    c.loop-at.invariant.bit in
    let edges = next_block test xs base at c.args.to size mask before some few order c.requires.inside c.sought_from-mask.ensures
    c.loop-at.invariant.bit in
    let there : at + size - c.args.from ≡ base + size = omega (arith, c.loop-at.invariant.later) in
    record {
      later = omega (arith, c.loop-at.invariant.later);
      inside = order;
      same = c.note_bits-count.ensures.same ∙ c.loop-at.invariant.same;
      few = omega (arith, c.note_bits-count.ensures.number, noted, c.loop-at.invariant.few, c.loop-at.invariant.later);
      bit = and_le_r _ 1;
      so_far = ap (λ k. take c.note_bits-count.result c.note_bits-count.new.edges
          ++ edges_from (bit_and (mask / 2 ^ (size - 1)) 1 == 1) k (map test (slice_range xs (at + size) c.args.to))) there
          ∙ ap (λ es. es ++ edges_from (bit_and (mask / 2 ^ (size - 1)) 1 == 1) (base + size)
          (map test (slice_range xs (at + size) c.args.to))) c.note_bits-count.ensures.places
          ∙ append_assoc (take c.loop-at.count c.loop-at.edges) _ _
          ∙ ap (λ es. take c.loop-at.count c.loop-at.edges ++ es) (sym edges)
          ∙ c.loop-at.invariant.so_far;
    }

pub returns-then-before-eq1-clause-edges : goal.returns-then-before-eq1-clause-edges
returns-then-before-eq1-clause-edges c =
    let test = is_target c.args.target in
    let xs = c.args.bytes.now in
    let taken = take c.loop-at.count c.loop-at.edges in
    let there : c.loop-at.at ≡ c.args.to = omega (arith, c.loop-at.invariant.inside, c.loop-at-test.false) in
    take_more_set c.loop-at.edges c.loop-at.count (c.args.to - c.args.from)
    (omega (arith, c.loop-at.invariant.few, c.loop-at.invariant.same, c.loop-at.invariant.inside, c.requires.room, c.requires.order))
    ∙ ap (λ es. taken ++ es)
    (sym (at_end test xs c.args.from c.loop-at.at c.args.to c.loop-at.before there
    ∙ ap (λ b. cond b ((c.args.to - c.args.from) ∷ []) []) (eq-eqb c.loop-at.before 1 c.if-before-eq1.true)))
    ∙ c.loop-at.invariant.so_far
    ∙ edges_of_runs test (slice_range xs c.args.from c.args.to)

pub returns-else-before-eq1-clause-edges : goal.returns-else-before-eq1-clause-edges
returns-else-before-eq1-clause-edges c =
    let test = is_target c.args.target in
    let xs = c.args.bytes.now in
    let taken = take c.loop-at.count c.loop-at.edges in
    let there : c.loop-at.at ≡ c.args.to = omega (arith, c.loop-at.invariant.inside, c.loop-at-test.false) in
    sym (append-nil taken)
    ∙ ap (λ es. taken ++ es)
    (sym (at_end test xs c.args.from c.loop-at.at c.args.to c.loop-at.before there
    ∙ ap (λ b. cond b ((c.args.to - c.args.from) ∷ []) []) (ne_eqb c.loop-at.before 1 c.if-before-eq1.false)))
    ∙ c.loop-at.invariant.so_far
    ∙ edges_of_runs test (slice_range xs c.args.from c.args.to)
