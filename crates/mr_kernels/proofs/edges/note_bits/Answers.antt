use Rattle.std.proofs.Common.{◌<◌, ◌+◌, ◌-◌, ◌++◌, ◌∷◌, [], length, take, bit_and, ap, sym, ◌∙◌, arith, rules, append-nil, append_assoc}
use Rattle.std.specs.Int.Count.{count_trailing_zeros}
use Rattle.std.proofs.lemmas.List.{take_more_set, length-set}
use Rattle.mr_kernels.specs.Edges.{bits, set_places}
use Rattle.mr_kernels.proofs.Bits.{none, lowest_first, room}
use Rattle.mr_kernels.proofs.edges.note_bits.Goals as goal

pub bounds-edges-at : goal.bounds-edges-at
bounds-edges-at c =
    room c.args.base c.loop-rest.rest (search rules) c.loop-rest.at c.args.from c.args.mask (length c.loop-rest.edges)
    (omega (arith, c.loop-rest-test.true)) (search rules) c.loop-rest.invariant.number
    (omega (arith, c.loop-rest.invariant.same, c.requires.room))

pub offset_bounds-edges-at : goal.offset_bounds-edges-at
offset_bounds-edges-at c =
    let below : c.loop-rest.at
    < length c.loop-rest.edges = room c.args.base c.loop-rest.rest (search rules) c.loop-rest.at c.args.from c.args.mask
    (length c.loop-rest.edges) (omega (arith, c.loop-rest-test.true)) (search rules) c.loop-rest.invariant.number
    (omega (arith, c.loop-rest.invariant.same, c.requires.room)) in
    search rules

pub overflow_add-at : goal.overflow_add-at
overflow_add-at c =
    let below : c.loop-rest.at
    < length c.loop-rest.edges = room c.args.base c.loop-rest.rest (search rules) c.loop-rest.at c.args.from c.args.mask
    (length c.loop-rest.edges) (omega (arith, c.loop-rest-test.true)) (search rules) c.loop-rest.invariant.number
    (omega (arith, c.loop-rest.invariant.same, c.requires.room)) in
    search rules

pub loop-rest-preserved : goal.loop-rest-preserved
loop-rest-preserved c =
    let below : c.loop-rest.at
    < length c.loop-rest.edges = room c.args.base c.loop-rest.rest (search rules) c.loop-rest.at c.args.from c.args.mask
    (length c.loop-rest.edges) (omega (arith, c.loop-rest-test.true)) (search rules) c.loop-rest.invariant.number
    (omega (arith, c.loop-rest.invariant.same, c.requires.room)) in
    let rest = c.loop-rest.rest in
    let first = lowest_first c.args.base rest (search rules) (omega (arith, c.loop-rest-test.true)) in
    let later = set_places c.args.base (bits 64 (bit_and rest (rest - 1))) in
    record {
      same = length-set c.loop-rest.edges c.loop-rest.at _ ∙ c.loop-rest.invariant.same;
      number = let one = ap length first in omega (arith, one, c.loop-rest.invariant.number);
      places = ap (λ es. es ++ later) (take_more_set c.loop-rest.edges c.loop-rest.at (c.args.base + count_trailing_zeros 64 rest) below)
          ∙ append_assoc (take c.loop-rest.at c.loop-rest.edges) ((c.args.base + count_trailing_zeros 64 rest) ∷ []) later
          ∙ ap (λ es. take c.loop-rest.at c.loop-rest.edges ++ es) (sym first)
          ∙ c.loop-rest.invariant.places;
    }

pub returns-clause-number : goal.returns-clause-number
returns-clause-number c =
    let all = ap length (none c.args.base c.loop-rest.rest (search rules) (omega (arith, c.loop-rest-test.false))) in
    omega (arith, all, c.loop-rest.invariant.number)

pub returns-clause-places : goal.returns-clause-places
returns-clause-places c =
    let taken = take c.loop-rest.at c.loop-rest.edges in
    sym (append-nil taken) ∙ ap (λ es. taken ++ es)
    (sym (none c.args.base c.loop-rest.rest (search rules) (omega (arith, c.loop-rest-test.false)))) ∙ c.loop-rest.invariant.places
