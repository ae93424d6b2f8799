use Rattle.std.proofs.Common.{◌≡◌, ◌≤◌, ◌<◌, ◌+◌, ◌*◌, ℕ, [], ◌∷◌, length, get_or, refl, sym, ◌∙◌, ap, arith, rules, w64}
use Rattle.std.specs.Prelude.{slice_range}
use Rattle.std.proofs.lemmas.Int.{to_z-of_z}
use Rattle.mr_defs.specs.Emission.{Pair}
use Rattle.mr_items.specs.FoldLines.{fields_emit}
use Rattle.mr_items.specs.Lines.{is_field_byte}
use Rattle.mr_items.specs.Runs.{run_places, runs}
use Rattle.mr_lines.proofs.Fields as fields
use Rattle.mr_lines.proofs.fold.pair_of.Given.{Over}
use Rattle.mr_lines.proofs.fold.pair_of.Goals.{Else-count-ne4}
use Rattle.mr_lines.proofs.fold.pair_of.Goals as goal

pub returns-then-count-ne4-clause-same : goal.returns-then-count-ne4-clause-same
returns-then-count-ne4-clause-same g c = λ place. fields.other_fields c.args.text.now c.args.from c.args.to c.requires.order
    c.requires.inside c.args.edges.now c.args.count c.requires.number c.requires.edges g.K.FieldKey.of_field place c.requires.some
    c.if-count-ne4.true

-- of the two fields: they are there, in order and inside the line
module _ (g : Over) (c : Else-count-ne4 g) where
  there : (i : ℕ) → i < 2 → i < length (run_places is_field_byte (slice_range c.args.text.now c.args.from c.args.to))
  there i h = omega (
    arith,
    h,
    c.if-count-ne4.false,
    fields.whole c.args.text.now c.args.from c.args.to c.requires.order c.requires.inside c.args.edges.now c.args.count c.requires.number
        c.requires.edges,
  )

  ordered : (i : ℕ) → i < 2 → get_or c.args.edges.now (2 * i) 0 ≤ get_or c.args.edges.now (2 * i + 1) 0
  ordered i h = fields.field_order c.args.text.now c.args.from c.args.to c.requires.order c.requires.inside c.args.edges.now c.args.count
      c.requires.number c.requires.edges i (there i h)

  within : (i : ℕ) → i < 2 → c.args.from + get_or c.args.edges.now (2 * i + 1) 0 ≤ length c.args.text.now
  within i h = let ends = fields.field_inside c.args.text.now c.args.from c.args.to c.requires.order c.requires.inside c.args.edges.now
      c.args.count c.requires.number c.requires.edges i (there i h) in omega (arith, ends, c.requires.inside)

  pair_is : (place : ℕ) → fields_emit g.K.FieldKey.of_field place (runs is_field_byte (slice_range c.args.text.now c.args.from c.args.to))
      ≡ fields_emit g.K.FieldKey.of_field place
      (slice_range c.args.text.now (c.args.from + get_or c.args.edges.now 0 0) (c.args.from + get_or c.args.edges.now 1 0)
      ∷ slice_range c.args.text.now (c.args.from + get_or c.args.edges.now 2 0) (c.args.from + get_or c.args.edges.now 3 0) ∷ [])
  pair_is place = ap (fields_emit g.K.FieldKey.of_field place)
      (fields.two_fields c.args.text.now c.args.from c.args.to c.requires.order c.requires.inside c.args.edges.now c.args.count
      c.requires.number c.requires.edges c.if-count-ne4.false)

pub slice_bounds-read_number-count : goal.slice_bounds-read_number-count
slice_bounds-read_number-count g c = let h = ordered g (goal.at.slice_bounds-read_number-count g c).Else-count-ne4 1 (omega arith) in
    omega (arith, h)

pub slice_bounds-read_number-start : goal.slice_bounds-read_number-start
slice_bounds-read_number-start g c =
    let h = ordered g (goal.at.slice_bounds-read_number-start g c).Else-count-ne4 1 (omega arith) in
    let less : c.args.from + get_or c.args.edges.now 2 0 ≤ c.args.from + get_or c.args.edges.now 3 0 = omega (arith, h) in
    let inside : c.args.from + get_or c.args.edges.now 3 0 ≤ length c.args.text.now =
    within g (goal.at.slice_bounds-read_number-start g c).Else-count-ne4 1 (omega arith) in
    search rules

pub slice_bounds-read_number-end : goal.slice_bounds-read_number-end
slice_bounds-read_number-end g c =
    let h = ordered g (goal.at.slice_bounds-read_number-end g c).Else-count-ne4 1 (omega arith) in
    let less : c.args.from + get_or c.args.edges.now 2 0 ≤ c.args.from + get_or c.args.edges.now 3 0 = omega (arith, h) in
    let inside : c.args.from + get_or c.args.edges.now 3 0 ≤ length c.args.text.now =
    within g (goal.at.slice_bounds-read_number-end g c).Else-count-ne4 1 (omega arith) in
    search rules

pub returns-in-None-clause-same : goal.returns-in-None-clause-same
returns-in-None-clause-same g c = λ place.
    pair_is g (goal.at.returns-in-None-clause-same g c).Else-count-ne4 place
    ∙ fields.no_value g.K.FieldKey.of_field place
    (slice_range c.args.text.now (c.args.from + get_or c.args.edges.now 0 0) (c.args.from + get_or c.args.edges.now 1 0))
    (slice_range c.args.text.now (c.args.from + get_or c.args.edges.now 2 0) (c.args.from + get_or c.args.edges.now 3 0))
    (sym c.read_number.ensures ∙ c.in-None.is)

pub read-requires : goal.read-requires
read-requires g c = λ k. (
  (refl, tt),
  let there = (goal.at.read-requires g c).Else-count-ne4 in
      let h = ordered g there 0 (omega arith) in
      (omega (arith, h), within g there 0 (omega arith)),
)

pub returns-in-Some-2-clause-same : goal.returns-in-Some-2-clause-same
returns-in-Some-2-clause-same g c = λ place.
    pair_is g (goal.at.returns-in-Some-2-clause-same g c).Else-count-ne4 place
    ∙ fields.a_pair g.K.FieldKey.of_field place
    (slice_range c.args.text.now (c.args.from + get_or c.args.edges.now 0 0) (c.args.from + get_or c.args.edges.now 1 0))
    (slice_range c.args.text.now (c.args.from + get_or c.args.edges.now 2 0) (c.args.from + get_or c.args.edges.now 3 0)) c.in-Some-2.key
    c.in-Some.value (sym c.in_ok-key.ensures.same ∙ c.in-Some-2.is) (sym c.read_number.ensures ∙ c.in-Some.is)
    ∙ ap (λ v. Pair c.in-Some-2.key v ∷ []) (sym (to_z-of_z w64 c.in-Some.value (search rules)))

pub returns-in-None-2-clause-same : goal.returns-in-None-2-clause-same
returns-in-None-2-clause-same g c = λ place.
    pair_is g (goal.at.returns-in-None-2-clause-same g c).Else-count-ne4 place
    ∙ fields.no_key g.K.FieldKey.of_field place
    (slice_range c.args.text.now (c.args.from + get_or c.args.edges.now 0 0) (c.args.from + get_or c.args.edges.now 1 0))
    (slice_range c.args.text.now (c.args.from + get_or c.args.edges.now 2 0) (c.args.from + get_or c.args.edges.now 3 0))
    (sym c.in_ok-key.ensures.same ∙ c.in-None-2.is)
