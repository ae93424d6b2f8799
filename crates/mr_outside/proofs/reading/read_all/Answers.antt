use Rattle.std.proofs.Common.{arith, ◌≡◌, ◌∙◌, sym, refl, ◌++◌, length, take}
use Rattle.std.proofs.lemmas.Grind.{common_steps}
use Rattle.mr_outside.proofs.Front.{IsFront, more_taken, is_told_by, has_content, all_taken}
use Rattle.mr_outside.specs.Shelf.{IsTold, Gives}
use Rattle.mr_outside.proofs.reading.read_all.Goals as goal

pub loop-bytes-preserved : goal.loop-bytes-preserved
loop-bytes-preserved g c = record {
  kept = c.in-Bytes.ensures.kept ∙ c.loop-bytes.invariant.kept;
  quiet = c.in-Bytes.ensures.quiet (λ e. cc) ∙ c.loop-bytes.invariant.quiet;
  started = c.in-Bytes.ensures.still_started;
  name = λ told. c.in-Bytes.ensures.name ∙ c.loop-bytes.invariant.name told;
  there = c.loop-bytes.invariant.there;
  place = grind (arith, common_steps);
  inside = grind (arith, common_steps);
  buf = grind (arith, common_steps);
  read = λ content told.
      let front : IsFront c.loop-bytes.bytes.items content = c.loop-bytes.invariant.read content told in
      let here : IsTold (g.H.Shelf.contents c.loop-bytes.shelf) (g.H.Shelf.started c.loop-bytes.shelf) content =
      rw (c.loop-bytes.invariant.kept, c.loop-bytes.invariant.name (is_told_by _ _ _ told)) told in
      let gives : Gives content (length c.loop-bytes.bytes.items) c.in-Bytes.n c.read.new.buf =
      rw (← c.loop-bytes.invariant.place) (c.in-Bytes.ensures.bytes content here) in
      let more : c.extend_from_slice.new.self.items ≡ c.loop-bytes.bytes.items ++ take c.in-Bytes.n c.read.new.buf =
      grind (arith, common_steps) in
      more_taken c.loop-bytes.bytes.items _ c.read.new.buf content c.in-Bytes.n (omega (arith, c.in-Bytes.ensures.bounds)) more front gives;
}

pub returns-in-End-clause-whole : goal.returns-in-End-clause-whole
returns-in-End-clause-whole g c = has_content _ _ _ c.loop-bytes.invariant.there (λ content told.
    let here : IsTold (g.H.Shelf.contents c.loop-bytes.shelf) (g.H.Shelf.started c.loop-bytes.shelf) content =
    rw (c.loop-bytes.invariant.kept, c.loop-bytes.invariant.name (is_told_by _ _ _ told)) told in
    all_taken _ content (c.loop-bytes.invariant.read content told)
    (sym c.loop-bytes.invariant.place ∙ c.in-End.ensures.end refl content here))

pub returns-clause-too_long : goal.returns-clause-too_long
returns-clause-too_long g c = λ e. (
  omega (arith, c.loop-bytes.invariant.place, c.loop-bytes.invariant.inside),
  has_content _ _ _ c.loop-bytes.invariant.there
      (λ content told. omega (arith, (c.loop-bytes.invariant.read content told).within, c.loop-bytes.invariant.inside)),
)
