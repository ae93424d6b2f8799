use Rattle.std.proofs.Common.{◌≡◌, ◌∙◌, arith, true}
use Rattle.std.specs.Str.{bytes_eq}
use Rattle.std.proofs.lemmas.Slice.Eq.{bytes_eq-Decides}
use Rattle.mr_outside.proofs.Entries.{told_here, got_here}
use Rattle.mr_outside.proofs.memory_shelf.find.Goals as goal

pub returns-then-eq-clause-some : goal.returns-then-eq-clause-some
returns-then-eq-clause-some c =
    let same : bytes_eq c.index-entries-k.result.name c.args.name.now ≡ true = grind arith in (
      c.index-entries-k.result,
      got_here c.args.entries.now c.loop-k.k _ (omega arith) c.index-entries-k.is,
      (bytes_eq-Decides _ _).0 same,
      c.loop-k.invariant.so_far ∙ told_here c.args.entries.now c.loop-k.k _ c.args.name.now (omega arith) c.index-entries-k.is same,
    )
