use Rattle.std.proofs.Common.{◌<◌, ◌∙◌, ◌%◌, ◌+◌, ◌∷◌, ◌==◌, ap, sym, arith, drop, filter, length}
use Rattle.std.proofs.lemmas.List.FromFn.{length-range_with_len}
use Rattle.mr_array.specs.Cells.{numbered}
use Rattle.mr_array.proofs.Places.{key_there}
use Rattle.mr_array.proofs.Strides.{taken, left_out, stride_kept}
use Rattle.mr_array.proofs.array.ArrayLocalParted.next.Goals as goal

pub index-requires-in-Some : goal.index-requires-in-Some
index-requires-in-Some g c =
    let keys = c.args.self.now.keys in
    omega (arith, c.loop-cursor-test.true, ap length c.args.self.now.named, length-range_with_len 0 g.S.Size.size, keys.ok.0)

pub returns-in-Some-clause-stands : goal.returns-in-Some-clause-stands
returns-in-Some-clause-stands g c =
    let kept = c.loop-cursor.invariant in
    let cursor = c.loop-cursor.cursor in (
      kept.some,
      stride_kept cursor.parts cursor.part c.args.self.now.cells.items kept.some cursor.place
          (ap (λ q. cursor.place % q) kept.parts ∙ kept.stride ∙ sym kept.part),
    )

pub returns-in-Some-clause-entry : goal.returns-in-Some-clause-entry
returns-in-Some-clause-entry g c =
    let local = c.args.self.now in
    let kept = c.loop-cursor.invariant in
    let cursor = c.loop-cursor.cursor in
    let place = cursor.place in
    let within : place < length local.cells.items = omega (arith, c.loop-cursor-test.true, local.places, local.cells.ok.0) in
    kept.left
    ∙ taken c.args.cursor.now.parts c.args.cursor.now.part local.cells.items
    (omega (arith, kept.some, kept.parts)) place c.in-Some.cell c.index.result.now within c.index.ensures c.in-Some.is kept.stride
    ∙ (λ i. (
      sym (key_there local.keys.items g.S.Size.size place c.index-in-Some.result.now local.named
          (omega (arith, c.loop-cursor-test.true, local.sized)) c.index-in-Some.ensures) i,
      c.in-Some.cell,
    )
    ∷ filter (λ e. e.0 % sym kept.parts i == sym kept.part i)
    (numbered (place + sym kept.parts i) (drop (place + sym kept.parts i) local.cells.items)))

pub loop-cursor-preserved : goal.loop-cursor-preserved
loop-cursor-preserved g c =
    let local = c.args.self.now in
    let kept = c.loop-cursor.invariant in
    let cursor = c.loop-cursor.cursor in
    let place = cursor.place in
    let parts = c.args.cursor.now.parts in
    let part = c.args.cursor.now.part in
    let cells = local.cells.items in
    let within : place < length cells = omega (arith, c.loop-cursor-test.true, local.places, local.cells.ok.0) in
    record {
      part = kept.part;
      parts = kept.parts;
      some = kept.some;
      stride =
          ap (λ q. (place + q) % parts) kept.parts ∙ stride_kept parts part cells (omega (arith, kept.some, kept.parts)) place kept.stride;
      left = kept.left
          ∙ left_out parts part cells
          (omega (arith, kept.some, kept.parts)) place c.index.result.now within c.index.ensures c.in_default.is kept.stride
          ∙ ap (λ q. filter (λ e. e.0 % parts == part) (numbered (place + q) (drop (place + q) cells))) (sym kept.parts);
    }
