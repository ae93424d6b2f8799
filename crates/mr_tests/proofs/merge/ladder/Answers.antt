use Rattle.std.proofs.Common.{◌+◌, ◌*◌, ◌∷◌, [], ◌++◌, map, sym, ap, ◌∙◌, arith}
use Rattle.std.proofs.lemmas.List.{map-append}
use Rattle.std.proofs.lemmas.List.FromFn.{map-range_with_len_more}
use Rattle.mr_tests.proofs.merge.ladder.Goals as goal

pub loop-j-preserved : goal.loop-j-preserved
loop-j-preserved c =
    let from = c.args.from in
    let j = c.loop-j.j in
    ap (map (λ row. row.0)) c.in_ok-push.ensures.ok ∙ map-append (λ row. row.0) c.loop-j.rows ((j * 64 + from, c.one.result) ∷ [])
    ∙ ap (λ l. l ++ (j * 64 + from) ∷ []) c.loop-j.invariant ∙ sym (map-range_with_len_more (λ i. i * 64 + from) 0 j j (omega arith))
