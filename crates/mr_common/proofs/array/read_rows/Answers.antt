use Rattle.std.proofs.Common.{◌≡◌, ℕ, ℤ, [], ◌∷◌, ◌++◌, map, sym, ap, ◌∙◌, arith, vec_len, vec_capacity, slice_index, to_z, of_z}
use Rattle.std.proofs.lemmas.Int.{to_z-of_z}
use Rattle.std.proofs.lemmas.List.{map-append}
use Rattle.std.specs.Slots.{slots_items}
use Rattle.std.specs.Int.{cast_signed}
use mir.Syntax.{w64, w128}
use Rattle.mr_common.specs.Passes.{pairs_to, row_of}
use Rattle.mr_common.proofs.Rows.{pairs_none, pairs_one, found_at}
use Rattle.mr_common.proofs.array.read_rows.Goals as goal
use Rattle.mr_common.proofs.array.read_rows.Goals.{then-word, else-word}

pub loop-k-preserved : goal.loop-k-preserved
loop-k-preserved c =
    let words = slots_items c.args.closed.now.words in
    let i = c.loop-k.invariant in
    let at : slice_index (slots_items c.args.closed.now.words) c.loop-k.k ≡ c.word-word.result =
    found_at (slots_items c.args.closed.now.words) c.loop-k.k c.word-word.result c.word-word.ensures in
    elim c.if-word.branch [
      | then-word w ↦ (
          let b = w.rows-is in
          let d = w.push_reserved.ensures in
          let e = w.cast_signed.ensures in
          let f = w.from-value.ensures in
          let o = w.one.ensures in
          let t = w.cast_signed.type_inv in
          let t' = w.from-value.type_inv in
          let short : to_z w64 (of_z w64 w.cast_signed.result) ≡ w.cast_signed.result = grind (arith, to_z-of_z, t) in
          let wide : to_z w128 (of_z w128 w.from-value.result) ≡ w.from-value.result = grind (arith, to_z-of_z, t') in
          let value = o ∙ ap (λ v. v ∷ []) (wide ∙ f ∙ short ∙ e ∙ ap (cast_signed w64) (sym at)) in
          let pair : ℕ × ℤ = (c.loop-k.k, cast_signed w64 (slice_index words c.loop-k.k)) in
          let more = ap (map row_of) (pairs_one words c.loop-k.k (λ x. w.if-word.true (sym at ∙ x)))
          ∙ map-append row_of (pairs_to words c.loop-k.k) (pair ∷ []) in
          let l = i.1 in
          let k = d.len in
          let m = d.capacity in
          let cap = i.2 in (
            ap (λ v. v.items) b ∙ d.items ∙ (λ j. i.0 j ++ (c.loop-k.k, value j) ∷ []) ∙ sym more,
            (let q = ap vec_len b in omega (arith, q, k, l)),
            (let q = ap vec_capacity b in omega (arith, q, m, cap)),
          ))
      | else-word w ↦ (
          let b = w.rows-is in
          let l = i.1 in
          let cap = i.2 in (
            ap (λ v. v.items) b ∙ i.0 ∙ ap (map row_of) (sym (pairs_none words c.loop-k.k (at ∙ w.if-word.false))),
            (let q = ap vec_len b in omega (arith, q, l)),
            (let q = ap vec_capacity b in omega (arith, q, cap)),
          ))
    ]
