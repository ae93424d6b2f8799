use Rattle.std.proofs.Common.{◌≡◌, ◌+◌, ◌-◌, ◌∷◌, length, get_or, drop, ap, ap₂, sym, ◌∙◌, arith}
use Rattle.std.proofs.lemmas.List.{drop_more}
use Rattle.mr_items.specs.Texts.{number_at}
use Rattle.mr_numeric.proofs.sums.put_sums.Goals as goal

pub loop-done-preserved : goal.loop-done-preserved
loop-done-preserved c =
    let rows = c.args.rows.now in
    let done = c.loop-done.done in
    let row = c.index-rows-rows.result in
    let place : (length rows - 1) - done ≡ length rows - (done + 1) = omega arith in
    let behind : (length rows - (done + 1)) + 1 ≡ length rows - done = omega (arith, c.loop-done-test.true) in
    let here : get_or rows (length rows - (done + 1)) row ≡ row = ap (λ m. get_or rows m row) (sym place) ∙ sym c.index-rows-rows.is in
    let split : drop (length rows - (done + 1)) rows ≡ row ∷ drop (length rows - done) rows =
    drop_more rows (length rows - (done + 1)) row (omega (arith, c.loop-done-test.true)) ∙ ap₂ (λ r m. r ∷ drop m rows) here behind in
    record {
      size = c.put_sum.ensures.size ∙ c.loop-done.invariant.size;
      sums = λ k below.
          c.put_sum.ensures.sums (drop (length rows - done) rows) c.loop-done.invariant.sums k
          (omega (arith, below, c.put_sum.ensures.size)) ∙ ap (λ l. number_at l k) (sym split);
    }
