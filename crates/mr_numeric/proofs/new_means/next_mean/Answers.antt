use Rattle.std.proofs.Common.{◌≡◌, [], ◌==◌, ap, sym, ◌∙◌}
use Rattle.std.specs.Option.{option_map_or}
use Rattle.std.proofs.lemmas.Result.{IfOk-weaker}
use Rattle.mr_items.specs.KMeans.{mean_of}
use Rattle.mr_items.specs.Texts.{answer_at}
use Rattle.mr_numeric.specs.Sums.{HasPoints}
use Rattle.mr_numeric.proofs.Taken.{found_has}
use Rattle.mr_numeric.proofs.NewMeans.{mean_of_some}
use Rattle.mr_numeric.proofs.new_means.next_mean.Goals as goal

pub quotients-requires : goal.quotients-requires
quotients-requires c =
    found_has HasPoints (λ row. row.0 == c.args.cluster) c.args.rows.now (
      c.args.cluster,
      c.in-Some.answer.now,
    ) c.requires c.in-Some.ensures.some

pub returns-in_ok-quotients-in-Some : goal.returns-in_ok-quotients-in-Some
returns-in_ok-quotients-in-Some c =
    let old = c.args.old.now in
    let answer = c.in-Some.answer.now in
    let some = found_has HasPoints (λ row. row.0 == c.args.cluster) c.args.rows.now (
      c.args.cluster,
      answer,
    ) c.requires c.in-Some.ensures.some in
    IfOk-weaker c.of.result (λ mean. mean ≡ c.in_ok-quotients-in-Some.field-0.items) (λ mean. mean
    ≡ mean_of old (answer_at c.args.rows.now c.args.cluster))
    (λ mean is. is ∙ c.in_ok-quotients-in-Some.ensures ∙ mean_of_some old answer some
    ∙ ap (λ o. mean_of old (option_map_or (λ row. row.1) o [])) (sym c.in-Some.ensures.some)) c.of.ensures
