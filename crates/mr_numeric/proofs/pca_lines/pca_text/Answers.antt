use Rattle.std.proofs.Common.{◌*◌, ◌++◌, pos, length, get_or, ap, sym, ◌∙◌, arith}
use Rattle.std.specs.Prelude.{flat_map}
use Rattle.std.specs.List.{enumerate_from, range_with_len}
use Rattle.std.proofs.lemmas.List.FromFn.{get_or-map-range_with_len, length-map-range_with_len}
use Rattle.mr_items.specs.Pca.{mean_line, pca_text}
use Rattle.mr_items.specs.Texts.{number_at}
use Rattle.mr_numeric.specs.Couples.{column_lines}
use Rattle.mr_numeric.proofs.MeanLines.{all_couples, lines_same}
use Rattle.mr_numeric.proofs.pca_lines.pca_text.Goals as goal

pub push_columns-requires-clause-sums : goal.push_columns-requires-clause-sums
push_columns-requires-clause-sums c =
    let n = length c.as_slice-each.result.now in
    ap length (c.deref.ensures.value ∙ c.in_ok-sums.ensures) ∙ length-map-range_with_len (number_at c.args.rows.now) 0 (n * n)

pub returns : goal.returns
returns c =
    let means = c.as_slice-each.result.now in
    let rows = c.args.rows.now in
    let points = c.args.points in
    let n = length means in
    let sums = c.deref.result.now in
    let lines = flat_map (column_lines points n (number_at rows)) (range_with_len 0 n) in
    c.in_ok-push_columns.ensures
    ∙ ap (λ l. c.push_means.new.text ++ l) (lines_same points n (λ k. get_or sums k (pos 0)) (number_at rows) (λ k below.
    ap (λ l. get_or l k (pos 0)) (c.deref.ensures.value ∙ c.in_ok-sums.ensures)
    ∙ get_or-map-range_with_len (number_at rows) 0 (n * n) k k (pos 0) below (omega arith)))
    ∙ ap (λ t. t ++ lines) (c.in_ok-push_means.ensures ∙ ap (λ t. t ++ flat_map mean_line (enumerate_from 0 means)) c.new-text.ensures)
    ∙ ap (λ l. flat_map mean_line (enumerate_from 0 means) ++ l) (sym (all_couples points n rows))
    ∙ ap (λ each. pca_text points each rows) c.as_slice-each.ensures
