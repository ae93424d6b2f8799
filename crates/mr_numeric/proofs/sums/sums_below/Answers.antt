use Rattle.std.proofs.Common.{rules, ◌≡◌, ◌<◌, ◌++◌, pos, length, map, take, ap, sym, ◌∙◌, append-nil, arith}
use Rattle.std.specs.List.{range_with_len}
use Rattle.std.proofs.lemmas.List.{drop_all, ext_get_or, take_all}
use Rattle.std.proofs.lemmas.List.FromFn.{get_or-map-range_with_len, length-map-range_with_len}
use Rattle.mr_items.specs.Texts.{number_at}
use Rattle.mr_numeric.proofs.sums.sums_below.Goals as goal

pub returns : goal.returns
returns c =
    let rows = c.args.rows.now in
    let size = c.args.size in
    let items = c.in_ok-sums.sums.items in
    let sums = c.put_sums.new.sums in
    let long : length items ≡ size = search rules in
    let same : length sums ≡ length items = c.put_sums.ensures.size ∙ ap length c.deref_mut.ensures.value in
    let room : c.in_ok-sums.sums.len ≡ size = search rules in
    ap (λ l. take c.in_ok-sums.sums.len (sums ++ l)) (drop_all (length sums) items (omega (arith, same)))
    ∙ ap (take c.in_ok-sums.sums.len) (append-nil sums) ∙ take_all c.in_ok-sums.sums.len sums (omega (arith, same, long, room))
    ∙ ext_get_or (pos 0) sums (map (number_at rows) (range_with_len 0 size))
    (omega (arith, same, long, length-map-range_with_len (number_at rows) 0 size)) (λ k below.
    let inside : k < size = omega (arith, below, same, long) in
    c.put_sums.ensures.sums k (omega (arith, below, c.put_sums.ensures.size)) ∙ ap (λ l. number_at l k) c.entries.ensures
    ∙ sym (get_or-map-range_with_len (number_at rows) 0 size k k (pos 0) inside (omega arith)))
