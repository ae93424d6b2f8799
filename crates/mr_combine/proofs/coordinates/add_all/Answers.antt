use Rattle.std.proofs.Common.{◌≡◌, length, map, take, drop, ◌++◌, ap, ◌∙◌, arith}
use Rattle.std.proofs.lemmas.List.{length-map, length-append}
use Rattle.std.proofs.Math.Seq.{take-append_seam}
use Rattle.mr_defs.specs.Folded.{limit}
use Rattle.mr_combine.specs.Zipped.{zip_longest, length-zip}
use Rattle.mr_combine.specs.Sums.{sum_merged}
use Rattle.mr_combine.proofs.Zipped.{zip_parts}
use Rattle.mr_combine.proofs.coordinates.add_all.Goals as goal

pub returns-clause-ok : goal.returns-clause-ok
returns-clause-ok g c =
    let f = g.S.Summand.sum_of in
    let op = sum_merged limit in
    let sums = c.add_first.new.sums in
    let there = c.min-there.result in
    let items = c.begin_rest.new.sums.items in
    let long : c.begin_rest.new.sums.len ≡ length sums = omega (
      arith,
      ap length c.add_first.ensures,
      length-zip op c.deref_mut.result.now (map f c.split_at.result.0.now),
      length-map c.split_at.result.0.now f,
      ap length c.deref_mut.ensures.value,
      ap length c.in_ok-begin_rest.ensures.ok,
      length-append c.args.sums.now.items (map f c.split_at.result.1.now),
    ) in
    let filled : c.deref_mut.result.now ≡ c.args.sums.now.items ++ map f (drop there c.args.others.now) =
    c.deref_mut.ensures.value ∙ c.in_ok-begin_rest.ensures.ok ∙ ap (λ l. c.args.sums.now.items ++ map f l) c.split_at.ensures.back in
    ap (λ n. take n (sums ++ drop (length sums) items)) long
    ∙ take-append_seam sums (drop (length sums) items)
    ∙ c.add_first.ensures
    ∙ (λ i. zip_longest op (filled i) (map f (c.split_at.ensures.front i)))
    ∙ zip_parts op f c.args.sums.now.items c.args.others.now there (omega arith)
