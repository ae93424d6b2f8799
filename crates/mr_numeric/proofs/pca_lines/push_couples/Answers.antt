use Rattle.std.proofs.Common.{rules, ℕ, List, ◌≡◌, ◌++◌, ◌+◌, ◌*◌, pos, get_or, ap₂, ◌∙◌, arith}
use Rattle.std.specs.Int.{w128}
use Rattle.std.proofs.lemmas.Int.{to_z-of_z}
use Rattle.mr_numeric.specs.Couples.{couple_text}
use Rattle.mr_numeric.proofs.Emitted.{one_more}
use Rattle.mr_numeric.proofs.MeanLines.{key_below}
use Rattle.mr_numeric.proofs.pca_lines.push_couples.Goals as goal

pub bounds-sums-i : goal.bounds-sums-i
bounds-sums-i c = omega (arith, key_below c.args.i c.loop-j.j c.args.columns c.requires.i c.loop-j-test.true, c.requires.sums)

pub loop-j-preserved : goal.loop-j-preserved
loop-j-preserved c =
    let key = c.args.i * c.args.columns + c.loop-j.j in
    let sum = get_or c.args.sums.now key (pos 0) in
    let lines : ℕ → List ℕ = λ j. couple_text c.args.points c.args.i j (get_or c.args.sums.now (c.args.i * c.args.columns + j) (pos 0)) in
    record {
      from = omega (arith, c.loop-j.invariant.from);
      text = one_more lines c.args.i (λ l. c.push_couple.new.text ≡ l) c.args.text.now c.loop-j.j c.loop-j.invariant.from
          (c.in_ok-push_couple.ensures
          ∙ ap₂ (λ t z. t ++ couple_text c.args.points c.args.i c.loop-j.j z) c.loop-j.invariant.text
          (to_z-of_z w128 sum (search rules)));
    }
