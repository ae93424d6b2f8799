use Rattle.std.proofs.Common.{◌≡◌, ◌<◌, ◌+◌, ◌++◌, ◌∷◌, ℕ, List, [], length, get_or, map, ap, ap₂, subst, sym, ◌∙◌, arith}
use Rattle.std.specs.List.{enumerate_from}
use Rattle.std.proofs.lemmas.List.{map_more, take_all}
use Rattle.std.proofs.lemmas.List.FromFn.{get_or-enumerate_from, length-enumerate_from}
use Rattle.mr_defs.specs.Emission.{Row}
use Rattle.mr_items.specs.KMeans.{Point, mean_of, next_means}
use Rattle.mr_items.specs.Texts.{answer_at}
use Rattle.mr_numeric.specs.Sums.{AreMeans}
use Rattle.mr_numeric.proofs.NewMeans.{next_means_fit}
use Rattle.mr_numeric.proofs.new_means.next_means.Goals.{After-loop-cluster}
use Rattle.mr_numeric.proofs.new_means.next_means.Goals as goal

-- what the old mean of a cluster becomes
abbrev becomes : List (Row ℕ) → ℕ × Point → Point
becomes rows e = mean_of e.1 (answer_at rows e.0)

pub loop-cluster-preserved : goal.loop-cluster-preserved
loop-cluster-preserved c =
    let means = c.args.means.now in
    let rows = c.args.rows.now in
    let k = c.loop-cluster.cluster in
    let below : k < length means = omega (arith, c.loop-cluster-test.true, c.len-cluster-end.ensures.len) in
    let same : 0 + k ≡ k = omega arith in
    let here : get_or (enumerate_from 0 means) k (0, []) ≡ (k, get_or means k []) = get_or-enumerate_from 0 means k (0, []) below
    ∙ ap (λ j. (j, get_or means k [])) same in
    c.in_ok-push.ensures.items
    ∙ ap₂ (λ l m. l ++ m ∷ []) c.loop-cluster.invariant (c.in_ok-next_mean.ensures ∙ ap (λ m. becomes rows (k, m)) c.mean.ensures
    ∙ ap (becomes rows) (sym here))
    ∙ sym (map_more (becomes rows) (enumerate_from 0 means) k (0, []) (omega (arith, below, length-enumerate_from 0 means)))

all_next : (c : After-loop-cluster) → c.loop-cluster.next.items ≡ next_means c.args.means.now c.args.rows.now
all_next c =
    let means = c.args.means.now in
    c.loop-cluster.invariant
    ∙ ap (map (becomes c.args.rows.now))
    (take_all c.loop-cluster.cluster (enumerate_from 0 means)
    (omega (arith, c.loop-cluster-test.false, c.len-cluster-end.ensures.len, length-enumerate_from 0 means)))

pub returns-clause-means : goal.returns-clause-means
returns-clause-means c = c.of.ensures ∙ all_next (goal.at.returns-clause-means c).After-loop-cluster

pub returns-clause-fit : goal.returns-clause-fit
returns-clause-fit c = λ columns fit are.
    let is = c.of.ensures ∙ all_next (goal.at.returns-clause-fit c).After-loop-cluster in
    subst (AreMeans columns) (sym is) (next_means_fit columns c.args.rows.now are c.args.means.now fit)
