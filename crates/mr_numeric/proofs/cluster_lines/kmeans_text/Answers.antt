use Rattle.std.proofs.Common.{rules, ◌≡◌, ◌<◌, ◌+◌, ◌++◌, ◌∷◌, ℕ, List, [], length, get_or, ap, ap₂, sym, ◌∙◌, arith, to_z, of_z}
use Rattle.std.specs.Prelude.{decimal, flat_map}
use Rattle.std.specs.Int.{w128}
use Rattle.std.specs.List.{enumerate_from}
use Rattle.std.proofs.lemmas.Int.{to_z-of_z}
use Rattle.std.proofs.lemmas.List.{take_all}
use Rattle.std.proofs.lemmas.List.FromFn.{get_or-enumerate_from, length-enumerate_from}
use Rattle.mr_defs.specs.Emission.{Row}
use Rattle.mr_items.specs.KMeans.{Point}
use Rattle.mr_items.specs.Texts.{line, spaced, number_at}
use Rattle.mr_numeric.proofs.Taken.{one_taken}
use Rattle.mr_numeric.proofs.cluster_lines.kmeans_text.Goals as goal

-- the line of a cluster
abbrev cluster_line : List (Row ℕ) → ℕ × Point → List ℕ
cluster_line rows e = line (decimal e.0 ++ flat_map spaced (number_at rows e.0 ∷ e.1))

pub loop-cluster-preserved : goal.loop-cluster-preserved
loop-cluster-preserved c =
    let means = c.args.means.now in
    let rows = c.args.rows.now in
    let k = c.loop-cluster.cluster in
    let text = c.loop-cluster.text in
    let below : k < length means = omega (arith, c.loop-cluster-test.true, c.len-cluster-end.ensures.len) in
    let same : 0 + k ≡ k = omega arith in
    let here : get_or (enumerate_from 0 means) k (0, []) ≡ (k, get_or means k []) = get_or-enumerate_from 0 means k (0, []) below
    ∙ ap (λ j. (j, get_or means k [])) same in
    let points : to_z w128 (of_z w128 c.number_at-points.result)
    ≡ number_at rows k = to_z-of_z w128 c.number_at-points.result (search rules) ∙ c.number_at-points.ensures in
    c.in_ok-push_cluster.ensures
    ∙ ap₂ (λ n m. text ++ line (decimal k ++ flat_map spaced (n ∷ m))) points (c.coordinates.ensures ∙ c.mean.ensures)
    ∙ ap₂ (λ t e. t ++ cluster_line rows e) c.loop-cluster.invariant (sym here)
    ∙ one_taken (cluster_line rows) [] (enumerate_from 0 means) k (0, []) (omega (arith, below, length-enumerate_from 0 means))

pub returns : goal.returns
returns c =
    let means = c.args.means.now in
    c.loop-cluster.invariant
    ∙ ap (flat_map (cluster_line c.args.rows.now))
    (take_all c.loop-cluster.cluster (enumerate_from 0 means)
    (omega (arith, c.loop-cluster-test.false, c.len-cluster-end.ensures.len, length-enumerate_from 0 means)))
