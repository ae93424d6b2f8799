use Rattle.std.proofs.Common.{◌≡◌, ◌≤◌, ℤ, List, length, true, arith, subst}
use Rattle.std.proofs.lemmas.Bool.{le-leb}
use Rattle.mr_defs.specs.Folded.{vecsum_folded}
use Rattle.mr_items.specs.KMeans.{is_kmeans_shape, kmeans_emits, kmeans_first, kmeans_next}
use Rattle.mr_jobfile.specs.Seen.{seen}
use Rattle.mr_jobs.specs.Meaning.{Meaning, span_rounds, told}
use Rattle.mr_jobs.specs.Outputs.{IsOutputOf}
use Rattle.mr_jobs.specs.Reported.{reported}
use Rattle.mr_jobs.proofs.Inputs.{of_shape}
use Rattle.mr_jobs.proofs.kmeans.moved.Goals as goal

pub returns : goal.returns
returns g c =
    let j = seen c.args.job.now in
    let points = c.args.grid.now in
    let workers = reported c.args.workers.now in
    let there : j.clusters ≤ length points = omega (arith, c.if-rows-from.false, c.rows.ensures, c.from.ensures) in
    let shape : is_kmeans_shape j.clusters points ≡ true = le-leb j.clusters (length points) there in
    let from : List (List ℤ) → Meaning = λ means. span_rounds j vecsum_folded (length points) (λ s. kmeans_emits s.means points) kmeans_next
    told (record { means = means; left = j.rounds }) in
    of_shape j workers 1 (is_kmeans_shape j.clusters points) (from (kmeans_first j.clusters j.rounds points).means)
    c.run_rounds.result shape
    (subst (λ means. IsOutputOf j (from means) workers c.run_rounds.result) c.in_ok-first.ensures.first
    (record { ending = c.run_rounds.ensures.ending; of_inputs = c.run_rounds.ensures.of_inputs; shares = c.run_rounds.ensures.shares }))
