-- How many pairings there are, and some numbers that are capacities or not.
use Rattle.std.proofs.Common.{◌≡◌, ℕ, pos, negsuc, true, false, List, [], ◌∷◌, map, length, filter, sum, ◌+◌, ◌*◌, Option, Some, None, refl}
use Rattle.std.specs.Prelude.{flat_map, nat_le}
use Rattle.std.specs.List.{list_all}
use Rattle.mr_capacity.specs.declared.jobs.JobKind.{JobKind}
use Rattle.mr_capacity.specs.declared.kinds.ReducerKind.{ReducerKind}
use Rattle.mr_capacity.specs.Jobs.{job_names, rows}
use Rattle.mr_capacity.specs.Names.{container_names, key_names, combiner_names, reducer_names}
use Rattle.mr_capacity.specs.Same.{same_job}
use Rattle.mr_capacity.specs.Tables.{is_capacity, is_pairing}

abbrev reducers : List (Option ReducerKind)
reducers = None ∷ map (λ entry. Some entry.1) reducer_names

-- a job's pairings, over all containers, key kinds, combiners and reducers
abbrev pairings_of : JobKind → ℕ
pairings_of job =
    length (flat_map
    (λ c. flat_map (λ k. flat_map (λ m. filter (λ r. is_pairing job c.1 k.1 m.1 r) reducers) combiner_names) key_names) container_names)

-- as many as its rows have: each of their containers with each combiner, or with a buffer and each reducer
abbrev in_rows : JobKind → ℕ
in_rows job =
    sum (map (λ row. length row.containers * (length row.combiners + length row.reducers)) (filter (λ row. same_job row.job job) rows))

-- each job has some, and no two rows have the same
counts : map (λ j. pairings_of j.1) job_names ≡ map (λ j. in_rows j.1) job_names
counts = refl

some : list_all (λ j. nat_le 1 (in_rows j.1)) job_names ≡ true
some = refl

capacities : map is_capacity
    (negsuc 15 ∷ pos 0 ∷ pos 15 ∷ pos 16 ∷ pos 17 ∷ pos 64 ∷ pos 256 ∷ pos 768 ∷ pos 1024 ∷ pos 4096 ∷ pos 16384 ∷ pos 65536 ∷ pos 65537
    ∷ [])
    ≡ false ∷ false ∷ false ∷ true ∷ false ∷ true ∷ true ∷ true ∷ true ∷ true ∷ true ∷ true ∷ false ∷ []
capacities = refl
