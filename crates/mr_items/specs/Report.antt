-- The report of a run: for each round from 1 and each worker from 0 a line with the number of its cells and its tasks.
use Rattle.std.specs.Prelude.{ℕ, suc, ◌+◌, ◌<◌, ◌^◌, List, [], ◌∷◌, ◌++◌, All, length, flat_map, decimal, codes}

-- the tasks of a worker in the order in which it took them, and how many cells its container has
abbrev pub Work : Type 0
Work = List ℕ × ℕ

-- a space and the decimal of each task
abbrev pub tasks_text : List ℕ → List ℕ
tasks_text tasks = flat_map (λ t. 32 ∷ decimal t) tasks

-- the line of a worker in a round
abbrev pub worker_line : ℕ → ℕ → Work → List ℕ
worker_line round worker work =
    codes "round " ++ (decimal round ++ (codes " worker " ++ (decimal worker
    ++ (codes " cells " ++ (decimal work.1 ++ (codes " tasks" ++ (tasks_text work.0 ++ 10 ∷ [])))))))

-- the lines of the workers from this one on, and of the rounds
abbrev pub worker_lines : ℕ → ℕ → List Work → List ℕ
worker_lines round worker [] = []
worker_lines round worker (work ∷ workers) = worker_line round worker work ++ worker_lines round (suc worker) workers

abbrev pub round_lines : ℕ → List (List Work) → List ℕ
round_lines round [] = []
round_lines round (workers ∷ rounds) = worker_lines round 0 workers ++ round_lines (suc round) rounds

-- rounds from 1, and in each the workers from 0
abbrev pub report_text : List (List Work) → List ℕ
report_text rounds = round_lines 1 rounds

-- a worker's numbers are below 2 ^ 64
pub record IsNumbered (work : Work) : Type 0 where
  pub tasks : All (λ t. t < 2 ^ 64) work.0
  pub cells : work.1 < 2 ^ 64

-- each round has a worker, and the numbers are below 2 ^ 64
pub record IsReportable (rounds : List (List Work)) : Type 0 where
  pub few : length rounds + 1 < 2 ^ 64
  pub some : All (λ workers. 0 < length workers) rounds
  pub numbers : All (λ workers. (length workers < 2 ^ 64) × All IsNumbered workers) rounds
