-- Queues from which each worker takes its own tasks only.
use Rattle.std.specs.Prelude.{◌≡◌, ℕ, ◌+◌, ◌-◌, ◌<◌, ◌≤◌, true, List}
use Rattle.std.specs.List.{range_with_len}
use Rattle.mr_base.specs.Tasks.{start_of, IsApartBelow}
use Rattle.mr_phase.specs.declared.blocks.BlockPass.{BlockPass}
use Rattle.mr_phase.specs.declared.blocks.Blocks.{Blocks}

-- the tasks of queue q, in order
abbrev pub block_of : ℕ → ℕ → ℕ → List ℕ
block_of tasks queues q = range_with_len (start_of tasks queues q) (start_of tasks queues (q + 1) - start_of tasks queues q)

-- the tasks that the pass was given
abbrev pub given_of : BlockPass → List ℕ
given_of p = range_with_len p.start (p.next - p.start)

-- the pass has the block of its number
abbrev pub IsBlockOf : Blocks → BlockPass → Type 0
IsBlockOf q p = (p.number < q.queues) × (p.start ≡ start_of q.tasks q.queues p.number) × (p.end ≡ start_of q.tasks q.queues (p.number + 1))
    × (p.start ≤ p.next) × (p.next ≤ p.end) × (p.end ≤ q.tasks) × (p.ended ≡ true → p.next ≡ p.end) × IsApartBelow q.tasks (given_of p)
