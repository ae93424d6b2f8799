use Rattle.std.proofs.Common.{refl, ◌≡◌, ℕ, zero, suc, false, slice_index_or, replicate}
use Rattle.mr_deques.proofs.queues.unused.Goals as goal

falses : (n q : ℕ) → slice_index_or (replicate n false) q false ≡ false
falses zero q = refl
falses (suc n) zero = refl
falses (suc n) (suc q) = falses n q

pub returns-clause-unmarked : goal.returns-clause-unmarked
returns-clause-unmarked c = (refl, falses 32)
