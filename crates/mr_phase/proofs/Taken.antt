-- A worker's list after one more task.
use Rattle.std.proofs.Common.{ℕ, ◌-◌, ◌<◌, List, [], ◌∷◌, ◌++◌, length, arith, length-append}
use Rattle.std.specs.List.Sorted.{IsPermutation}
use Rattle.std.proofs.lemmas.List.Sorted.{IsPermutation-trans, IsPermutation-append_left, length_permutation}
use Rattle.mr_base.specs.Tasks.{IsApartBelow}
use Rattle.mr_base.proofs.Times.{apart_length}

pub same_tasks : (old given given' : List ℕ) (t : ℕ) → IsPermutation old given → IsPermutation (given ++ t ∷ []) given'
    → IsPermutation (old ++ t ∷ []) given'
same_tasks old given given' t p q =
    IsPermutation-trans (old ++ t ∷ []) (given ++ t ∷ []) given' (IsPermutation-append_left (t ∷ []) old given p) q

-- there are no more tasks than the total, so fewer are left
pub fewer_left : (total : ℕ) (old given : List ℕ) (t : ℕ) → IsApartBelow total given → IsPermutation (old ++ t ∷ []) given
    → total - length (old ++ t ∷ []) < total - length old
fewer_left total old given t apart p =
    let long = length_permutation (old ++ t ∷ []) given p in
    let most = apart_length total given apart in
    let one = length-append old (t ∷ []) in
    omega (arith, long, most, one)
