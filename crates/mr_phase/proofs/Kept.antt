-- Hands of which nothing has changed that contracts see.
use Rattle.std.proofs.Common.{◌≡◌, ℕ, suc, ◌<◌, List, [], ◌∷◌, ◌++◌, length, flat_map, slice_index_or, refl, sym, subst, ap, ap₂, arith}
use Rattle.std.specs.Prelude.{All}
use Rattle.mr_phase.specs.declared.hands.Hand.{Hand}
use Rattle.mr_phase.specs.Works.{AreSameHands}

pub tasks_kept : {L : Type 0} (same : L → L → Type 0) (olds news : List (Hand L)) → AreSameHands same olds news
    → flat_map (λ h. h.tasks.items) news ≡ flat_map (λ h. h.tasks.items) olds
tasks_kept same [] [] s = refl
tasks_kept same [] (y ∷ news) s = let n = s.0 in absurd (omega (arith, n))
tasks_kept same (x ∷ olds) [] s = let n = s.0 in absurd (omega (arith, n))
tasks_kept same (x ∷ olds) (y ∷ news) s =
    let n = s.0 in
    ap₂ (λ a b. a ++ b) (ap (λ t. t.items) (s.1 0 x (omega arith)).0)
    (tasks_kept same olds news (omega (arith, n), λ i d h. s.1 (suc i) d (omega (arith, h))))

pub stands_kept : {L E : Type 0} (same : L → L → Type 0) (stands : L → List E → Type 0)
    → ((s t : L) → same s t → (es : List E) → stands s es → stands t es) → (pairs : ℕ → List E) (olds news : List (Hand L))
    → AreSameHands same olds news
    → All (λ h. stands h.local (flat_map pairs h.tasks.items)) olds → All (λ h. stands h.local (flat_map pairs h.tasks.items)) news
stands_kept {L} {E} same stands keeps pairs olds news s all i d h =
    let n = s.0 in
    let low : i < length olds = omega (arith, n, h) in
    let kept = s.1 i d low in
    subst (λ t. stands (slice_index_or news i d).local (flat_map pairs t.items)) (sym kept.0) (keeps _ _ kept.1 _ (all i d low))
