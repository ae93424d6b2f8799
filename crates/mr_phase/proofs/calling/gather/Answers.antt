use Rattle.std.proofs.Common.{◌≡◌, ℕ, suc, zero, ◌<◌, List, [], ◌∷◌, ◌++◌, length, get_or, sym, ap, subst, ◌∙◌, arith}
use Rattle.mr_defs.specs.Commutative.{joined_by}
use Rattle.mr_phase.specs.Partition.{IsReducedAt}
use Rattle.mr_phase.proofs.calling.gather.Goals as goal

only_one : {X : Type 0} (P : ℕ → X → Type 0) (xs : List X) (x : X) → xs ≡ x ∷ [] → P 0 x → (i : ℕ) (y : X) → i < length xs
    → y ≡ get_or xs i y → P i y
only_one P xs x is h zero y low at = subst (P 0) (sym (at ∙ ap (λ l. get_or l 0 y) is)) h
only_one P xs x is h (suc i) y low at = let n = ap length is in absurd (omega (arith, low, n))

pub together-requires-clause-each : goal.together-requires-clause-each
together-requires-clause-each g c =
    only_one (IsReducedAt g.L.Key.Ord.cmp (λ k. joined_by g.L.Fold.Combiner.merged (λ h. g.L.Parted.cell h.local k) c.args.mapped.now)
    (g.L.Parted.part_of 1) g.L.Fold.Combiner.over g.R.Reducer.answer) c.push.new.self.items c.in_ok-only.only
    (c.in_ok-push.ensures.items ∙ ap (λ l. l ++ c.in_ok-only.only ∷ []) c.new-partitions.ensures.items) c.in_ok-only.ensures.reduced
