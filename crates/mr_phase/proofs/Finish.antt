-- Partitions by their places.
use Rattle.std.proofs.Common.{◌≡◌, ℕ, suc, ◌+◌, ◌<◌, List, [], ◌∷◌, length, map, get_or, Option, refl, ap, subst, arith}
use Rattle.std.specs.Prelude.{Bool, All}
use Rattle.std.specs.List.Sorted.{IsStrictlySortedBy}
use Rattle.std.specs.declared.cmp.Ordering.{Ordering}
use Rattle.std.specs.Cmp.{IsTotalOrder}
use Rattle.std.specs.FinMap.{IsAntisymmetric}
use Rattle.std.proofs.lemmas.List.Elements.{All-nil, All-cons}
use Rattle.mr_defs.specs.Emission.{Answer, Row}
use Rattle.mr_defs.specs.Commutative.{joined, joined_by}
use Rattle.mr_phase.specs.declared.partition.Partition.{Partition}
use Rattle.mr_phase.specs.Partition.{IsReducedAt}
use Rattle.mr_phase.proofs.Partitions.{AreParts}

abbrev pub pair_of : {K : Type 0} → Partition K → List (Row K) × Option K
pair_of p = (p.rows, p.over)

pub rows_same : {K : Type 0} (ps : List (Partition K)) → map (λ q. q.0) (map pair_of ps) ≡ map (λ p. p.rows) ps
rows_same [] = refl
rows_same (p ∷ ps) = ap (λ l. p.rows ∷ l) (rows_same ps)

pub over_same : {K : Type 0} (op : K → K → K) (ps : List (Partition K))
    → joined_by op (λ q. q.1) (map pair_of ps) ≡ joined_by op (λ p. p.over) ps
over_same op [] = refl
over_same op (p ∷ ps) = ap (joined op p.over) (over_same op ps)

module _ {K C : Type 0} {R : K → K → Ordering} (o : IsTotalOrder R) (one : IsAntisymmetric R) (whole : K → Option C) (part_of : K → ℕ)
    (over : C → Bool) (answer : C → Answer) where
  abbrev From : ℕ → List (Partition K) → Type 0
  From from ps = (i : ℕ) (p : Partition K) → i < length ps → p ≡ get_or ps i p → IsReducedAt R whole part_of over answer (from + i) p

  later : (from : ℕ) (p : Partition K) (ps : List (Partition K)) → From from (p ∷ ps) → From (suc from) ps
  later from p ps h i q b e = subst (λ n. IsReducedAt R whole part_of over answer n q) (omega arith) (h (suc i) q (omega (arith, b)) e)

  first : (from : ℕ) (p : Partition K) (ps : List (Partition K)) → From from (p ∷ ps) → IsReducedAt R whole part_of over answer from p
  first from p ps h = subst (λ n. IsReducedAt R whole part_of over answer n p) (omega arith) (h 0 p (omega arith) refl)

  parts_from : (from : ℕ) (ps : List (Partition K)) → From from ps → AreParts o one whole part_of over answer from (map pair_of ps)
  parts_from from [] h = tt
  parts_from from (p ∷ ps) h = ((first from p ps h).1, parts_from (suc from) ps (later from p ps h))

  abbrev Ascends : List (Row K) → Type 0
  Ascends list = IsStrictlySortedBy R (map (λ row. row.0) list)

  ascend_from : (from : ℕ) (ps : List (Partition K)) → From from ps → All Ascends (map (λ q. q.0) (map pair_of ps))
  ascend_from from [] h = All-nil Ascends
  ascend_from from (p ∷ ps) h =
      All-cons Ascends p.rows (map (λ q. q.0) (map pair_of ps)) (first from p ps h).0 (ascend_from (suc from) ps (later from p ps h))

  at_zero : (ps : List (Partition K))
      → ((i : ℕ) (p : Partition K) → i < length ps → p ≡ get_or ps i p → IsReducedAt R whole part_of over answer i p) → From 0 ps
  at_zero ps h i p b e = subst (λ n. IsReducedAt R whole part_of over answer n p) (omega arith) (h i p b e)

  pub parts : (ps : List (Partition K))
      → ((i : ℕ) (p : Partition K) → i < length ps → p ≡ get_or ps i p → IsReducedAt R whole part_of over answer i p)
      → AreParts o one whole part_of over answer 0 (map pair_of ps) × All Ascends (map (λ q. q.0) (map pair_of ps))
  parts ps h = (parts_from 0 ps (at_zero ps h), ascend_from 0 ps (at_zero ps h))
