-- What the pairs so far of a block, or of a run, have emitted.
use Rattle.std.proofs.Common.{◌≡◌, ℕ, ◌+◌, ◌-◌, ◌<◌, List, [], ◌∷◌, ◌++◌, length, arith, take, map, slice_get, Some, sym, ap, ◌∙◌}
use Rattle.std.proofs.Common.{append_assoc}
use Rattle.std.proofs.lemmas.List.{map-id, map-append, take-map, take_all, take_more}
use Rattle.std.proofs.lemmas.Option.{get_or_from_slice_get}
use Rattle.std.proofs.lemmas.Iterator.Consumers.{YieldsList-so_far, YieldsList-from_shown}
use Rattle.std.specs.List.{slice_range}
use Rattle.std.specs.Iterator.{Yields}
use Rattle.std.specs.Vec.Iter.{drain_steps, drain_items}
use Rattle.std.specs.declared.vec.Drain.{Drain}
use Rattle.mr_defs.specs.Emission.{Emission, Pair}
use Rattle.mr_container.specs.Block.{run_emissions}

pub whole_range : {X : Type 0} (xs : List X) (n : ℕ) → n ≡ length xs → slice_range xs 0 n ≡ xs
whole_range xs n e = take_all (n - 0) xs (omega arith)

module _ {X Z Y : Type 0} (f : X → Y) (all : List X) (s t : Drain X Z) where
  pub front_yielded : drain_items s ≡ all → (xs : List X) → Yields drain_steps s xs t → map f xs ≡ take (length xs) (map f all)
  front_yielded e xs y =
      ap (map f) (so_far ∙ ap (take (length xs)) e) ∙ sym (take-map f (length xs) all)
    where
      so_far : xs ≡ take (length xs) (drain_items s)
      so_far = sym (map-id xs)
          ∙ YieldsList-so_far (YieldsList-from_shown drain_steps (λ x. x) drain_items (λ u v h. ap length h.0) (λ u x v h. h.0) s) xs t y

module _ {K V : Type 0} (key : K) (vs : List V) where
  -- a front of a run, and its next pair
  pub run_front : (i : ℕ) → run_emissions key (take i vs) ≡ take i (run_emissions key vs)
  run_front i = sym (take-map (λ v. Pair key v) i vs)

  pub run_more : (es : List (Emission K V)) (i : ℕ) (v : V) → i < length vs → slice_get vs i ≡ Some v
      → (es ++ run_emissions key (take i vs)) ++ Pair key v ∷ [] ≡ es ++ run_emissions key (take (i + 1) vs)
  run_more es i v below is =
      append_assoc es (run_emissions key (take i vs)) (Pair key v ∷ [])
      ∙ ap (λ l. es ++ l)
      (sym (map-append (λ v. Pair key v) (take i vs) (v ∷ []))
      ∙ ap (map (λ v. Pair key v)) (sym (take_more vs i v below ∙ ap (λ w. take i vs ++ w ∷ []) (get_or_from_slice_get vs i v v is))))
