-- Entries that are joined into a table one by one.
use Rattle.std.proofs.Common.{◌≡◌, ℕ, ◌+◌, ◌-◌, ◌<◌, ◌≤◌, true, false, cond, if◌then◌else◌, List, [], ◌∷◌, ◌++◌, length}
use Rattle.std.proofs.Common.{get_or, take, drop, Option, Some, None, refl, sym, ap, ◌∙◌, arith, Bor}
use Rattle.std.proofs.lemmas.List.{map-append, take_more}
use Rattle.std.proofs.Math.Seq.{take-add}
use Rattle.std.specs.declared.cmp.Ordering.{Ordering}
use Rattle.std.specs.Ordering.{eq_by_cmp}
use Rattle.std.specs.FinMap.{IsAntisymmetric}
use Rattle.mr_defs.specs.Commutative.{IsCommutative, joined, joined_by}
use Rattle.mr_defs.specs.CommutativeLaws.{joined-none, joined-assoc, joined_by-append, joined_by-push}
use Rattle.mr_container.specs.Entries.{cell_in, seen_of}
use Rattle.mr_container.proofs.Entries.{tied_same}

module _ {K C : Type 0} {R : K → K → Ordering} (one : IsAntisymmetric R) {merged : C → C → C} (laws : IsCommutative merged) where
  -- the cells where one more entry was joined
  cell_joined : (was : K → Option C) (q k : K) (c : C)
      → cond (eq_by_cmp R q k) (joined merged (was k) (Some c)) (was q) ≡ joined merged (was q) (cell_in R q (k, c))
  cell_joined was q k c = elim (eq_by_cmp R q k) as (λ t. eq_by_cmp R q k ≡ t
      → cond t (joined merged (was k) (Some c)) (was q) ≡ joined merged (was q) (if t then Some c else None)) [
        | true ↦ λ h. ap (λ x. joined merged (was x) (Some c)) (sym (tied_same one q k h))
        | false ↦ λ h. sym (joined-none laws (was q))
      ] refl

  -- the entries of which one more was joined
  pub joined_more : (first now next : K → Option C) (block : List (Bor K × Bor C)) (i : ℕ) (e : Bor K × Bor C) → i < length block
      → e ≡ get_or block i e
      → ((q : K) → now q ≡ joined merged (first q) (joined_by merged (cell_in R q) (seen_of (take i block))))
      → ((q : K) → next q ≡ cond (eq_by_cmp R q e.0.now) (joined merged (now e.0.now) (Some e.1.now)) (now q))
      → (q : K) → next q ≡ joined merged (first q) (joined_by merged (cell_in R q) (seen_of (take (i + 1) block)))
  joined_more first now next block i e h is so_far step q =
      let value : Bor K × Bor C → K × C = λ x. (x.0.now, x.1.now) in
      let seen : seen_of (take (i + 1) block) ≡ seen_of (take i block) ++ value e ∷ [] =
      ap seen_of (take_more block i e h ∙ ap (λ x. take i block ++ x ∷ []) (sym is)) ∙ map-append value (take i block) (e ∷ []) in
      step q ∙ cell_joined now q e.0.now e.1.now ∙ ap (λ x. joined merged x (cell_in R q (value e))) (so_far q)
      ∙ joined-assoc laws (first q) (joined_by merged (cell_in R q) (seen_of (take i block))) (cell_in R q (value e))
      ∙ ap (joined merged (first q))
      (sym (joined_by-push laws (cell_in R q) (seen_of (take i block)) (value e)) ∙ ap (joined_by merged (cell_in R q)) (sym seen))

  -- the entries of which a block was joined
  pub joined_block : (now next : K → Option C) (lent : List (Bor K × Bor C)) (at end : ℕ) → at ≤ end
      → ((q : K) → now q ≡ joined_by merged (cell_in R q) (seen_of (take at lent)))
      → ((q : K) → next q ≡ joined merged (now q) (joined_by merged (cell_in R q) (seen_of (take (end - at) (drop at lent)))))
      → (q : K) → next q ≡ joined_by merged (cell_in R q) (seen_of (take end lent))
  joined_block now next lent at end h so_far step q =
      let value : Bor K × Bor C → K × C = λ x. (x.0.now, x.1.now) in
      let whole : at + (end - at) ≡ end = omega (arith, h) in
      step q
      ∙ ap (λ x. joined merged x (joined_by merged (cell_in R q) (seen_of (take (end - at) (drop at lent))))) (so_far q)
      ∙ sym (joined_by-append laws (cell_in R q) (seen_of (take at lent)) (seen_of (take (end - at) (drop at lent))))
      ∙ ap (joined_by merged (cell_in R q))
      (sym (map-append value (take at lent) (take (end - at) (drop at lent)))
      ∙ ap seen_of (sym (take-add at (end - at) lent) ∙ ap (λ n. take n lent) whole))
