-- Lists of the two edges of each of some runs.
use Rattle.std.proofs.Common.{◌≡◌, ℕ, zero, suc, ◌+◌, ◌*◌, ◌/◌, ◌<◌, ◌≤◌, Bool, true, false, cond, List, [], ◌∷◌, length, take, get_or}
use Rattle.std.proofs.Common.{refl, sym, ap, ◌∙◌, arith}
use Rattle.std.specs.Prelude.{filter, flat_map}
use Rattle.std.specs.List.{range_with_len}
use Rattle.std.proofs.lemmas.List.{length-take-le, get_or-take}
use Rattle.mr_items.specs.Runs.{begins, run_at, run_places}
use Rattle.mr_kernels.specs.Edges.{run_edges}

module _ (g : ℕ → ℕ) where
  abbrev both : List ℕ → List ℕ
  both ps = flat_map (λ p. p ∷ g p ∷ []) ps

  length-both : (ps : List ℕ) → length (both ps) ≡ 2 * length ps
  length-both [] = refl
  length-both (p ∷ ps) = let h = length-both ps in omega (arith, h)

  first : (ps : List ℕ) (i : ℕ) → i < length ps → get_or (both ps) (2 * i) 0 ≡ get_or ps i 0
  first [] i h = absurd (omega (arith, h))
  first (p ∷ ps) zero h = refl
  first (p ∷ ps) (suc i) h = let e : 2 * suc i ≡ suc (suc (2 * i)) = omega arith in
      ap (λ k. get_or (p ∷ g p ∷ both ps) k 0) e ∙ first ps i (omega (arith, h))

  second : (ps : List ℕ) (i : ℕ) → i < length ps → get_or (both ps) (2 * i + 1) 0 ≡ g (get_or ps i 0)
  second [] i h = absurd (omega (arith, h))
  second (p ∷ ps) zero h = refl
  second (p ∷ ps) (suc i) h = let e : 2 * suc i + 1 ≡ suc (suc (2 * i + 1)) = omega arith in
      ap (λ k. get_or (p ∷ g p ∷ both ps) k 0) e ∙ second ps i (omega (arith, h))

filter_below : (t : ℕ → Bool) (a n i : ℕ) → i < length (filter t (range_with_len a n)) → get_or (filter t (range_with_len a n)) i 0 < a + n
filter_below t a zero i h = absurd (omega (arith, h))
filter_below t a (suc n) i h = by (t a) i h (filter_below t (a + 1) n)
  where
    by : (b : Bool) (j : ℕ) → j < length (cond b (a ∷ filter t (range_with_len (a + 1) n)) (filter t (range_with_len (a + 1) n)))
        → ((k : ℕ) → k < length (filter t (range_with_len (a + 1) n)) → get_or (filter t (range_with_len (a + 1) n)) k 0 < a + 1 + n)
        → get_or (cond b (a ∷ filter t (range_with_len (a + 1) n)) (filter t (range_with_len (a + 1) n))) j 0 < a + suc n
    by true zero h less = omega arith
    by true (suc j) h less = let l = less j (omega (arith, h)) in omega (arith, l)
    by false j h less = let l = less j h in omega (arith, l)

-- the edges that a kernel has written: two of each run, in its order
module _ (test : ℕ → Bool) (xs es : List ℕ) (count : ℕ) (inside : count ≤ length es) (are : take count es ≡ run_edges test xs) where
  abbrev places : List ℕ
  places = run_places test xs

  abbrev end : ℕ → ℕ
  end p = p + length (run_at test xs p)

  pub whole : count ≡ 2 * length places
  whole = sym (length-take-le count es inside) ∙ ap length are ∙ length-both end places

  pub number : count / 2 ≡ length places
  number = omega (arith, whole)

  module _ (i : ℕ) (below : i < length places) where
    pub start_is : get_or es (2 * i) 0 ≡ get_or places i 0
    start_is =
        sym (get_or-take count es (2 * i) 0 (omega (arith, whole, below))) ∙ ap (λ l. get_or l (2 * i) 0) are ∙ first end places i below

    pub end_is : get_or es (2 * i + 1) 0 ≡ end (get_or places i 0)
    end_is = sym (get_or-take count es (2 * i + 1) 0 (omega (arith, whole, below))) ∙ ap (λ l. get_or l (2 * i + 1) 0) are
        ∙ second end places i below

    pub start_below : get_or places i 0 < length xs
    start_below = let h = filter_below (begins test xs) 0 (length xs) i below in omega (arith, h)
