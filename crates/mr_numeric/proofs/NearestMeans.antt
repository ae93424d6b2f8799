-- The first of the means that are as near to a point as each other.
use Rattle.std.proofs.Common.{inl, inr, ◌≡◌, ◌≤◌, ◌<◌, ◌+◌, ℕ, Bool, true, false, cond, List, [], ◌∷◌, length, get_or, Some, None, refl}
use Rattle.std.proofs.Common.{sym, ap, ◌∙◌, arith}
use Rattle.std.specs.Prelude.{nat_le, unwrap_or}
use Rattle.std.specs.List.{list_all, position_or_len}
use Rattle.std.proofs.lemmas.Bool.{cases_lt, leb-true, le-leb, lt-ltb}
use Rattle.std.proofs.lemmas.List.Elements.{All-get_or, All-from_get_or}
use Rattle.std.proofs.lemmas.List.Sums.{AllPass-from_list_all, list_all-from_AllPass, position_or_len_is}
use Rattle.mr_items.specs.KMeans.{Point, distance, nearest}

module _ (means : List Point) (p : Point) where
  -- how far the point is from the mean with a number
  abbrev pub far : ℕ → ℕ
  far k = distance p (get_or means k [])

  -- of the first n means, the first that is as near as each other, and how near; before any mean there is a number that each is below
  pub record IsNearest (most n first least : ℕ) : Type 0 where
    pub none : n ≡ 0 → (first ≡ 0) × (least ≡ most)
    pub some : 0 < n → (first < n) × (least ≡ far first)
    pub least_of : (k : ℕ) → k < n → least ≤ far k
    pub first_of : (k : ℕ) → k < first → least < far k

  -- one mean more, which is nearer, or isn't
  module _ (most n first least next nearer : ℕ) where
    pub takes : nearer ≡ far n → next ≡ n → nearer < least → IsNearest most n first least → IsNearest most (n + 1) next nearer
    takes is at less before = record {
      none = λ e. absurd (omega (arith, e));
      some = λ _. (omega (arith, at), is ∙ ap far (sym at));
      least_of = λ k below. elim (cases_lt k n) [
        | inl early ↦ omega (arith, less, before.least_of k early)
        | inr late ↦
            omega (arith, is, ap far (the_last k below late))
      ];
      first_of = λ k below. omega (arith, less, before.least_of k (omega (arith, below, at)));
    }
      where
        the_last : (k : ℕ) → k < n + 1 → n ≤ k → k ≡ n
        the_last k below late = omega (arith, below, late)

    pub keeps : nearer ≡ least → next ≡ first → least ≤ far n → far n < most → IsNearest most n first least
        → IsNearest most (n + 1) next nearer
    keeps is at more known before = record {
      none = λ e. absurd (omega (arith, e));
      some = λ _. elim (cases_lt 0 n) [
        | inl some ↦ (omega (arith, at, (before.some some).0), is ∙ (before.some some).1 ∙ ap far (sym at))
        | inr none ↦ absurd (omega (arith, more, known, (before.none (omega (arith, none))).1))
      ];
      least_of = λ k below. elim (cases_lt k n) [
        | inl early ↦ omega (arith, is, before.least_of k early)
        | inr late ↦
            omega (arith, is, more, ap far (the_last k below late))
      ];
      first_of = λ k below. omega (arith, is, before.first_of k (omega (arith, below, at)));
    }
      where
        the_last : (k : ℕ) → k < n + 1 → n ≤ k → k ≡ n
        the_last k below late = omega (arith, below, late)

  abbrev wins : Point → Bool
  wins m = list_all (λ other. nat_le (distance p m) (distance p other)) means

  pub nearest_first : (first : ℕ) → first < length means → ((k : ℕ) → k < length means → far first ≤ far k)
      → ((k : ℕ) → k < first → far first < far k) → first ≡ nearest means p
  nearest_first first there least before =
      let at : position_or_len wins means ≡ first = position_or_len_is wins means first [] (omega (arith, there)) loses (λ _. won) in
      sym (ap (λ b. unwrap_or (cond b (Some (position_or_len wins means)) None) 0)
      (lt-ltb (position_or_len wins means) (length means) (omega (arith, at, there))) ∙ at)
    where
      won : wins (get_or means first []) ≡ true
      won = list_all-from_AllPass (λ other. nat_le (far first) (distance p other)) means
          (All-from_get_or (λ other. nat_le (far first) (distance p other)
          ≡ true) means [] (λ k below. le-leb (far first) (far k) (least k below)))

      loses : (k : ℕ) → k < first → wins (get_or means k []) ≡ false
      loses k below = by (wins (get_or means k [])) refl
        where
          by : (b : Bool) → wins (get_or means k []) ≡ b → b ≡ false
          by false e = refl
          by true e =
              let all = AllPass-from_list_all (λ other. nat_le (far k) (distance p other)) means e in
              let more : far k ≤ far first =
              leb-true (far k) (far first) (All-get_or (λ other. nat_le (far k) (distance p other) ≡ true) means first [] there all) in
              absurd (omega (arith, more, before k below))

  pub nearest_of_none : length means ≡ 0 → 0 ≡ nearest means p
  nearest_of_none none = by means none
    where
      by : (ms : List Point) → length ms ≡ 0 → 0 ≡ nearest ms p
      by [] e = refl
      by (m ∷ ms) e = absurd (omega (arith, e))
