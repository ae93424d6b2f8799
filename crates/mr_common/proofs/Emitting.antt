-- What a local over the array changes when one emission comes, so that it stands for one more.
use Rattle.std.proofs.Common.{◌≡◌, ℕ, ◌+◌, ◌<◌, ◌≤◌, nat_lt, Bool, true, false, true≢false, cond, if◌then◌else◌, IsTrue, All, Contains}
use Rattle.std.proofs.Common.{count_by, List, [], ◌∷◌, ◌++◌, length, length-append, slice_index_or, Option, Some, None, refl, sym, ap, ◌∙◌}
use Rattle.std.proofs.Common.{arith}
use Rattle.std.specs.List.{cons_option}
use Rattle.std.specs.declared.cmp.Ordering.{Ordering}
use Rattle.std.specs.Ordering.{eq_by_cmp, nat_cmp}
use Rattle.std.specs.Cmp.{IsTotalOrder}
use Rattle.std.specs.FinMap.{IsAntisymmetric}
use Rattle.std.proofs.lemmas.Bool.Decides.{nat_tests}
use Rattle.std.proofs.lemmas.List.Elements.{All-push, Contains-append_left, Contains-push, filter_map-append}
use Rattle.std.proofs.lemmas.List.Sums.{sum_by_push}
use Rattle.mr_defs.specs.Commutative.{IsCommutative, joined}
use Rattle.mr_defs.specs.CommutativeLaws.{joined_by-push}
use Rattle.mr_defs.specs.Emission.{Emission, Pair, TooLarge, Malformed}
use Rattle.mr_defs.specs.Faulty.{Noted}
use Rattle.mr_defs.specs.Keyed.{at, value_at, lesser}
use Rattle.mr_defs.specs.Rows.{cells_of}
use Rattle.mr_defs.specs.Stands.{IsNotedOf, StandsFor, SharesFor, cell_of}
use Rattle.mr_defs.proofs.Lesser.{lesser_commutative}
use Rattle.mr_container.proofs.Emitted.{after_pair, after_pair_outside, after_large, after_large_outside, after_malformed}
use Rattle.mr_container.proofs.Orders.{is_Equal}

-- what is noted is what a container of the worker's own would note, whose cells say nothing
module _ {K V : Type 0} {R : K → K → Ordering} (o : IsTotalOrder R) (one : IsAntisymmetric R) (inside : K → Bool) (noted : Noted K)
    (es : List (Emission K V)) (was : IsNotedOf R inside noted es) where
  unit : V → Unit {0}
  unit v = tt

  merged : Unit {0} → Unit {0} → Unit {0}
  merged a b = tt

  laws : IsCommutative merged
  laws = record { comm = λ x y. refl; assoc = λ x y z. refl }

  abbrev cell_at : K → Option (Unit {0})
  cell_at q = if inside q then cell_of unit merged (at R es q) else None

  abbrev alone : Noted K
  alone = record { malformed = noted.malformed; outside = noted.outside; twice = None; over = noted.over }

  own : StandsFor R inside unit merged cell_at (cells_of R inside es) alone es
  own = record {
    each = λ q. refl;
    count = refl;
    faults = record { malformed = was.malformed; outside = was.outside; over = was.over };
    twice = refl;
  }

  pub noted_pair : (k : K) (v : V) → inside k ≡ true → IsNotedOf R inside noted (es ++ Pair k v ∷ [])
  noted_pair k v h =
      let f = (after_pair o one inside unit laws cell_at (cells_of R inside es) alone es own _ _ k v h (λ q. refl) refl).faults in
      record { malformed = f.malformed; outside = f.outside; over = f.over }

  abbrev with_outside : K → Noted K
  with_outside k =
      record { malformed = noted.malformed; outside = joined (lesser R) noted.outside (Some k); twice = noted.twice; over = noted.over }

  pub noted_pair_outside : (k : K) (v : V) → inside k ≡ false → IsNotedOf R inside (with_outside k) (es ++ Pair k v ∷ [])
  noted_pair_outside k v h =
      let f = (after_pair_outside o one inside unit laws cell_at (cells_of R inside es) alone es own k v h).faults in
      record { malformed = f.malformed; outside = f.outside; over = f.over }

  pub noted_large_outside : (k : K) → inside k ≡ false → IsNotedOf R inside (with_outside k) (es ++ TooLarge k ∷ [])
  noted_large_outside k h =
      let f = (after_large_outside o one inside unit laws cell_at (cells_of R inside es) alone es own k h).faults in
      record { malformed = f.malformed; outside = f.outside; over = f.over }

  pub noted_large : (k : K) → inside k ≡ true
      → IsNotedOf R inside (record {
        malformed = noted.malformed;
        outside = noted.outside;
        twice = noted.twice;
        over = joined (lesser R) noted.over (Some k);
      }) (es ++ TooLarge k ∷ [])
  noted_large k h =
      let f = (after_large o one inside unit laws cell_at (cells_of R inside es) alone es own k h).faults in
      record { malformed = f.malformed; outside = f.outside; over = f.over }

  pub noted_malformed : (m : ℕ)
      → IsNotedOf R inside (record {
        malformed = joined (lesser nat_cmp) noted.malformed (Some m);
        outside = noted.outside;
        twice = noted.twice;
        over = noted.over;
      }) (es ++ Malformed m ∷ [])
  noted_malformed m =
      let f = (after_malformed o one inside unit laws cell_at (cells_of R inside es) alone es own m).faults in
      record { malformed = f.malformed; outside = f.outside; over = f.over }

-- a key that is not inside is none that is
apart : {K : Type 0} {R : K → K → Ordering} → IsAntisymmetric R → (inside : K → Bool) (k q : K) → inside k ≡ false → inside q ≡ true
    → eq_by_cmp R q k ≡ false
apart {K} {R} one inside k q out in_ = elim (eq_by_cmp R q k) as (λ b. eq_by_cmp R q k ≡ b → b ≡ false) [
  | true ↦ λ e. absurd (true≢false (sym in_ ∙ ap inside (one q k (is_Equal (R q k) e)) ∙ out))
  | false ↦ λ e. refl
] refl

module _ {K V : Type 0} {R : K → K → Ordering} (o : IsTotalOrder R) (one : IsAntisymmetric R) (inside : K → Bool) where
  pub stands_empty : (noted : Noted K) → noted.malformed ≡ None → noted.outside ≡ None → noted.twice ≡ None → noted.over ≡ None
      → SharesFor {V = V} R inside [] [] 0 noted []
  stands_empty noted m out tw ov = record {
    pairs = λ i d lt. absurd (omega (arith, lt));
    counts = λ k h. refl;
    count = refl;
    faults = record { malformed = m; outside = out; over = ov };
    twice = tw;
  }

  at-push : (es : List (Emission K V)) (e : Emission K V) (q : K)
      → length (at R (es ++ e ∷ []) q) ≡ length (at R es q) + length (at R (e ∷ []) q)
  at-push es e q = ap length (filter_map-append (value_at R q) es (e ∷ [])) ∙ length-append (at R es q) (at R (e ∷ []) q)

  its_values : (k q : K) (v : V) → length (at R (Pair k v ∷ []) q) ≡ cond (eq_by_cmp R q k) 1 0
  its_values k q v = by (eq_by_cmp R q k)
    where
      by : (b : Bool) → length (cons_option (if b then Some v else None) []) ≡ cond b 1 0
      by true = refl
      by false = refl

  module _ (won : List (K × V)) (refused : List K) (cells : ℕ) (noted : Noted K) (es : List (Emission K V))
      (was : SharesFor R inside won refused cells noted es) where
    still : (e : Emission K V) → All (λ w. Contains (es ++ e ∷ []) (Pair w.0 w.1)) won
    still e i d lt = Contains-append_left es (e ∷ []) (Pair (slice_index_or won i d).0 (slice_index_or won i d).1) (was.pairs i d lt)

    -- the pair of a key inside was won
    pub after_won : (k : K) (v : V) → inside k ≡ true
        → SharesFor R inside (won ++ (k, v) ∷ []) refused (cells + 1) noted (es ++ Pair k v ∷ [])
    after_won k v h = record {
      pairs = All-push (λ w. Contains (es ++ Pair k v ∷ []) (Pair w.0 w.1)) won (k, v) (still (Pair k v)) (Contains-push es (Pair k v));
      counts = λ q i.
          let a = at-push es (Pair k v) q in
          let b = its_values k q v in
          let c = sum_by_push (λ (w : K × V). cond (eq_by_cmp R q w.0) 1 0) won (k, v) in
          let d = was.counts q i in
          omega (arith, a, b, c, d);
      count = (let l = length-append won ((k, v) ∷ []) in let c = was.count in omega (arith, l, c));
      faults = noted_pair o one inside noted es was.faults k v h;
      twice = was.twice;
    }

    -- it was refused
    pub after_refused : (k : K) (v : V) → inside k ≡ true
        → SharesFor R inside won (refused ++ k ∷ []) cells
        (record {
          malformed = noted.malformed;
          outside = noted.outside;
          twice = joined (lesser R) noted.twice (Some k);
          over = noted.over;
        }) (es ++ Pair k v ∷ [])
    after_refused k v h = record {
      pairs = still (Pair k v);
      counts = λ q i.
          let a = at-push es (Pair k v) q in
          let b = its_values k q v in
          let c = sum_by_push (λ (w : K). cond (eq_by_cmp R q w) 1 0) refused k in
          let d = was.counts q i in
          omega (arith, a, b, c, d);
      count = was.count;
      faults = (let f = noted_pair o one inside noted es was.faults k v h in
          record { malformed = f.malformed; outside = f.outside; over = f.over });
      twice = ap (λ t. joined (lesser R) t (Some k)) was.twice ∙ sym (joined_by-push (lesser_commutative o one) (λ q. Some q) refused k);
    }

    -- what is no pair of a key inside
    same_counts : (e : Emission K V) → ((q : K) → inside q ≡ true → length (at R (e ∷ []) q) ≡ 0) → (q : K) → IsTrue (inside q)
        → length (at R (es ++ e ∷ []) q) ≡ count_by (λ w. eq_by_cmp R q w.0) won + count_by (eq_by_cmp R q) refused
    same_counts e none q i =
        let a = at-push es e q in
        let b = none q i in
        let d = was.counts q i in
        omega (arith, a, b, d)

    pub after_outside : (k : K) (v : V) → inside k ≡ false
        → SharesFor R inside won refused cells
        (record {
          malformed = noted.malformed;
          outside = joined (lesser R) noted.outside (Some k);
          twice = noted.twice;
          over = noted.over;
        }) (es ++ Pair k v ∷ [])
    after_outside k v h = record {
      pairs = still (Pair k v);
      counts = same_counts (Pair k v) (λ q i. its_values k q v ∙ ap (λ b. cond b 1 0) (apart one inside k q h i));
      count = was.count;
      faults = noted_pair_outside o one inside noted es was.faults k v h;
      twice = was.twice;
    }

    pub after_too_large : (k : K) → inside k ≡ true
        → SharesFor R inside won refused cells
        (record {
          malformed = noted.malformed;
          outside = noted.outside;
          twice = noted.twice;
          over = joined (lesser R) noted.over (Some k);
        }) (es ++ TooLarge k ∷ [])
    after_too_large k h = record {
      pairs = still (TooLarge k);
      counts = same_counts (TooLarge k) (λ q i. refl);
      count = was.count;
      faults = noted_large o one inside noted es was.faults k h;
      twice = was.twice;
    }

    pub after_too_large_outside : (k : K) → inside k ≡ false
        → SharesFor R inside won refused cells
        (record {
          malformed = noted.malformed;
          outside = joined (lesser R) noted.outside (Some k);
          twice = noted.twice;
          over = noted.over;
        }) (es ++ TooLarge k ∷ [])
    after_too_large_outside k h = record {
      pairs = still (TooLarge k);
      counts = same_counts (TooLarge k) (λ q i. refl);
      count = was.count;
      faults = noted_large_outside o one inside noted es was.faults k h;
      twice = was.twice;
    }

    pub after_no_form : (m : ℕ)
        → SharesFor R inside won refused cells
        (record {
          malformed = joined (lesser nat_cmp) noted.malformed (Some m);
          outside = noted.outside;
          twice = noted.twice;
          over = noted.over;
        }) (es ++ Malformed m ∷ [])
    after_no_form m = record {
      pairs = still (Malformed m);
      counts = same_counts (Malformed m) (λ q i. refl);
      count = was.count;
      faults = noted_malformed o one inside noted es was.faults m;
      twice = was.twice;
    }

pub below : (n k : ℕ) → k < n → nat_lt k n ≡ true
below n k lt = grind (arith, nat_tests, lt)

pub not_below : (n k : ℕ) → n ≤ k → nat_lt k n ≡ false
not_below n k le = grind (arith, nat_tests, le)
