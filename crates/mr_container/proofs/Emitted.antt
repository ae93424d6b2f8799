-- What a container changes when one emission comes, so that it stands for one more.
use Rattle.std.proofs.Common.{◌≡◌, ℕ, ◌+◌, Bool, true, false, not, cond, if◌then◌else◌, List, [], ◌∷◌, ◌++◌, length, filter, filter_map}
use Rattle.std.proofs.Common.{Option, Some, None, is_some, refl, sym, ap, ◌∙◌, append-nil}
use Rattle.std.specs.List.{list_any, cons_option}
use Rattle.std.specs.declared.cmp.Ordering.{Ordering}
use Rattle.std.specs.Ordering.{eq_by_cmp, is_eq, nat_cmp}
use Rattle.std.specs.Cmp.{IsTotalOrder, tied_itself, nat_cmp_total}
use Rattle.std.specs.FinMap.{IsAntisymmetric, nat_cmp-IsAntisymmetric}
use Rattle.std.proofs.lemmas.List.Elements.{filter_map-append}
use Rattle.std.proofs.lemmas.Bool.{true≢false}
use Rattle.mr_defs.specs.Emission.{Emission, Pair, TooLarge, Malformed}
use Rattle.mr_defs.specs.Commutative.{IsCommutative, joined}
use Rattle.mr_defs.specs.CommutativeLaws.{joined-none, joined_by-push}
use Rattle.mr_defs.specs.Keyed.{at, ascending, pair_key, any_key, large_key, malformed_offset, value_at, lesser}
use Rattle.mr_defs.specs.Rows.{cells_of}
use Rattle.mr_defs.specs.Faulty.{Noted}
use Rattle.mr_defs.specs.Stands.{IsNotedOf, StandsFor, cell_of}
use Rattle.mr_defs.proofs.Lesser.{lesser_commutative}
use Rattle.mr_defs.proofs.Readings.{passing, malformed_read, outside_read, large_read}
use Rattle.mr_container.proofs.Orders.{is_Equal}
use Rattle.mr_container.proofs.Counting.{is_some-cell_of, cells_of-push, cells_of-push_outside}

module _ {K V C : Type 0} {R : K → K → Ordering} (inside : K → Bool) (unit : V → C) (merged : C → C → C) where
  pub stands_empty : (cell_at : K → Option C) (cells : ℕ) (noted : Noted K) → ((q : K) → cell_at q ≡ None) → cells ≡ 0
      → noted.malformed ≡ None → noted.outside ≡ None → noted.twice ≡ None → noted.over ≡ None
      → StandsFor R inside unit merged cell_at cells noted []
  stands_empty cell_at cells noted none zero m out tw ov = record {
    each = λ q. none q ∙ elim (inside q) as (λ t. ◌≡◌ {A = Option C} None (if t then None else None)) [ true ↦ refl | false ↦ refl ];
    count = zero;
    faults = record { malformed = m; outside = out; over = ov };
    twice = tw;
  }

no_offset : (f : Option ℕ) → f ≡ joined (lesser nat_cmp) f None
no_offset f = sym (joined-none (lesser_commutative nat_cmp_total nat_cmp-IsAntisymmetric) f)

-- the reading of a key that passes
module _ {K : Type 0} (R : K → K → Ordering) where
  passes : (p : K → Bool) (f : Option K) (k : K) → p k ≡ true → joined (lesser R) f (Some k) ≡ joined (lesser R) f (passing p (Some k))
  passes p f k h = ap (λ t. joined (lesser R) f (if t then Some k else None)) (sym h)

module _ {K : Type 0} {R : K → K → Ordering} (o : IsTotalOrder R) (one : IsAntisymmetric R) where
  -- and of one that does not
  stays : (p : K → Bool) (f : Option K) (k : K) → p k ≡ false → f ≡ joined (lesser R) f (passing p (Some k))
  stays p f k h = sym (joined-none (lesser_commutative o one) f) ∙ ap (λ t. joined (lesser R) f (if t then Some k else None)) (sym h)

  nothing : (f : Option K) → f ≡ joined (lesser R) f None
  nothing f = sym (joined-none (lesser_commutative o one) f)

module _ {K V : Type 0} {R : K → K → Ordering} (o : IsTotalOrder R) (one : IsAntisymmetric R) (inside : K → Bool) where
  -- what an emission tells of each fault is joined to what was noted
  noted_after : (noted noted' : Noted K) (es : List (Emission K V)) (e : Emission K V) → IsNotedOf R inside noted es
      → noted'.malformed ≡ joined (lesser nat_cmp) noted.malformed (malformed_offset e)
      → noted'.outside ≡ joined (lesser R) noted.outside (passing (λ k. not (inside k)) (any_key e))
      → noted'.over ≡ joined (lesser R) noted.over (passing inside (large_key e))
      → IsNotedOf R inside noted' (es ++ e ∷ [])
  noted_after noted noted' es e was m out ov = record {
    malformed = m ∙ ap (λ f. joined (lesser nat_cmp) f (malformed_offset e)) (was.malformed ∙ sym (malformed_read R inside es))
        ∙ sym (joined_by-push (lesser_commutative nat_cmp_total nat_cmp-IsAntisymmetric) malformed_offset es e)
        ∙ malformed_read R inside (es ++ e ∷ []);
    outside = out ∙ ap (λ f. joined (lesser R) f (passing (λ k. not (inside k)) (any_key e))) (was.outside ∙ sym (outside_read R inside es))
        ∙ sym (joined_by-push (lesser_commutative o one) (λ e. passing (λ k. not (inside k)) (any_key e)) es e)
        ∙ outside_read R inside (es ++ e ∷ []);
    over = ov ∙ ap (λ f. joined (lesser R) f (passing inside (large_key e))) (was.over ∙ sym (large_read R inside es))
        ∙ sym (joined_by-push (lesser_commutative o one) (λ e. passing inside (large_key e)) es e) ∙ large_read R inside (es ++ e ∷ []);
  }

  module _ {C : Type 0} (unit : V → C) {merged : C → C → C} (laws : IsCommutative merged) (cell_at : K → Option C) (cells : ℕ)
      (noted : Noted K) (es : List (Emission K V)) (was : StandsFor R inside unit merged cell_at cells noted es) where
    -- the cell of a key, before and after
    abbrev meant : List (Emission K V) → K → Option C
    meant fs q = if inside q then cell_of unit merged (at R fs q) else None

    -- an emission that is no pair of a key inside leaves the cells
    same_cells : (e : Emission K V) → ((q : K) → inside q ≡ true → at R (e ∷ []) q ≡ []) → (q : K) → cell_at q ≡ meant (es ++ e ∷ []) q
    same_cells e none q = was.each q
        ∙ elim (inside q) as (λ t. inside q ≡ t
        → (if t then cell_of unit merged (at R es q) else None) ≡ (if t then cell_of unit merged (at R (es ++ e ∷ []) q) else None)) [
          | true ↦ λ h. ap (cell_of unit merged)
              (sym (filter_map-append (value_at R q) es (e ∷ []) ∙ ap (λ l. at R es q ++ l) (none q h) ∙ append-nil (at R es q)))
          | false ↦ λ h. refl
        ] refl

    -- and one that is no pair at all leaves their number
    same_count : (e : Emission K V) → filter_map pair_key (e ∷ []) ≡ [] → cells ≡ cells_of R inside (es ++ e ∷ [])
    same_count e none = was.count
        ∙ ap (λ ks. length (filter inside (ascending R ks)))
        (sym (filter_map-append pair_key es (e ∷ []) ∙ ap (λ l. filter_map pair_key es ++ l) none ∙ append-nil (filter_map pair_key es)))

    cell_inside : (k : K) → inside k ≡ true → cell_at k ≡ cell_of unit merged (at R es k)
    cell_inside k h = was.each k ∙ ap (λ t. if t then cell_of unit merged (at R es k) else None) h

    -- the pair's own key
    same_key : (k : K) (v : V) → inside k ≡ true → joined merged (cell_at k) (Some (unit v)) ≡ meant (es ++ Pair k v ∷ []) k
    same_key k v h =
        ap (λ c. joined merged c (Some (unit v))) (cell_inside k h)
        ∙ sym (joined_by-push laws (λ w. Some (unit w)) (at R es k) v)
        ∙ ap (cell_of unit merged)
        (ap (λ t. at R es k ++ (if t then v ∷ [] else [])) (sym (ap is_eq (tied_itself o k))) ∙ last_value (eq_by_cmp R k k)
        ∙ sym (filter_map-append (value_at R k) es (Pair k v ∷ [])))
        ∙ ap (λ t. if t then cell_of unit merged (at R (es ++ Pair k v ∷ []) k) else None) (sym h)
      where
        last_value : (t : Bool) → at R es k ++ (if t then v ∷ [] else []) ≡ at R es k ++ cons_option (if t then Some v else None) []
        last_value true = refl
        last_value false = refl

    -- any other key
    other_key : (k : K) (v : V) (q : K) → eq_by_cmp R q k ≡ false → cell_at q ≡ meant (es ++ Pair k v ∷ []) q
    other_key k v q e = same_cell
      where
        none : at R (Pair k v ∷ []) q ≡ []
        none = ap (λ t. cons_option (if t then Some v else None) []) e

        same_cell : cell_at q ≡ meant (es ++ Pair k v ∷ []) q
        same_cell = was.each q ∙ ap (λ l. if inside q then cell_of unit merged l else None)
            (sym (filter_map-append (value_at R q) es (Pair k v ∷ []) ∙ ap (λ l. at R es q ++ l) none ∙ append-nil (at R es q)))

    pub after_pair : (cell_at' : K → Option C) (cells' : ℕ) (k : K) (v : V)
        → inside k ≡ true
        → ((q : K) → cell_at' q ≡ cond (eq_by_cmp R q k) (joined merged (cell_at k) (Some (unit v))) (cell_at q))
        → cells' ≡ cond (is_some (cell_at k)) cells (cells + 1)
        → StandsFor R inside unit merged cell_at' cells' noted (es ++ Pair k v ∷ [])
    after_pair cell_at' cells' k v h each count = record {
      each = λ q. each q ∙ elim (eq_by_cmp R q k) as (λ t. eq_by_cmp R q k ≡ t
          → cond t (joined merged (cell_at k) (Some (unit v))) (cell_at q) ≡ meant (es ++ Pair k v ∷ []) q) [
            | true ↦ λ e. same_key k v h ∙ ap (meant (es ++ Pair k v ∷ [])) (sym (one q k (is_Equal (R q k) e)))
            | false ↦ λ e. other_key k v q e
          ] refl;
      count = count
          ∙ ap (λ t. cond t cells (cells + 1)) (ap is_some (cell_inside k h) ∙ is_some-cell_of R unit merged es k)
          ∙ ap (λ n. cond (list_any (eq_by_cmp R k) (filter_map pair_key es)) n (n + 1)) was.count
          ∙ sym (cells_of-push R o one inside es k v h);
      faults = noted_after noted noted es (Pair k v) was.faults (no_offset noted.malformed)
          (stays o one (λ q. not (inside q)) noted.outside k (ap not h)) (nothing o one noted.over);
      twice = was.twice;
    }

    -- a pair of a key that is not inside
    pub after_pair_outside : (k : K) (v : V) → inside k ≡ false
        → StandsFor R inside unit merged cell_at cells
        (record {
          malformed = noted.malformed;
          outside = joined (lesser R) noted.outside (Some k);
          twice = noted.twice;
          over = noted.over;
        }) (es ++ Pair k v ∷ [])
    after_pair_outside k v h = record {
      each = same_cells (Pair k v) (λ q i. none q i (eq_by_cmp R q k) refl);
      count = was.count ∙ sym (cells_of-push_outside R o one inside es k v h);
      faults = noted_after noted _ es (Pair k v) was.faults (no_offset noted.malformed)
          (passes R (λ q. not (inside q)) noted.outside k (ap not h)) (nothing o one noted.over);
      twice = was.twice;
    }
      where
        none : (q : K) → inside q ≡ true → (t : Bool) → eq_by_cmp R q k ≡ t → at R (Pair k v ∷ []) q ≡ []
        none q i true e = absurd (true≢false (sym i ∙ ap inside (one q k (is_Equal (R q k) e)) ∙ h))
        none q i false e = ap (λ t. cons_option (if t then Some v else None) []) e

    pub after_large : (k : K) → inside k ≡ true
        → StandsFor R inside unit merged cell_at cells
        (record {
          malformed = noted.malformed;
          outside = noted.outside;
          twice = noted.twice;
          over = joined (lesser R) noted.over (Some k);
        }) (es ++ TooLarge k ∷ [])
    after_large k h = record {
      each = same_cells (TooLarge k) (λ q i. refl);
      count = same_count (TooLarge k) refl;
      faults = noted_after noted _ es (TooLarge k) was.faults (no_offset noted.malformed)
          (stays o one (λ q. not (inside q)) noted.outside k (ap not h)) (passes R inside noted.over k h);
      twice = was.twice;
    }

    pub after_large_outside : (k : K) → inside k ≡ false
        → StandsFor R inside unit merged cell_at cells
        (record {
          malformed = noted.malformed;
          outside = joined (lesser R) noted.outside (Some k);
          twice = noted.twice;
          over = noted.over;
        }) (es ++ TooLarge k ∷ [])
    after_large_outside k h = record {
      each = same_cells (TooLarge k) (λ q i. refl);
      count = same_count (TooLarge k) refl;
      faults = noted_after noted _ es (TooLarge k) was.faults (no_offset noted.malformed)
          (passes R (λ q. not (inside q)) noted.outside k (ap not h)) (stays o one inside noted.over k h);
      twice = was.twice;
    }

    pub after_malformed : (m : ℕ)
        → StandsFor R inside unit merged cell_at cells
        (record {
          malformed = joined (lesser nat_cmp) noted.malformed (Some m);
          outside = noted.outside;
          twice = noted.twice;
          over = noted.over;
        }) (es ++ Malformed m ∷ [])
    after_malformed m = record {
      each = same_cells (Malformed m) (λ q i. refl);
      count = same_count (Malformed m) refl;
      faults = noted_after noted _ es (Malformed m) was.faults refl (nothing o one noted.outside) (nothing o one noted.over);
      twice = was.twice;
    }
