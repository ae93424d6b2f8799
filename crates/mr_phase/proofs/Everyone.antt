-- What the hands have together stands for all that they emitted.
use Rattle.std.proofs.Common.{◌≡◌, ℕ, zero, suc, ◌+◌, ◌<◌, Bool, true, false, not, if◌then◌else◌, List, [], ◌∷◌, ◌++◌, length, map}
use Rattle.std.proofs.Common.{filter_map, flat_map, get_or, set, take, Option, Some, None, refl, sym, ap, subst, ◌∙◌, arith, IsPermutation}
use Rattle.std.proofs.Common.{append_assoc}
use Rattle.std.specs.Prelude.{All}
use Rattle.std.specs.List.{AllByRecursion, swap}
use Rattle.std.specs.declared.cmp.Ordering.{Ordering}
use Rattle.std.specs.Ordering.{nat_cmp}
use Rattle.std.specs.Cmp.{IsTotalOrder, nat_cmp_total}
use Rattle.std.specs.FinMap.{IsAntisymmetric, nat_cmp-IsAntisymmetric}
use Rattle.std.specs.List.Sorted.{IsStrictlySortedBy}
use Rattle.std.proofs.lemmas.List.Elements.{filter_map-append, All-head, All-tail}
use Rattle.std.proofs.lemmas.List.Sorted.{IsPermutation-refl, IsPermutation-sym, IsPermutation-trans, IsPermutation-append_right}
use Rattle.std.proofs.lemmas.List.Sorted.{IsPermutation-append_left, IsPermutation-append_comm, IsPermutation-keeps}
use Rattle.std.proofs.lemmas.List.{take_more}
use Rattle.std.proofs.lemmas.Grind.{flat_map-append}
use Rattle.mr_defs.specs.Emission.{Emission, Answer, Row}
use Rattle.mr_defs.specs.Commutative.{IsCommutative, joined, joined_by}
use Rattle.mr_defs.specs.CommutativeLaws.{joined_by-append, joined_by-push}
use Rattle.mr_defs.specs.Keyed.{at, value_at, any_key, large_key, malformed_offset, lesser}
use Rattle.mr_defs.specs.Partitions.{concatenated}
use Rattle.mr_defs.specs.Rows.{cells_of}
use Rattle.mr_defs.specs.Faulty.{Noted}
use Rattle.mr_defs.specs.Stands.{IsNotedOf, StandsFor, cell_of}
use Rattle.mr_defs.proofs.Lesser.{lesser_commutative}
use Rattle.mr_defs.proofs.Readings.{passing, malformed_read, outside_read, large_read}
use Rattle.mr_container.specs.Laws.{any_order}
use Rattle.mr_combine.specs.Fold.{IsFoldOf}
use Rattle.mr_phase.specs.Reduced.{entry_row}
use Rattle.mr_phase.proofs.Final.{reduced}
use Rattle.mr_phase.specs.Spread.{IsSpreadOf, noted_all}
use Rattle.mr_phase.proofs.Partitions.{AreParts, together}

-- what is read off each, joined, is read off all that they have
pub joined_flat : {A X E : Type 0} {op : A → A → A} → IsCommutative op
    → (g : E → Option A) (read : X → Option A) (es_of : X → List E) (xs : List X)
    → AllByRecursion (λ x. read x ≡ joined_by op g (es_of x)) xs → joined_by op read xs ≡ joined_by op g (flat_map es_of xs)
joined_flat laws g read es_of [] h = refl
joined_flat {op = op} laws g read es_of (x ∷ xs) h = ap (λ a. joined op a (joined_by op read xs)) h.0
    ∙ ap (joined op (joined_by op g (es_of x))) (joined_flat laws g read es_of xs h.1)
    ∙ sym (joined_by-append laws g (es_of x) (flat_map es_of xs))

pub each_map : {X : Type 0} (P Q : X → Type 0) → ((x : X) → P x → Q x) → (xs : List X) → AllByRecursion P xs → AllByRecursion Q xs
each_map P Q f [] h = tt
each_map P Q f (x ∷ xs) h = (f x h.0, each_map P Q f xs h.1)

none_joined : {A X : Type 0} (op : A → A → A) (read : X → Option A) (xs : List X) → AllByRecursion (λ x. read x ≡ None) xs
    → joined_by op read xs ≡ None
none_joined op read [] h = refl
none_joined op read (x ∷ xs) h = ap (λ a. joined op a (joined_by op read xs)) h.0 ∙ none_joined op read xs h.1

pub by_recursion : {X : Type 0} (P : X → Type 0) (xs : List X) → All P xs → AllByRecursion P xs
by_recursion P [] h = tt
by_recursion P (x ∷ xs) h = (All-head P x xs h, by_recursion P xs (All-tail P x xs h))

-- the faults of all
module _ {K V X : Type 0} {R : K → K → Ordering} (o : IsTotalOrder R) (one : IsAntisymmetric R) (inside : K → Bool) (noted : X → Noted K)
    (es_of : X → List (Emission K V)) where
  abbrev Notes : X → Type 0
  Notes x = IsNotedOf R inside (noted x) (es_of x)

  pub whole_noted : (xs : List X) → AllByRecursion Notes xs → IsNotedOf R inside (noted_all R noted xs) (flat_map es_of xs)
  whole_noted xs h = record {
    malformed = joined_flat (lesser_commutative nat_cmp_total nat_cmp-IsAntisymmetric) malformed_offset (λ x. (noted x).malformed) es_of xs
        (each_map Notes (λ x. (noted x).malformed ≡ joined_by (lesser nat_cmp) malformed_offset (es_of x))
        (λ x s. s.malformed ∙ sym (malformed_read R inside (es_of x))) xs h) ∙ malformed_read R inside (flat_map es_of xs);
    outside = joined_flat (lesser_commutative o one) (λ e. passing (λ k. not (inside k)) (any_key e)) (λ x. (noted x).outside) es_of xs
        (each_map Notes (λ x. (noted x).outside ≡ joined_by (lesser R) (λ e. passing (λ k. not (inside k)) (any_key e)) (es_of x))
        (λ x s. s.outside ∙ sym (outside_read R inside (es_of x))) xs h) ∙ outside_read R inside (flat_map es_of xs);
    over = joined_flat (lesser_commutative o one) (λ e. passing inside (large_key e)) (λ x. (noted x).over) es_of xs
        (each_map Notes (λ x. (noted x).over ≡ joined_by (lesser R) (λ e. passing inside (large_key e)) (es_of x))
        (λ x s. s.over ∙ sym (large_read R inside (es_of x))) xs h) ∙ large_read R inside (flat_map es_of xs);
  }

both_same : {A : Type 0} (b : Bool) (x : A) → x ≡ (if b then x else x)
both_same true x = refl
both_same false x = refl

module _ {K V C X : Type 0} {R : K → K → Ordering} (o : IsTotalOrder R) (one : IsAntisymmetric R) (inside : K → Bool)
    (unit : V → C) {merged : C → C → C} (laws : IsCommutative merged) (cell : X → K → Option C) (count : X → ℕ) (noted : X → Noted K)
    (es_of : X → List (Emission K V)) where
  abbrev Stands : X → Type 0
  Stands x = StandsFor R inside unit merged (cell x) (count x) (noted x) (es_of x)

  with_one : (b : Bool) (x y : Option C)
      → joined merged (if b then x else None) (if b then y else None) ≡ (if b then joined merged x y else None)
  with_one true x y = refl
  with_one false x y = refl

  whole_each : (xs : List X) → AllByRecursion Stands xs → (k : K)
      → joined_by merged (λ x. cell x k) xs ≡ (if inside k then cell_of unit merged (at R (flat_map es_of xs) k) else None)
  whole_each [] h k = both_same (inside k) None
  whole_each (x ∷ xs) h k =
      ap (λ a. joined merged a (joined_by merged (λ x. cell x k) xs)) (h.0.each k)
      ∙ ap (joined merged (if inside k then cell_of unit merged (at R (es_of x) k) else None)) (whole_each xs h.1 k)
      ∙ with_one (inside k) (cell_of unit merged (at R (es_of x) k)) (cell_of unit merged (at R (flat_map es_of xs) k))
      ∙ ap (λ c. if inside k then c else None)
      (sym (joined_by-append laws (λ v. Some (unit v)) (at R (es_of x) k) (at R (flat_map es_of xs) k))
      ∙ ap (cell_of unit merged) (sym (filter_map-append (value_at R k) (es_of x) (flat_map es_of xs))))

  whole_stands : (xs : List X) → AllByRecursion Stands xs
      → StandsFor R inside unit merged (λ k. joined_by merged (λ x. cell x k) xs) (cells_of R inside (flat_map es_of xs))
      (noted_all R noted xs) (flat_map es_of xs)
  whole_stands xs h = record {
    each = whole_each xs h;
    count = refl;
    faults = whole_noted o one inside noted es_of xs (each_map Stands (λ x. IsNotedOf R inside (noted x) (es_of x)) (λ x s. s.faults) xs h);
    twice = none_joined (lesser R) (λ x. (noted x).twice) xs (each_map Stands (λ x. (noted x).twice ≡ None) (λ x s. s.twice) xs h);
  }

  module _ (over : C → Bool) (answer : C → Answer) (folded : List V → Option Answer) (fold : IsFoldOf unit merged over answer folded)
      (part_of : K → ℕ) where
    -- all partitions of hands that stand for what they emitted
    pub spread : (xs : List X) → AllByRecursion Stands xs → (es : List (Emission K V)) → IsPermutation (flat_map es_of xs) es
        → (ps : List (List (Row K) × Option K)) → AreParts o one (λ k. joined_by merged (λ x. cell x k) xs) part_of over answer 0 ps
        → ((k : K) → part_of k < length ps)
        → All (λ list. IsStrictlySortedBy R (map (λ row. row.0) list)) (map (λ p. p.0) ps)
        → (after : Noted K) → after.malformed ≡ (noted_all R noted xs).malformed → after.outside ≡ (noted_all R noted xs).outside
        → after.twice ≡ (noted_all R noted xs).twice
        → after.over ≡ joined (lesser R) (noted_all R noted xs).over (joined_by (lesser R) (λ p. p.1) ps)
        → IsSpreadOf R inside folded (map (λ p. p.0) ps) after es
    spread xs h es same ps parts below ascend after malformed outside twice over_too =
        let w = together o one (λ k. joined_by merged (λ x. cell x k) xs) part_of over answer ps parts below in
        let stands = any_order o one inside laws unit (λ k. joined_by merged (λ x. cell x k) xs) (cells_of R inside (flat_map es_of xs))
        (noted_all R noted xs) (flat_map es_of xs) es same (whole_stands xs h) in
        let r = reduced o one inside unit merged over answer folded fold es (λ k. joined_by merged (λ x. cell x k) xs)
        (cells_of R inside (flat_map es_of xs)) (noted_all R noted xs) stands w.entries w.sorted w.found
        (filter_map (entry_row over answer) w.entries) (noted_all R noted xs) after refl refl malformed outside twice
        (over_too ∙ ap (joined (lesser R) (noted_all R noted xs).over) w.over_is) in
        record {
          rows = record { all = subst (λ l. IsPermutation l (concatenated (map (λ p. p.0) ps))) r.all_rows w.rows; ascends = ascend };
          faults = record { all_rows = refl; malformed = r.malformed; outside = r.outside; twice = r.twice; over = r.over };
        }

-- the faults of one hand more
module _ {K X : Type 0} {R : K → K → Ordering} (o : IsTotalOrder R) (one : IsAntisymmetric R) (noted : X → Noted K) where
  field_more : {A : Type 0} {op : A → A → A} → IsCommutative op → (f : X → Option A) (xs : List X) (i : ℕ) (x : X) → i < length xs
      → x ≡ get_or xs i x → (a b m : Option A) → a ≡ joined op b m → b ≡ joined_by op f (take i xs) → m ≡ f x
      → a ≡ joined_by op f (take (i + 1) xs)
  field_more {op = op} laws f xs i x h is a b m e g n =
      e ∙ ap (λ b. joined op b m) g ∙ ap (joined op (joined_by op f (take i xs))) n ∙ sym (joined_by-push laws f (take i xs) x)
      ∙ ap (joined_by op f) (sym (take_more xs i x h ∙ ap (λ y. take i xs ++ y ∷ []) (sym is)))

  pub noted_more : (xs : List X) (i : ℕ) (x : X) → i < length xs → x ≡ get_or xs i x → (after before more : Noted K)
      → after.malformed ≡ joined (lesser nat_cmp) before.malformed more.malformed
      → after.outside ≡ joined (lesser R) before.outside more.outside → after.twice ≡ joined (lesser R) before.twice more.twice
      → after.over ≡ joined (lesser R) before.over more.over
      → before ≡ noted_all R noted (take i xs) → more ≡ noted x → after ≡ noted_all R noted (take (i + 1) xs)
  noted_more xs i x h is after before more e f g k was new =
      let m = field_more (lesser_commutative nat_cmp_total nat_cmp-IsAntisymmetric)
      (λ x. (noted x).malformed) xs i x h is after.malformed before.malformed more.malformed e (ap (λ n. n.malformed) was)
      (ap (λ n. n.malformed) new) in
      let u = field_more (lesser_commutative o one) (λ x. (noted x).outside) xs i x h is after.outside before.outside more.outside f
      (ap (λ n. n.outside) was) (ap (λ n. n.outside) new) in
      let t = field_more (lesser_commutative o one) (λ x. (noted x).twice) xs i x h is after.twice before.twice more.twice g
      (ap (λ n. n.twice) was) (ap (λ n. n.twice) new) in
      let v = field_more (lesser_commutative o one) (λ x. (noted x).over) xs i x h is after.over before.over more.over k
      (ap (λ n. n.over) was) (ap (λ n. n.over) new) in
      λ j. record { malformed = m j; outside = u j; twice = t j; over = v j }

-- what tasks emit, in whichever order they stand and whoever took them
left_comm : {Y : Type 0} (a b c : List Y) → IsPermutation (a ++ (b ++ c)) (b ++ (a ++ c))
left_comm a b c = subst (λ l. IsPermutation l (b ++ (a ++ c))) (append_assoc a b c)
    (subst (λ l. IsPermutation ((a ++ b) ++ c) l) (append_assoc b a c)
    (IsPermutation-append_left c (a ++ b) (b ++ a) (IsPermutation-append_comm a b)))

module _ {X Y : Type 0} (f : X → List Y) where
  exchanged : (x : X) (t : List X) (j : ℕ) (d : X) → j < length t
      → IsPermutation (f x ++ flat_map f t) (f (get_or t j d) ++ flat_map f (set t j x))
  exchanged x [] j d h = absurd (omega (arith, h))
  exchanged x (y ∷ t) zero d h = left_comm (f x) (f y) (flat_map f t)
  exchanged x (y ∷ t) (suc j) d h =
      let g = f (get_or t j d) in
      IsPermutation-trans (f x ++ (f y ++ flat_map f t)) (f y ++ (f x ++ flat_map f t)) (g ++ (f y ++ flat_map f (set t j x)))
      (left_comm (f x) (f y) (flat_map f t))
      (IsPermutation-trans (f y ++ (f x ++ flat_map f t)) (f y ++ (g ++ flat_map f (set t j x))) (g ++ (f y ++ flat_map f (set t j x)))
      (IsPermutation-append_right (f y) (f x ++ flat_map f t) (g ++ flat_map f (set t j x)) (exchanged x t j d (omega arith)))
      (left_comm (f y) g (flat_map f (set t j x))))

  swapped : (l : List X) (i j : ℕ) (d : X) → i < length l → j < length l
      → IsPermutation (flat_map f l) (flat_map f (set (set l i (get_or l j d)) j (get_or l i d)))
  swapped [] i j d h k = absurd (omega (arith, h))
  swapped (x ∷ t) zero zero d h k = IsPermutation-refl (f x ++ flat_map f t)
  swapped (x ∷ t) zero (suc j) d h k = exchanged x t j d (omega arith)
  swapped (x ∷ t) (suc i) zero d h k = exchanged x t i d (omega arith)
  swapped (x ∷ t) (suc i) (suc j) d h k = IsPermutation-append_right (f x) (flat_map f t)
      (flat_map f (set (set t i (get_or t j d)) j (get_or t i d))) (swapped t i j d (omega arith) (omega arith))

  swap_keeps : (l : List X) (i j : ℕ) → i < length l → j < length l → IsPermutation (flat_map f l) (flat_map f (swap l i j))
  swap_keeps [] i j h k = IsPermutation-refl []
  swap_keeps (x ∷ t) i j h k = swapped (x ∷ t) i j x h k

  pub IsPermutation-flat_map : (xs ys : List X) → IsPermutation xs ys → IsPermutation (flat_map f xs) (flat_map f ys)
  IsPermutation-flat_map xs ys p = IsPermutation-keeps xs (λ l. IsPermutation (flat_map f xs) (flat_map f l))
      (IsPermutation-refl (flat_map f xs))
      (λ l i j h k q. IsPermutation-trans (flat_map f xs) (flat_map f l) (flat_map f (swap l i j)) q (swap_keeps l i j h k)) ys p

flat_twice : {X Y Z : Type 0} (f : Y → List Z) (g : X → List Y) (xs : List X)
    → flat_map (λ x. flat_map f (g x)) xs ≡ flat_map f (flat_map g xs)
flat_twice f g [] = refl
flat_twice f g (x ∷ xs) = ap (λ l. flat_map f (g x) ++ l) (flat_twice f g xs) ∙ sym (flat_map-append f (g x) (flat_map g xs))

pub tasks_emitted : {X E : Type 0} (pairs : ℕ → List E) (tasks_of : X → List ℕ) (xs : List X) (all : List ℕ)
    → IsPermutation all (flat_map tasks_of xs) → IsPermutation (flat_map (λ x. flat_map pairs (tasks_of x)) xs) (flat_map pairs all)
tasks_emitted pairs tasks_of xs all p =
    subst (λ l. IsPermutation l (flat_map pairs all)) (sym (flat_twice pairs tasks_of xs))
    (IsPermutation-sym (flat_map pairs all) (flat_map pairs (flat_map tasks_of xs))
    (IsPermutation-flat_map pairs all (flat_map tasks_of xs) p))
