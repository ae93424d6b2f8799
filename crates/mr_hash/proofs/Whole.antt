-- What one list of entries stands for, and how it is read partition by partition.
use Rattle.std.proofs.Common.{zero, suc, inl, inr, ◌≤◌, ◌≡◌, ◌≢◌, ℕ, ◌+◌, ◌-◌, ◌%◌, ◌<◌, ◌==◌, true, cond, List, [], ◌∷◌, ◌++◌, length}
use Rattle.std.proofs.Common.{get_or, map, drop, filter, Some, is_some, Result, Ok, Err, OnOk, refl, sym, ap, subst, ◌∙◌, arith}
use Rattle.std.specs.List.{IsDistinct}
use Rattle.std.proofs.lemmas.Bool.{eq-eqb, cases_lt}
use Rattle.std.proofs.lemmas.List.{drop_all, length-map}
use Rattle.std.specs.declared.cmp.Ordering.{Ordering}
use Rattle.std.specs.Ordering.{eq_by_cmp}
use Rattle.std.specs.Cmp.{IsTotalOrder}
use Rattle.std.specs.FinMap.{IsAntisymmetric, find}
use Rattle.mr_defs.specs.Emission.{Emission, Pair}
use Rattle.mr_defs.specs.Commutative.{IsCommutative, joined}
use Rattle.mr_defs.specs.Faulty.{Noted}
use Rattle.mr_defs.specs.Stands.{StandsFor}
use Rattle.mr_container.specs.Partition.{IsPartition}
use Rattle.mr_container.proofs.Emitted.{after_pair}
use Rattle.mr_container.proofs.Entries.{part_of_distinct}
use Rattle.mr_container.proofs.Orders.{not_equal}
use Rattle.mr_hash.specs.declared.entry.Entry.{Entry}
use Rattle.mr_hash.specs.Pairs.{pairs_of, keys_of}
use Rattle.mr_hash.specs.Buckets.{of_partition}
use Rattle.mr_hash.proofs.Finding.{keys_of_pairs, length-told}

-- where a value has come
module _ {K C V : Type 0} {R : K → K → Ordering} (o : IsTotalOrder R) (one : IsAntisymmetric R) (unit : V → C) {merged : C → C → C}
    (laws : IsCommutative merged) (noted : Noted K) (es fs : List (Entry K C)) (k : K) (v : V) where
  emitted : ((q : K)
      → find R q (pairs_of fs) ≡ cond (eq_by_cmp R q k) (joined merged (find R k (pairs_of es)) (Some (unit v))) (find R q (pairs_of es)))
      → length fs ≡ cond (is_some (find R k (pairs_of es))) (length es) (length es + 1)
      → (list : List (Emission K V)) → StandsFor R (λ _. true) unit merged (λ q. find R q (pairs_of es)) (length es) noted list
      → StandsFor R (λ _. true) unit merged (λ q. find R q (pairs_of fs)) (length fs) noted (list ++ Pair k v ∷ [])
  emitted cells len list was = after_pair o one (λ _. true) unit laws (λ q. find R q (pairs_of es)) (length es) noted list was
      (λ q. find R q (pairs_of fs)) (length fs) k v refl cells len

  pub emitted_ok : {A E : Type 0} → (r : Result A E)
      → OnOk r ((q : K) → find R q (pairs_of fs)
      ≡ cond (eq_by_cmp R q k) (joined merged (find R k (pairs_of es)) (Some (unit v))) (find R q (pairs_of es)))
      → OnOk r (length fs ≡ cond (is_some (find R k (pairs_of es))) (length es) (length es + 1))
      → OnOk r ((list : List (Emission K V)) → StandsFor R (λ _. true) unit merged (λ q. find R q (pairs_of es)) (length es) noted list
      → StandsFor R (λ _. true) unit merged (λ q. find R q (pairs_of fs)) (length fs) noted (list ++ Pair k v ∷ []))
  emitted_ok (Ok a) cells len = emitted cells len
  emitted_ok (Err e) cells len = tt

-- the keys of a partition, all of them
pub whole_part : {K C : Type 0} {R : K → K → Ordering} (one : IsAntisymmetric R) (part_of : K → ℕ) (part : ℕ) (es : List (Entry K C))
    → IsDistinct (eq_by_cmp R) (keys_of es)
    → IsPartition R (λ k. find R k (pairs_of es)) part_of part (filter (λ p. part_of p.0 == part) (pairs_of es))
whole_part {R = R} one part_of part es d =
    part_of_distinct R one part_of part (pairs_of es) (subst (IsDistinct (eq_by_cmp R)) (sym (keys_of_pairs es)) d)

-- an entry that is passed, and one that is of the partition, by what is kept of its bucket
module _ {K C : Type 0} (hash_of : K → ℕ) (n parts part : ℕ) where
  pub entry_passed : (es : List (Entry K C)) (place : ℕ) → place < length es
      → (get_or (map (λ k. hash_of k % n) (keys_of es)) place 0 % parts ≢ part)
      → of_partition hash_of n parts part (drop place (pairs_of es)) ≡ of_partition hash_of n parts part (drop (place + 1) (pairs_of es))
  entry_passed [] place h d = absurd (omega arith)
  entry_passed (e ∷ es) zero h d = ap
      (λ t. cond t ((e.key, e.cell) ∷ of_partition hash_of n parts part (pairs_of es)) (of_partition hash_of n parts part (pairs_of es)))
      (not_equal _ _ d)
  entry_passed (e ∷ es) (suc place) h d =
      let next : suc place + 1 ≡ suc (place + 1) = omega arith in
      entry_passed es place (omega arith) d ∙ ap (λ m. of_partition hash_of n parts part (drop m (pairs_of (e ∷ es)))) (sym next)

  pub entry_taken : (es : List (Entry K C)) (place : ℕ) (x : Entry K C) → place < length es → x ≡ get_or es place x
      → get_or (map (λ k. hash_of k % n) (keys_of es)) place 0 % parts ≡ part
      → of_partition hash_of n parts part (drop place (pairs_of es))
      ≡ (x.key, x.cell) ∷ of_partition hash_of n parts part (drop (place + 1) (pairs_of es))
  entry_taken [] place x h is d = absurd (omega arith)
  entry_taken (e ∷ es) zero x h is d =
      ap (λ t. cond t ((e.key, e.cell) ∷ of_partition hash_of n parts part (pairs_of es))
      (of_partition hash_of n parts part (pairs_of es))) (eq-eqb _ _ d)
      ∙ ap (λ (y : Entry K C). (y.key, y.cell) ∷ of_partition hash_of n parts part (pairs_of es)) (sym is)
  entry_taken (e ∷ es) (suc place) x h is d =
      let next : suc place + 1 ≡ suc (place + 1) = omega arith in
      entry_taken es place x (omega arith) is d
      ∙ ap (λ m. (x.key, x.cell) ∷ of_partition hash_of n parts part (drop m (pairs_of (e ∷ es)))) (sym next)

  -- past the last entry
  entry_none : (es : List (Entry K C)) (place : ℕ) → length es ≤ place
      → of_partition hash_of n parts part (drop place (pairs_of es)) ≡ of_partition hash_of n parts part (drop (place + 1) (pairs_of es))
  entry_none es place h =
      let long : length (pairs_of es) ≡ length es = length-map {B = K × C} es (λ e. (e.key, e.cell)) in
      ap (of_partition hash_of n parts part)
      (drop_all place (pairs_of es) (omega (arith, h, long)) ∙ sym (drop_all (place + 1) (pairs_of es) (omega (arith, h, long))))

  -- as many entries as none of which is of the partition
  entries_passed : (es : List (Entry K C)) (from count : ℕ)
      → ((place : ℕ) → place < length es → from ≤ place → place < from + count
      → get_or (map (λ k. hash_of k % n) (keys_of es)) place 0 % parts ≢ part)
      → of_partition hash_of n parts part (drop from (pairs_of es)) ≡ of_partition hash_of n parts part (drop (from + count) (pairs_of es))
  entries_passed es from zero none = let same : from + 0 ≡ from = omega arith in
      ap (λ m. of_partition hash_of n parts part (drop m (pairs_of es))) (sym same)
  entries_passed es from (suc count) none =
      let next : from + 1 + count ≡ from + suc count = omega arith in
      elim (cases_lt from
      (length es)) [ inl h ↦ entry_passed es from h (none from h (omega arith) (omega arith)) | inr h ↦ entry_none es from h ]
      ∙ entries_passed es (from + 1) count (λ place l a b. none place l (omega (arith, a)) (omega (arith, b)))
      ∙ ap (λ m. of_partition hash_of n parts part (drop m (pairs_of es))) next

  pub passed_to : (es : List (Entry K C)) (buckets : List ℕ) → buckets ≡ map (λ k. hash_of k % n) (keys_of es) → (from to : ℕ) → from ≤ to
      → ((place : ℕ) → place < length buckets → from ≤ place → place < to → get_or buckets place 0 % parts ≢ part)
      → of_partition hash_of n parts part (drop from (pairs_of es)) ≡ of_partition hash_of n parts part (drop to (pairs_of es))
  passed_to es buckets are from to h none =
      let whole : from + (to - from) ≡ to = omega (arith, h) in
      let long : length buckets ≡ length es = ap length are ∙ length-told (λ k. hash_of k % n) es in
      entries_passed es from (to - from)
      (λ place l a b. subst (λ bs. get_or bs place 0 % parts ≢ part) are (none place (omega (arith, l, long)) a (omega (arith, b, whole))))
      ∙ ap (λ m. of_partition hash_of n parts part (drop m (pairs_of es))) whole
