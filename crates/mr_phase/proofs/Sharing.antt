-- Partitions that workers have reduced, from the empty lists of the workers to the list of all in the order of their numbers.
use Rattle.std.proofs.Common.{◌≡◌, ℕ, ◌+◌, ◌-◌, ◌<◌, ◌≤◌, Bool, List, [], ◌∷◌, ◌++◌, length, get_or, map, flat_map, slice_index_or, Option}
use Rattle.std.proofs.Common.{refl, sym, ap, subst, ◌∙◌, arith, IsPermutation, append_assoc, append-nil}
use Rattle.std.specs.Prelude.{All}
use Rattle.std.specs.List.{range_with_len}
use Rattle.std.specs.List.Sorted.{IsSortedByKey}
use Rattle.std.specs.declared.cmp.Ordering.{Ordering}
use Rattle.std.specs.Ordering.{nat_cmp}
use Rattle.std.proofs.lemmas.List.{map-append, length-map, get_or-map, flat_map_more}
use Rattle.std.proofs.lemmas.List.Elements.{All-nil, All-push, All-append, All-head, All-tail, All-get_or}
use Rattle.std.proofs.lemmas.List.FromFn.{length-range_with_len, get_or-range_with_len}
use Rattle.std.proofs.lemmas.List.Sorted.{IsNonDecreasingBy-from_sort, All-permutation, IsPermutation-refl, IsPermutation-trans}
use Rattle.std.proofs.lemmas.List.Sorted.{IsPermutation-map, IsPermutation-append_left, IsPermutation-append_right}
use Rattle.std.proofs.lemmas.List.Sorted.{IsPermutation-append_comm}
use Rattle.mr_defs.specs.Emission.{Answer}
use Rattle.mr_base.specs.Spare.{Spared}
use Rattle.mr_base.specs.Tasks.{AreAll, AreUnused}
use Rattle.mr_phase.specs.declared.hands.Hand.{Hand}
use Rattle.mr_phase.specs.declared.map.Work.{Work}
use Rattle.mr_phase.specs.declared.partition.Partition.{Partition}
use Rattle.mr_phase.specs.Partition.{IsReducedAt, AreReduced, HaveReduced, itself}
use Rattle.mr_phase.specs.Works.{AreOf, AreFresh}
use Rattle.mr_phase.proofs.Ordered.{all_in_order}

-- what stands last goes behind the others
pub poured : {X : Type 0} (xs ys s xs' : List X) → IsPermutation (xs ++ s) xs' → IsPermutation (xs ++ (ys ++ s)) (xs' ++ ys)
poured xs ys s xs' h =
    IsPermutation-trans (xs ++ (ys ++ s)) (xs ++ (s ++ ys)) (xs' ++ ys)
    (IsPermutation-append_right xs (ys ++ s) (s ++ ys) (IsPermutation-append_comm ys s))
    (subst (λ l. IsPermutation l (xs' ++ ys)) (append_assoc xs s ys) (IsPermutation-append_left ys (xs ++ s) xs' h))

pub moved : {X : Type 0} (whole xs ys ys' xs' : List X) (x : X) → ys ≡ ys' ++ x ∷ [] → xs' ≡ xs ++ x ∷ [] → IsPermutation whole (xs ++ ys)
    → IsPermutation whole (xs' ++ ys')
moved whole xs ys ys' xs' x is is' p =
    IsPermutation-trans whole (xs ++ ys) (xs' ++ ys') p
    (subst (λ l. IsPermutation (xs ++ l) (xs' ++ ys')) (sym is)
    (poured xs ys' (x ∷ []) xs' (subst (IsPermutation (xs ++ x ∷ [])) (sym is') (IsPermutation-refl (xs ++ x ∷ [])))))

last_of : {X Y : Type 0} (f : X → List Y) (xs : List X) (x : X) → flat_map f (xs ++ x ∷ []) ≡ flat_map f xs ++ f x
last_of f xs x = sym (flat_map_more f [] xs x)

pub poured_in : {X Y : Type 0} (f : X → List Y) (whole all all' : List Y) (shares shares' : List X) (share : X)
    → shares ≡ shares' ++ share ∷ [] → IsPermutation (all ++ f share) all' → IsPermutation whole (all ++ flat_map f shares)
    → IsPermutation whole (all' ++ flat_map f shares')
poured_in f whole all all' shares shares' share is p q =
    IsPermutation-trans whole (all ++ flat_map f shares) (all' ++ flat_map f shares') q
    (subst (λ l. IsPermutation (all ++ l) (all' ++ flat_map f shares')) (sym (ap (flat_map f) is ∙ last_of f shares' share))
    (poured all (flat_map f shares') (f share) all' p))

pub poured_all : {X Y : Type 0} (f : X → List Y) (whole all sorted : List Y) (shares : List X) → shares ≡ [] → IsPermutation all sorted
    → IsPermutation whole (all ++ flat_map f shares) → IsPermutation whole sorted
poured_all f whole all sorted shares none p q =
    IsPermutation-trans whole all sorted (subst (IsPermutation whole) (ap (λ l. all ++ flat_map f l) none ∙ append-nil all) q) p

pub itself_all : (ts : List ℕ) → flat_map itself ts ≡ ts
itself_all [] = refl
itself_all (t ∷ ts) = ap (λ l. t ∷ l) (itself_all ts)

module _ {K C : Type 0} (R : K → K → Ordering) (whole : K → Option C) (part_of : K → ℕ) (over : C → Bool) (answer : C → Answer) where
  abbrev Reduced : Partition K → Type 0
  Reduced p = IsReducedAt R whole part_of over answer p.part p

  abbrev number_of : Partition K → ℕ
  number_of p = p.part

  -- one partition more
  pub done_more : (ps ps' : List (Partition K)) (p : Partition K) (ts ts' : List ℕ) (t : ℕ) → ps' ≡ ps ++ p ∷ [] → ts' ≡ ts ++ t ∷ []
      → p.part ≡ t → IsReducedAt R whole part_of over answer t p
      → (map (λ p. p.part) ps ≡ flat_map itself ts) × All (λ p. IsReducedAt R whole part_of over answer p.part p) ps
      → (map (λ p. p.part) ps' ≡ flat_map itself ts') × All (λ p. IsReducedAt R whole part_of over answer p.part p) ps'
  done_more ps ps' p ts ts' t is is' number good so = (
    ap (map number_of) is ∙ map-append number_of ps (p ∷ []) ∙ (λ i. so.0 i ++ number i ∷ []) ∙ flat_map_more itself [] ts t
        ∙ ap (flat_map itself) (sym is'),
    subst (All Reduced) (sym is) (All-push Reduced ps p so.1 (subst (λ n. IsReducedAt R whole part_of over answer n p) (sym number) good)),
  )

  -- workers with empty lists
  pub fresh_works : {P : Type 0} (is_of : P → Type 0) (number : P → ℕ) (given : P → List ℕ) (ended : P → Bool) (count : ℕ)
      (passes : List P) (lists : List (Spared (Partition K))) (works : List (Work P (Spared (Partition K))))
      → AreAll count is_of number passes → AreUnused given ended passes → length lists ≡ length passes → All (λ l. l.items ≡ []) lists
      → AreOf passes lists works → AreFresh is_of number given (HaveReduced R whole part_of over answer) works
  fresh_works {P} is_of number given ended count passes lists works all unused long empty of i d lt =
      let w : Work P (Spared (Partition K)) = slice_index_or works i d in
      let o = of.1 i d lt in
      let j : ℕ = length passes - (i + 1) in
      let n0 = all.0 in let n1 = of.0 in
      let below : j < length passes = omega (arith, lt, n1) in
      let a = all.1 j w.pass (omega (arith, below, n0)) in
      let u = unused j w.pass below in
      let e : w.local.items ≡ [] = ap (λ l. l.items) o.2 ∙ empty j w.local (omega (arith, below, long)) in (
        subst is_of (sym o.1) a.0,
        o.0 ∙ sym (ap number o.1 ∙ a.1),
        ap given o.1 ∙ u.0,
        o.3,
        subst (λ l. (map number_of l ≡ []) × All Reduced l) (sym e) (refl, All-nil Reduced),
        o.4,
      )

  abbrev Share : Type 0
  Share = Hand (Spared (Partition K))

  abbrev Shares : List Share → Type 0
  Shares hs = All (λ h. HaveReduced R whole part_of over answer h.local (flat_map itself h.tasks.items)) hs

  numbers_of : (hs : List Share) → Shares hs → map number_of (flat_map (λ h. h.local.items) hs) ≡ flat_map (λ h. h.tasks.items) hs
  numbers_of [] all = refl
  numbers_of (h ∷ hs) all =
      map-append number_of h.local.items (flat_map (λ (y : Share). y.local.items) hs)
      ∙ ap (λ l. l ++ map number_of (flat_map (λ (y : Share). y.local.items) hs))
      ((All-head (λ (y : Share). HaveReduced R whole part_of over answer y.local (flat_map itself y.tasks.items)) h hs all).0
      ∙ itself_all h.tasks.items)
      ∙ ap (λ l. h.tasks.items ++ l)
      (numbers_of hs (All-tail (λ (y : Share). HaveReduced R whole part_of over answer y.local (flat_map itself y.tasks.items)) h hs all))

  each_of : (hs : List Share) → Shares hs → All Reduced (flat_map (λ h. h.local.items) hs)
  each_of [] all = All-nil Reduced
  each_of (h ∷ hs) all = All-append Reduced h.local.items (flat_map (λ (y : Share). y.local.items) hs)
      (All-head (λ (y : Share). HaveReduced R whole part_of over answer y.local (flat_map itself y.tasks.items)) h hs all).1
      (each_of hs (All-tail (λ (y : Share). HaveReduced R whole part_of over answer y.local (flat_map itself y.tasks.items)) h hs all))

  some_of : (ps : List (Partition K)) → 0 < length ps → Partition K
  some_of [] h = absurd (omega (arith, h))
  some_of (p ∷ ps) h = p

  rising : (ps : List (Partition K)) → IsSortedByKey number_of nat_cmp ps → (i j : ℕ) (d : ℕ) → i < j → j < length (map number_of ps)
      → get_or (map number_of ps) i d ≤ get_or (map number_of ps) j d
  rising ps up i j d low high =
      let long = length-map ps number_of in
      let p : Partition K = some_of ps (omega (arith, high, long)) in
      let a = get_or-map number_of ps i p d (omega (arith, low, high, long)) in
      let b = get_or-map number_of ps j p d (omega (arith, high, long)) in
      let le = IsNonDecreasingBy-from_sort number_of ps up i j p (omega (arith, low)) (omega (arith, high, long)) in
      omega (arith, a, b, le)

  -- the partitions of all workers, sorted by their numbers, are those of all numbers below n, each at its place
  pub all_reduced : (hs : List Share) (ps : List (Partition K)) (n : ℕ) → Shares hs
      → IsPermutation (range_with_len 0 n) (flat_map (λ h. h.tasks.items) hs) → IsPermutation (flat_map (λ h. h.local.items) hs) ps
      → IsSortedByKey (λ p. p.part) nat_cmp ps
      → (length ps ≡ n) × AreReduced R whole part_of over answer ps
  all_reduced hs ps n all once same up =
      let numbers = IsPermutation-map number_of (flat_map (λ (h : Share). h.local.items) hs) ps same in
      let below = IsPermutation-trans (range_with_len 0 n) (flat_map (λ (h : Share). h.tasks.items) hs) (map number_of ps) once
      (subst (λ l. IsPermutation l (map number_of ps)) (numbers_of hs all) numbers) in
      let is = all_in_order n (map number_of ps) below (rising ps up) in
      let long : length ps ≡ n = sym (length-map ps number_of) ∙ ap length is ∙ length-range_with_len 0 n in
      let each = All-permutation Reduced (flat_map (λ (h : Share). h.local.items) hs) ps same (each_of hs all) in (
        long,
        λ i p lt e.
            let number : p.part ≡ i = ap number_of e ∙ sym (get_or-map number_of ps i p 0 lt) ∙ ap (λ l. get_or l i 0) is
            ∙ get_or-range_with_len 0 n i 0 (omega (arith, lt, long)) ∙ omega arith in
            subst (λ k. IsReducedAt R whole part_of over answer k p) number (subst Reduced (sym e) (All-get_or Reduced ps i p lt each)),
      )
