-- The order of the workers turns round twice.
use Rattle.std.proofs.Common.{◌≡◌, ℕ, zero, suc, ◌+◌, ◌-◌, ◌<◌, Bool, true, false, List, [], ◌∷◌, ◌++◌, length, length-append}
use Rattle.std.proofs.Common.{slice_index_or, slice_get, Some, All, flat_map, take, drop, refl, sym, ap, ◌∙◌, arith, subst}
use mathlib.Core.Logic.{dite}
use native.Mathlib.Decide.{dec_lt}
use Rattle.mr_phase.specs.declared.map.Work.{Work}
use Rattle.mr_phase.specs.declared.hands.Hand.{Hand}
use Rattle.std.specs.List.Sorted.{IsPermutation}
use Rattle.std.proofs.lemmas.List.Sorted.{IsPermutation-refl, IsPermutation-append, IsPermutation-sym}
use Rattle.std.proofs.lemmas.Option.{slice_get-get_or, same_Some, none-some}
use Rattle.mr_base.specs.Tasks.{AreAll, HaveEnded}
use Rattle.mr_base.specs.Spare.{Spared}
use Rattle.mr_base.specs.Lending.{refilled}
use Rattle.mr_phase.specs.Works.{AreOf, AreFrom, AreDone}

abbrev pub StartsAt : {X : Type 0} → List X → List X → Type 0
StartsAt {X} part all = (i : ℕ) (d : X) → i < length part → slice_index_or all i d ≡ slice_index_or part i d

-- worker i has the i-th pass and local from the end
abbrev pub Placed : {P L : Type 0} → List P → List L → ℕ → Work P L → Type 0
Placed {P} {L} passes locals i w = (w.worker ≡ length passes - (i + 1)) × (w.pass ≡ slice_index_or passes (length passes - (i + 1)) w.pass)
    × (w.local ≡ slice_index_or locals (length passes - (i + 1)) w.local) × (w.tasks.items ≡ []) × (w.starved ≡ false)

abbrev pub Gathering : {P L : Type 0} → List P → List L → List P → List L → List (Work P L) → Type 0
Gathering {P} {L} passes locals left rest works =
    (length left ≡ length rest) × (length left + length works ≡ length passes) × StartsAt left passes × StartsAt rest locals
    × ((i : ℕ) (d : Work P L) → i < length works → let w = slice_index_or works i d in
    (w.worker ≡ length passes - (i + 1)) × (w.pass ≡ slice_index_or passes (length passes - (i + 1)) w.pass)
    × (w.local ≡ slice_index_or locals (length passes - (i + 1)) w.local) × (w.tasks.items ≡ []) × (w.starved ≡ false))

abbrev pub Scattering : {P L : Type 0} → List (Work P L) → List (Work P L) → List P → List (Hand L) → Type 0
Scattering {P} {L} works left passes hands =
    (length left + length passes ≡ length works) × (length hands ≡ length passes) × StartsAt left works
    × ((i : ℕ) (d : Work P L) (p : P) (h : Hand L) → i < length passes → let w = slice_index_or works (length works - (i + 1)) d in
    (slice_index_or passes i p ≡ w.pass) × ((slice_index_or hands i h).tasks ≡ w.tasks) × ((slice_index_or hands i h).local ≡ w.local)
    × (w.starved ≡ false))

last_is : {X : Type 0} (xs : List X) (x d : X) (i : ℕ) → i ≡ length xs → slice_index_or (xs ++ x ∷ []) i d ≡ x
last_is [] x d zero e = refl
last_is [] x d (suc i) e = absurd (omega (arith, e))
last_is (y ∷ ys) x d zero e = absurd (omega (arith, e))
last_is (y ∷ ys) x d (suc i) e = last_is ys x d i (omega (arith, e))

before_is : {X : Type 0} (xs : List X) (x d : X) (i : ℕ) → i < length xs → slice_index_or (xs ++ x ∷ []) i d ≡ slice_index_or xs i d
before_is [] x d i h = absurd (omega (arith, h))
before_is (y ∷ ys) x d zero h = refl
before_is (y ∷ ys) x d (suc i) h = before_is ys x d i (omega (arith, h))

len_snoc : {X : Type 0} (xs : List X) (x : X) → length (xs ++ x ∷ []) ≡ length xs + 1
len_snoc xs x = let e = length-append xs (x ∷ []) in omega (arith, e)

pub one_longer : {X : Type 0} (xs ys : List X) (x : X) → ys ≡ xs ++ x ∷ [] → length ys ≡ length xs + 1
one_longer xs ys x is = ap length is ∙ len_snoc xs x

scatters : {P L : Type 0} (works left : List (Work P L)) (w : Work P L) (passes : List P) (hands : List (Hand L))
    → Scattering works (left ++ w ∷ []) passes hands → w.starved ≡ false
    → Scattering works left (passes ++ w.pass ∷ []) (hands ++ record { tasks = w.tasks; local = w.local } ∷ [])
scatters {P} {L} works left w passes hands s ok =
    let n = len_snoc left w in
    let np = len_snoc passes w.pass in
    let hand : Hand L = record { tasks = w.tasks; local = w.local } in
    let nh = len_snoc hands hand in
    let s0 = s.0 in let s1 = s.1 in
    let here : (d : Work P L) → slice_index_or works (length left) d ≡ w =
    λ d. s.2 (length left) d (omega (arith, n)) ∙ last_is left w d (length left) refl in (
      omega (arith, n, np, s0),
      omega (arith, np, nh, s1),
      (λ i d lt. s.2 i d (omega (arith, lt, n)) ∙ before_is left w d i lt),
      λ i d p h lt. dite (dec_lt i (length passes))
          (λ below. let r = s.3 i d p h below in (
            before_is passes w.pass p i below ∙ r.0,
            ap (λ (y : Hand L). y.tasks) (before_is hands hand h i (omega (arith, below, s1))) ∙ r.1,
            ap (λ (y : Hand L). y.local) (before_is hands hand h i (omega (arith, below, s1))) ∙ r.2,
            r.3,
          ))
          (λ no. let e : i ≡ length passes = omega (arith, no, lt, np) in
          let k : length works - (i + 1) ≡ length left = omega (arith, e, s0, n) in
          let it : slice_index_or works (length works - (i + 1)) d ≡ w = ap (λ j. slice_index_or works j d) k ∙ here d in
          let hi = last_is hands hand h i (omega (arith, e, s1)) in (
            last_is passes w.pass p i e ∙ sym (ap (λ (y : Work P L). y.pass) it),
            ap (λ (y : Hand L). y.tasks) hi ∙ sym (ap (λ (y : Work P L). y.tasks) it),
            ap (λ (y : Hand L). y.local) hi ∙ sym (ap (λ (y : Work P L). y.local) it),
            ap (λ (y : Work P L). y.starved) it ∙ ok,
          )),
    )

-- the worker that is equipped with the last pass and local
pub gathers : {P L : Type 0} (passes : List P) (locals : List L) (now left : List P) (nows rest : List L) (p : P) (l : L)
    (works works' : List (Work P L)) (w : Work P L) → Gathering passes locals now nows works
    → now ≡ left ++ p ∷ [] → nows ≡ rest ++ l ∷ [] → works' ≡ works ++ w ∷ []
    → (w.worker ≡ length left) × (w.pass ≡ p) × (w.local ≡ l) × (w.tasks.items ≡ []) × (w.starved ≡ false)
    → Gathering passes locals left rest works'
gathers {P} {L} passes locals now left nows rest p l works works' w s is is' put has =
    let n = ap length is ∙ len_snoc left p in
    let m = ap length is' ∙ len_snoc rest l in
    let k = ap length put ∙ len_snoc works w in
    let s0 = s.0 in let s1 = s.1 in
    let low : StartsAt left passes =
    λ i d lt. s.2 i d (omega (arith, lt, n)) ∙ ap (λ xs. slice_index_or xs i d) is ∙ before_is left p d i lt in
    let low' : StartsAt rest locals =
    λ i d lt. s.3 i d (omega (arith, lt, m)) ∙ ap (λ xs. slice_index_or xs i d) is' ∙ before_is rest l d i lt in
    let here : (d : P) → slice_index_or passes (length left) d ≡ p = λ d. s.2 (length left) d (omega (arith, n))
    ∙ ap (λ xs. slice_index_or xs (length left) d) is ∙ last_is left p d (length left) refl in
    let here' : (d : L) → slice_index_or locals (length left) d ≡ l = λ d. s.3 (length left) d (omega (arith, n, s0))
    ∙ ap (λ xs. slice_index_or xs (length left) d) is' ∙ last_is rest l d (length left) (omega (arith, n, m, s0)) in (
      omega (arith, n, m, s0),
      omega (arith, n, k, s1),
      low,
      low',
      λ i d lt. let at : slice_index_or works' i d ≡ slice_index_or (works ++ w ∷ []) i d = ap (λ xs. slice_index_or xs i d) put in
          dite (dec_lt i (length works))
          (λ below. subst (Placed passes locals i) (sym (at ∙ before_is works w d i below)) (s.4 i d below))
          (λ no. let e : i ≡ length works = omega (arith, no, lt, k) in
          let j : length left ≡ length passes - (i + 1) = omega (arith, e, s1, n) in
          subst (Placed passes locals i) (sym (at ∙ last_is works w d i e)) (
            has.0 ∙ j,
            has.1 ∙ sym (here w.pass) ∙ ap (λ q. slice_index_or passes q w.pass) j,
            has.2 ∙ sym (here' w.local) ∙ ap (λ q. slice_index_or locals q w.local) j,
            has.3,
            has.4,
          )),
    )

pub scatters_at : {P L : Type 0} (works now left : List (Work P L)) (w : Work P L) (passes passes' : List P) (hands hands' : List (Hand L))
    → Scattering works now passes hands → now ≡ left ++ w ∷ [] → w.starved ≡ false
    → passes' ≡ passes ++ w.pass ∷ [] → hands' ≡ hands ++ record { tasks = w.tasks; local = w.local } ∷ []
    → Scattering works left passes' hands'
scatters_at {P} {L} works now left w passes passes' hands hands' s is ok ps hs =
    let F : List P × List (Hand L) → Type 0 = λ y. Scattering works left y.0 y.1 in
    subst F (λ i. (sym ps i, sym hs i))
    (scatters works left w passes hands (subst (λ (l : List (Work P L)). Scattering works l passes hands) is s) ok)

pub scattered : {P L : Type 0} (works left : List (Work P L)) (passes : List P) (hands : List (Hand L))
    → Scattering works left passes hands → left ≡ [] → AreFrom works passes hands
scattered works left passes hands s none =
    let n = ap length none in let s0 = s.0 in let s1 = s.1 in
    (omega (arith, n, s0), omega (arith, n, s0, s1), λ i d p h lt. s.3 i d p h (omega (arith, lt, n, s0)))

any_default : {X : Type 0} (xs : List X) (i : ℕ) (d e : X) → i < length xs → slice_index_or xs i d ≡ slice_index_or xs i e
any_default [] i d e h = absurd (omega (arith, h))
any_default (x ∷ xs) zero d e h = refl
any_default (x ∷ xs) (suc i) d e h = any_default xs i d e (omega (arith, h))

pub first_of_list : {X : Type 0} (xs : List X) → 0 < length xs → X
first_of_list [] h = absurd (omega (arith, h))
first_of_list (x ∷ xs) h = x

all_of : {X : Type 0} (xs ys : List X) → length ys ≡ length xs → take (length xs) (ys ++ drop (length ys) xs) ≡ ys
all_of [] [] e = refl
all_of [] (y ∷ ys) e = absurd (omega (arith, e))
all_of (x ∷ xs) [] e = absurd (omega (arith, e))
all_of (x ∷ xs) (y ∷ ys) e = ap (λ l. y ∷ l) (all_of xs ys (omega (arith, e)))

-- a list whose items were lent has what was written, where that is as long
pub refilled_is : {X : Type 0} (few : Spared X) (ys : List X) → length ys ≡ length few.items → (refilled few ys).items ≡ ys
refilled_is few ys e = all_of few.items ys e

-- lists that are permutations of each other place by place are so together
together : {P L : Type 0} (given : P → List ℕ) (passes : List P) (hands : List (Hand L)) → length hands ≡ length passes
    → ((i : ℕ) (p : P) (h : Hand L) → i < length passes
    → IsPermutation (slice_index_or hands i h).tasks.items (given (slice_index_or passes i p)))
    → IsPermutation (flat_map given passes) (flat_map (λ (y : Hand L). y.tasks.items) hands)
together given [] [] len h = IsPermutation-refl []
together given [] (y ∷ ys) len h = absurd (omega (arith, len))
together given (p ∷ ps) [] len h = absurd (omega (arith, len))
together {P} {L} given (p ∷ ps) (y ∷ ys) len h =
    IsPermutation-append (given p) y.tasks.items (flat_map given ps) (flat_map (λ (z : Hand L). z.tasks.items) ys)
    (IsPermutation-sym _ _ (h zero p y (omega arith)))
    (together given ps ys (omega (arith, len)) (λ i q z lt. h (suc i) q z (omega (arith, lt))))

-- an item that stands at a place
pub within : {X : Type 0} (xs : List X) (i : ℕ) (x : X) → slice_get xs i ≡ Some x → i < length xs
within [] i x e = absurd (none-some x e)
within (y ∷ ys) zero x e = omega arith
within (y ∷ ys) (suc i) x e = let r = within ys i x e in omega (arith, r)

pub there : {X : Type 0} (xs : List X) (i : ℕ) (x : X) → slice_get xs i ≡ Some x → x ≡ slice_index_or xs i x
there xs i x e = same_Some x (slice_index_or xs i x) (sym e ∙ slice_get-get_or xs i x (within xs i x e))

module _ {P L E : Type 0} (is_of : P → Type 0) (number : P → ℕ) (given : P → List ℕ) (ended : P → Bool) (same_origin : L → L → Type 0)
    (stands : L → List E → Type 0) (emits : ℕ → List E)
    (count : ℕ) (passes : List P) (locals : List L) (befores afters : List (Work P L)) (again : List P) (hands : List (Hand L))
    (all : AreAll count is_of number passes) (of : AreOf passes locals befores) (len : length afters ≡ length befores)
    (done : AreDone is_of number given ended same_origin stands emits befores afters) (from : AreFrom afters again hands) where
  -- what the i-th hand is
  hand_is : (i : ℕ) (p : P) (h : Hand L) → i < count
      → is_of (slice_index_or again i p) × (number (slice_index_or again i p) ≡ i) × (ended (slice_index_or again i p) ≡ true)
      × IsPermutation (slice_index_or hands i h).tasks.items (given (slice_index_or again i p))
      × stands (slice_index_or hands i h).local (flat_map emits (slice_index_or hands i h).tasks.items)
  hand_is i p h lt =
      let n0 = all.0 in let n1 = of.0 in
      let d : Work P L = record { worker = 0; padding = []; pass = p; tasks = h.tasks; local = h.local; starved = false } in
      let j : ℕ = length afters - (i + 1) in
      let il : i < length afters = omega (arith, lt, n0, n1, len) in
      let jl : j < length befores = omega (arith, il, len) in
      let f = from.2 i d p h il in
      let w : Work P L = slice_index_or afters j d in
      let b : Work P L = slice_index_or befores j d in
      let o = of.1 j d jl in
      let r = done j d jl in
      let good = r.3 f.3 in
      let back : length passes - (j + 1) ≡ i = omega (arith, il, n1, len) in
      let was : b.pass ≡ slice_index_or passes i b.pass = o.1 ∙ ap (λ k. slice_index_or passes k b.pass) back in
      let num : number b.pass ≡ i = ap number was ∙ (all.1 i b.pass lt).1 in
      let ts : (slice_index_or hands i h).tasks ≡ w.tasks = f.1 in
      let G : P → Type 0 = λ q. is_of q × (number q ≡ i) × (ended q ≡ true) × IsPermutation w.tasks.items (given q) in
      let g = subst G (sym f.0) (r.0, r.1 ∙ num, good.0, good.1) in (
        g.0,
        g.1,
        g.2,
        subst (λ v. IsPermutation v.items (given (slice_index_or again i p))) (sym ts) g.3,
        subst (λ v. stands (slice_index_or hands i h).local (flat_map emits v.items)) (sym ts)
            (subst (λ (l : L). stands l (flat_map emits w.tasks.items)) (sym f.2) good.2),
      )

  all_again : AreAll count is_of number again × HaveEnded ended again
  all_again =
      let n0 = all.0 in let n1 = of.0 in let n2 = from.0 in
      let same : length again ≡ count = omega (arith, n0, n1, n2, len) in (
        (same, λ i p lt. let r = hand_is i p (hand_for i lt) lt in (r.0, r.1)),
        λ i p lt. (hand_is i p (hand_for i (omega (arith, lt, same))) (omega (arith, lt, same))).2,
      )
    where
      hand_for : (i : ℕ) → i < count → Hand L
      hand_for i lt = first_of_list hands (let n0 = all.0 in let n1 = of.0 in let n2 = from.1 in omega (arith, n0, n1, n2, len, lt))

  tasks_same : IsPermutation (flat_map given again) (flat_map (λ (h : Hand L). h.tasks.items) hands)
  tasks_same =
      let n0 = all.0 in let n1 = of.0 in let n2 = from.0 in let n3 = from.1 in
      together given again hands (omega (arith, n2, n3)) (λ i p h lt. (hand_is i p h (omega (arith, lt, n0, n1, n2, len))).3)

  stands_all : (length hands ≡ count) × All (λ h. stands h.local (flat_map emits h.tasks.items)) hands
  stands_all =
      let n0 = all.0 in let n1 = of.0 in let n2 = from.0 in let n3 = from.1 in
      let same : length hands ≡ count = omega (arith, n0, n1, n3, len) in
      (same, λ i h lt. (hand_is i (first_of_list again (omega (arith, lt, n2, n3))) h (omega (arith, lt, same))).4)

  origins : length locals ≡ length passes → (i : ℕ) (l : L) (h : Hand L) → i < length hands
      → same_origin (slice_index_or locals i l) (slice_index_or hands i h).local
  origins same i l h lt =
      let n0 = all.0 in let n1 = of.0 in let n2 = from.0 in let n3 = from.1 in
      let p : P = first_of_list again (omega (arith, lt, n2, n3)) in
      let d : Work P L = record { worker = 0; padding = []; pass = p; tasks = h.tasks; local = l; starved = false } in
      let j : ℕ = length afters - (i + 1) in
      let il : i < length afters = omega (arith, lt, n3) in
      let jl : j < length befores = omega (arith, il, len) in
      let f = from.2 i d p h il in
      let b : Work P L = slice_index_or befores j d in
      let o = of.1 j d jl in
      let r = done j d jl in
      let back : length passes - (j + 1) ≡ i = omega (arith, il, n1, len) in
      let was : b.local ≡ slice_index_or locals i b.local = o.2 ∙ ap (λ k. slice_index_or locals k b.local) back in
      subst (λ x. same_origin (slice_index_or locals i l) x) (sym f.2)
      (subst (λ x. same_origin x (slice_index_or afters j d).local)
      (was ∙ any_default locals i b.local l (omega (arith, il, n0, n1, len, same))) r.2)

  -- what a phase ends with
  pub record Ends : Type 0 where
    pub closed : AreAll count is_of number again × HaveEnded ended again
    pub count_is : length hands ≡ count
    pub tasks : IsPermutation (flat_map given again) (flat_map (λ (h : Hand L). h.tasks.items) hands)
    pub stands_each : All (λ h. stands h.local (flat_map emits h.tasks.items)) hands
    pub origin : (i : ℕ) (l : L) (h : Hand L) → slice_get locals i ≡ Some l → slice_get hands i ≡ Some h → same_origin l h.local

  pub ends : length locals ≡ length passes → Ends
  ends same = record {
    closed = all_again;
    count_is = stands_all.0;
    tasks = tasks_same;
    stands_each = stands_all.1;
    origin = λ i l h at at'.
        let lt = within hands i h at' in
        subst (λ x. same_origin l x.local) (sym (there hands i h at'))
        (subst (λ x. same_origin x (slice_index_or hands i h).local) (sym (there locals i l at)) (origins same i l h lt));
  }
