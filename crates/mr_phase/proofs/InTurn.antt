-- Entries that are read block by block and taken one by one.
use Rattle.std.proofs.Common.{◌≡◌, ◌≢◌, ℕ, suc, ◌+◌, ◌-◌, ◌/◌, ◌%◌, ◌<◌, ◌≤◌, Bool, false, List, [], ◌∷◌, ◌++◌, length, map, take, drop}
use Rattle.std.proofs.Common.{get_or, Option, Some, None, refl, sym, ap, subst, ◌∙◌, arith, append_assoc, append-nil, IsPermutation, Bor}
use Rattle.std.specs.Prelude.{All, slice_get}
use Rattle.std.specs.List.{cons_option, slice_range}
use Rattle.std.specs.Option.{option_to_list}
use Rattle.std.specs.List.Sorted.{IsNonDecreasing, IsSortedBy}
use Rattle.std.specs.Cmp.{IsTotalOrder}
use Rattle.std.specs.declared.cmp.Ordering.{Ordering}
use Rattle.std.specs.Ordering.{is_lt}
use Rattle.std.proofs.Math.Seq.{take-add}
use Rattle.std.proofs.lemmas.List.{get_or-drop, get_or-map, get_or-take, length-drop, length-map, length-take}
use Rattle.std.proofs.lemmas.List.{map-append, take_all, take_more}
use Rattle.std.proofs.lemmas.List.Elements.{All-cons, All-nil, All-head, All-tail, All-append, All-get_or, All-map, filter_map-append}
use Rattle.std.proofs.lemmas.List.Sorted.{ranks_by, sorted_far, All-permutation, IsPermutation-append, IsPermutation-map}
use Rattle.std.proofs.lemmas.List.Sorted.{IsPermutation-refl, IsPermutation-trans}
use Rattle.std.proofs.lemmas.Option.{get_or_from_slice_get, slice_get-get_or}
use Rattle.std.proofs.Math.Nat.{mod-lt}
use Rattle.mr_phase.proofs.Ordering.{Rises, adjacent, div_rises, rises_both, rises_far}
use Rattle.mr_phase.specs.Packed.{Fronts, Tells, picked}
use Rattle.mr_phase.specs.Taking.{AreInOrder, AreTakenOf, is_before, pairs_of}

rises_map : {X Y : Type 0} (f : X → Y) (lt : Y → Y → Bool) (xs : List X) → Rises (λ a b. lt (f a) (f b)) xs → Rises lt (map f xs)
rises_map f lt [] r = tt
rises_map f lt (x ∷ xs) r = (All-map (λ y. lt y (f x) ≡ false) f xs r.0, rises_map f lt xs r.1)

-- a queue that gave nothing
pub unchanged : {X : Type 0} (xs ys : List X) (o : Option X) → o ≡ None → xs ≡ option_to_list o ++ ys → xs ≡ ys
unchanged xs ys o none is = is ∙ ap (λ p. option_to_list p ++ ys) none

pub emptied : {X : Type 0} (xs ys : List X) → xs ≡ ys → ys ≡ drop 1 xs → xs ≡ []
emptied [] ys same rest = refl
emptied (x ∷ xs) ys same rest = let n = ap length (same ∙ rest) in absurd (omega (arith, n))

-- what holds of the fronts that numbers tell holds of the entries at their places
picked_each : {X : Type 0} (front : X → ℕ) (entries : List X) (P : ℕ → Type 0) (ws : List ℕ) → All (Tells front entries) ws
    → All (λ w. P (w / length entries)) ws → All (λ e. P (front e)) (picked entries ws)
picked_each front entries P [] tells each = All-nil (λ e. P (front e))
picked_each {X} front entries P (w ∷ ws) tells each = one
    (picked_each front entries P ws (All-tail (Tells front entries) w ws tells) (All-tail (λ v. P (v / length entries)) w ws each))
    (slice_get entries (w % length entries)) refl
  where
    one : All (λ e. P (front e)) (picked entries ws) → (o : Option X) → slice_get entries (w % length entries) ≡ o
        → All (λ e. P (front e)) (cons_option o (picked entries ws))
    one rest None e = rest
    one rest (Some x) e =
        let is = ap front (sym (get_or_from_slice_get entries (w % length entries) x x e)) ∙ All-head (Tells front entries) w ws tells x in
        All-cons (λ y. P (front y)) x (picked entries ws) (subst P (sym is) (All-head (λ v. P (v / length entries)) w ws each)) rest

-- a block with one entry more
pub picked_more : {X : Type 0} (entries : List X) (words : List ℕ) (i w : ℕ) (e : X) → i < length words → w ≡ get_or words i 0
    → 0 < length entries → e ≡ get_or entries (w % length entries) e
    → picked entries (take (i + 1) words) ≡ picked entries (take i words) ++ e ∷ []
picked_more entries words i w e h is some it =
    ap (picked entries) (take_more words i 0 h ∙ ap (λ y. take i words ++ y ∷ []) (sym is))
    ∙ filter_map-append (λ v. slice_get entries (v % length entries)) (take i words) (w ∷ [])
    ∙ ap (λ o. picked entries (take i words) ++ cons_option o [])
    (slice_get-get_or entries (w % length entries) e (mod-lt w some) ∙ ap Some (sym it))

-- the place at an index of the places of these numbers is that of the number at the index
pub place_at : (count : ℕ) (words places : List ℕ) (i place : ℕ) → places ≡ map (λ w. w % count) words → i < length places
    → place ≡ get_or places i 0 → (place ≡ get_or words i 0 % count) × (i < length words)
place_at count words places i place all h is =
    let few = subst (λ n. i < n) (ap length all ∙ length-map words (λ w. w % count)) h in
    (is ∙ ap (λ l. get_or l i 0) all ∙ get_or-map (λ w. w % count) words i 0 0 few, few)

pub place_inside : (count : ℕ) (words places : List ℕ) (i place : ℕ) → places ≡ map (λ w. w % count) words → i < length places
    → place ≡ get_or places i 0 → 0 < count → place < count
place_inside count words places i place all h is some =
    subst (λ p. p < count) (sym (place_at count words places i place all h is).0) (mod-lt (get_or words i 0) some)

pub pairs_more : {K C : Type 0} (block after : List (ℕ × Bor K × Bor C)) (x : ℕ × Bor K × Bor C) → after ≡ block ++ x ∷ []
    → pairs_of after ≡ pairs_of block ++ (x.1, x.2) ∷ []
pairs_more block after x put = ap pairs_of put ∙ map-append (λ e. (e.1, e.2)) block (x ∷ [])

each_at : (P : ℕ → Type 0) (xs : List ℕ) → ((j : ℕ) → j < length xs → P (get_or xs j 0)) → All P xs
each_at P [] h = All-nil P
each_at P (x ∷ xs) h = All-cons P x xs (h 0 (omega arith)) (each_at P xs (λ j k. h (suc j) (omega (arith, k))))

tells_within : (P : ℕ → Type 0) (xs : List ℕ) (from to : ℕ) → ((j : ℕ) → from ≤ j → j < to → j < length xs → P (get_or xs j 0))
    → All P (slice_range xs from to)
tells_within P xs from to h = each_at P (slice_range xs from to) (λ j k.
    let n = length-take (to - from) (drop from xs) in
    let m = length-drop from xs in
    subst P (sym (get_or-take (to - from) (drop from xs) j 0 (omega (arith, k, n)) ∙ get_or-drop from xs j 0))
    (h (from + j) (omega arith) (omega (arith, k, n)) (omega (arith, k, n, m))))

module _ {X : Type 0} {lt : X → X → Bool} (front : X → ℕ) (orders : (a b : X) → front a < front b → lt b a ≡ false) (bound : ℕ) where
  above_one : (x : X) (ys : List X) → front x < bound → All (λ y. bound ≤ front y) ys → All (λ y. lt y x ≡ false) ys
  above_one x [] h a = All-nil (λ y. lt y x ≡ false)
  above_one x (y ∷ ys) h a = All-cons (λ y. lt y x ≡ false) y ys
      (orders x y (let p = All-head (λ y. bound ≤ front y) y ys a in omega (arith, p, h)))
      (above_one x ys h (All-tail (λ y. bound ≤ front y) y ys a))

  above_each : (xs ys : List X) → All (λ x. front x < bound) xs → All (λ y. bound ≤ front y) ys → All (λ x. All (λ y. lt y x ≡ false) ys) xs
  above_each [] ys h a = All-nil (λ x. All (λ y. lt y x ≡ false) ys)
  above_each (x ∷ xs) ys h a = All-cons (λ x. All (λ y. lt y x ≡ false) ys) x xs
      (above_one x ys (All-head (λ x. front x < bound) x xs h) a) (above_each xs ys (All-tail (λ x. front x < bound) x xs h) a)

  lifted : (bound' : ℕ) (xs : List X) → bound ≤ bound' → All (λ x. front x < bound) xs → All (λ x. front x < bound') xs
  lifted bound' [] h a = All-nil (λ x. front x < bound')
  lifted bound' (x ∷ xs) h a = All-cons (λ x. front x < bound') x xs
      (let p = All-head (λ x. front x < bound) x xs a in omega (arith, p, h)) (lifted bound' xs h (All-tail (λ x. front x < bound) x xs a))

module _ {K C : Type 0} {R : K → K → Ordering} (o : IsTotalOrder R) where
  abbrev pub before : Bor K × Bor C → Bor K × Bor C → Bool
  before = is_before {C = C} R

  abbrev pair : ℕ × Bor K × Bor C → Bor K × Bor C
  pair e = (e.1, e.2)

  far : (xs : List (Bor K × Bor C)) → IsSortedBy before xs → Rises before xs
  far xs up = rises_far before xs (λ i j d p h. sorted_far before (ranks_by o (λ e. e.0.now)) xs up i j d (omega (arith, p)) h)

  far_read : (xs : List (ℕ × Bor K × Bor C)) → IsSortedBy (λ x y. is_lt (R x.1.now y.1.now)) xs → Rises (λ x y. before (pair x) (pair y)) xs
  far_read xs up = rises_far (λ x y. before (pair x) (pair y)) xs
      (λ i j d p h. sorted_far (λ x y. before (pair x) (pair y)) (ranks_by o (λ e. e.1.now)) xs up i j d (omega (arith, p)) h)

  -- a block more is read, where all that was read is taken
  module _ (all taken : List (Bor K × Bor C)) (words : List ℕ) (read to : ℕ) (near : List (ℕ × Bor K × Bor C)) (more : read < to)
      (inside : to ≤ length words) (some : 0 < length all)
      (apart : to < length words → get_or words (to - 1) 0 / length all ≢ get_or words to 0 / length all)
      (moves : IsPermutation (picked all (slice_range words read to)) (pairs_of near))
      (up : IsSortedBy (λ x y. is_lt (R x.1.now y.1.now)) near) (t : AreTakenOf R all taken words read []) where
    abbrev front : Bor K × Bor C → ℕ
    front = t.fronts.front

    abbrev chosen : List ℕ
    chosen = slice_range words read to

    abbrev last : ℕ
    last = get_or words (to - 1) 0 / length all

    tells : All (Tells front all) chosen
    tells = tells_within (Tells front all) words read to (λ j from until k. All-get_or (Tells front all) words j 0 k t.fronts.tells)

    up_to : (i j : ℕ) → i ≤ j → j < length words → get_or words i 0 / length all ≤ get_or words j 0 / length all
    up_to i j h k = div_rises (length all) (get_or words i 0) (get_or words j 0) some (t.rise i j 0 h k)

    low : All (λ e. t.bound ≤ front e) (pairs_of near)
    low = All-permutation (λ e. t.bound ≤ front e) (picked all chosen) (pairs_of near) moves
        (picked_each front all (λ k. t.bound ≤ k) chosen tells
        (tells_within (λ w. t.bound ≤ w / length all) words read to (λ j from until k. t.later j from k)))

    high : All (λ e. front e < last + 1) (pairs_of near)
    high = All-permutation (λ e. front e < last + 1) (picked all chosen) (pairs_of near) moves
        (picked_each front all (λ k. k < last + 1) chosen tells (tells_within (λ w. w / length all < last + 1) words read to
        (λ j from until k. let u = up_to j (to - 1) (omega (arith, until)) (omega (arith, more, inside)) in omega (arith, u))))

    taken_all : taken ++ [] ≡ taken
    taken_all = append-nil taken

    old_below : All (λ e. front e < t.bound) taken
    old_below = subst (All (λ e. front e < t.bound)) taken_all t.below

    lower : t.bound ≤ last + 1
    lower = let p = t.later (to - 1) (omega (arith, more)) (omega (arith, more, inside)) in omega (arith, p)

    start : take to words ≡ take read words ++ chosen
    start = ap (λ m. take m words) (omega (arith, more)) ∙ take-add read (to - read) words

    pub block_more : AreTakenOf R all taken words to near
    block_more = record {
      fronts = t.fronts;
      rise = t.rise;
      whole = t.whole;
      same = subst (λ l. IsPermutation l (taken ++ pairs_of near))
          (sym (ap (picked all) start ∙ filter_map-append (λ w. slice_get all (w % length all)) (take read words) chosen))
          (IsPermutation-append (picked all (take read words)) taken (picked all chosen) (pairs_of near)
          (subst (IsPermutation (picked all (take read words))) taken_all t.same) moves);
      rises = adjacent before (taken ++ pairs_of near)
          (rises_both before taken (pairs_of near) (far taken (subst (IsSortedBy before) taken_all t.rises))
          (rises_map pair before near (far_read near up))
          (above_each front t.fronts.orders t.bound taken (pairs_of near) old_below low));
      bound = last + 1;
      below = All-append (λ e. front e < last + 1) taken (pairs_of near)
          (lifted front t.fronts.orders t.bound (last + 1) taken lower old_below) high;
      later = λ j h k.
          let differ = apart (omega (arith, h, k)) in
          let one = up_to (to - 1) to (omega arith) (omega (arith, h, k)) in
          let two = up_to to j h k in
          above (get_or words to 0 / length all) differ one two;
    }
      where
        above : {n : ℕ} (m : ℕ) → last ≢ m → last ≤ m → m ≤ n → last + 1 ≤ n
        above m differ one two = omega (arith, differ, one, two)

  -- a block that is put in order
  pub settled : (picks : List (Bor K × Bor C)) (fresh near : List (ℕ × Bor K × Bor C)) → pairs_of fresh ≡ picks → IsPermutation fresh near
      → IsPermutation picks (pairs_of near)
  settled picks fresh near is moved = subst (λ l. IsPermutation l (pairs_of near)) is (IsPermutation-map pair fresh near moved)

  -- one that was read is taken
  pub one_taken : (all taken : List (Bor K × Bor C)) (words : List ℕ) (read : ℕ) (e : ℕ × Bor K × Bor C)
      (near near' : List (ℕ × Bor K × Bor C)) → near ≡ e ∷ near' → AreTakenOf R all taken words read near
      → AreTakenOf R all (taken ++ (e.1, e.2) ∷ []) words read near'
  one_taken all taken words read e near near' is t =
      let moved : taken ++ pairs_of near ≡ (taken ++ (e.1, e.2) ∷ []) ++ pairs_of near' =
      ap (λ l. taken ++ pairs_of l) is ∙ sym (append_assoc taken ((e.1, e.2) ∷ []) (pairs_of near')) in
      record {
        fronts = t.fronts;
        rise = t.rise;
        whole = t.whole;
        same = subst (IsPermutation (picked all (take read words))) moved t.same;
        rises = subst (IsSortedBy before) moved t.rises;
        bound = t.bound;
        below = subst (All (λ e. t.fronts.front e < t.bound)) moved t.below;
        later = t.later;
      }

  -- all are taken
  pub all_taken : (all taken : List (Bor K × Bor C)) (words : List ℕ) (read : ℕ) → length words ≤ read
      → AreTakenOf R all taken words read [] → AreInOrder R all taken
  all_taken all taken words read h t = record {
    same = IsPermutation-trans all (picked all words) taken t.whole
        (subst (IsPermutation (picked all words)) (append-nil taken)
        (subst (λ l. IsPermutation (picked all l) (taken ++ [])) (take_all read words h) t.same));
    rises = subst (IsSortedBy before) (append-nil taken) t.rises;
  }

  -- none is taken
  pub none_taken : (all : List (Bor K × Bor C)) (words : List ℕ) → Fronts before all words → IsNonDecreasing words
      → IsPermutation all (picked all words) → AreTakenOf R all [] words 0 []
  none_taken all words fronts rise whole = record {
    fronts = fronts;
    rise = rise;
    whole = whole;
    same = IsPermutation-refl [];
    rises = λ k d low h. absurd (omega (arith, h));
    bound = 0;
    below = All-nil (λ e. fronts.front e < 0);
    later = λ j h k. omega arith;
  }
