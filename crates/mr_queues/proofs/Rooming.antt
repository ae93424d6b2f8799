-- The room for passes goes with the first of them, and is found there again.
use Rattle.std.proofs.Common.{◌≡◌, Bool, ℕ, zero, suc, ◌<◌, List, [], ◌∷◌, ◌++◌, length, map, reverse, Option, Some, None, refl, sym, ap}
use Rattle.std.proofs.Common.{subst, ◌∙◌, append_assoc, arith}
use Rattle.std.specs.Prelude.{filter_map, option_map, slice_index_or}
use Rattle.std.specs.List.{cons_option}
use Rattle.std.proofs.lemmas.List.{append-nil, map-append, reverse-reverse}
use Rattle.mr_base.specs.Spare.{Spared}
use Rattle.mr_base.specs.Tasks.{AreAll, AreAllGiven, AreUnused, HaveEnded}
use Rattle.mr_queues.specs.Rooms.{AreRoomed, HasFirst, HasRoom, IsRoom}
use Rattle.mr_queues.proofs.OneKind.{all_any, all_own, ended_any_all, ended_own, given_any_all, given_own_all, unused_any, unused_own}
use Rattle.mr_queues.proofs.Turned.{turned_last}

-- the passes so far, each with room, and the room that the next one gets
pub record SoFar {P A : Type 0} (any : P × Spared P → A) (count : ℕ) (passes : List P) (done : List A) (left : List P)
    (room : Spared P) : Type 0 where
  pub roomed : List (P × Spared P)
  pub are : done ≡ map any roomed
  pub own : map (λ r. r.0) roomed ++ reverse left ≡ passes
  pub first : HasFirst count roomed
  pub next : roomed ≡ [] → IsRoom count room

no_end : {X : Type 0} (xs : List X) (x : X) → xs ++ x ∷ [] ≡ [] → ⊥
no_end [] x e = cc
no_end (y ∷ ys) x e = cc

module _ {P A : Type 0} (any : P × Spared P → A) (count : ℕ) (passes : List P) where
  pub none_yet : (done : List A) (left : List P) (room : Spared P) → done ≡ [] → left ≡ reverse passes → IsRoom count room
      → SoFar any count passes done left room
  none_yet done left room empty turned is = record {
    roomed = [];
    are = empty;
    own = ap reverse turned ∙ reverse-reverse passes;
    first = tt;
    next = λ e. is;
  }

  with_first : (rs : List (P × Spared P)) (r : P × Spared P) → HasFirst count rs → (rs ≡ [] → IsRoom count r.1)
      → HasFirst count (rs ++ r ∷ [])
  with_first [] r first next = next refl
  with_first (s ∷ rs) r first next = first

  pub one_more : (done more : List A) (before after : List P) (x : P) (room other : Spared P) → SoFar any count passes done before room
      → before ≡ after ++ x ∷ [] → more ≡ done ++ any (x, room) ∷ []
      → SoFar any count passes more after other
  one_more done more before after x room other so is pushed = record {
    roomed = so.roomed ++ (x, room) ∷ [];
    are = pushed ∙ ap (λ d. d ++ any (x, room) ∷ []) so.are ∙ sym (map-append any so.roomed ((x, room) ∷ []));
    own = ap (λ m. m ++ reverse after) (map-append (λ r. r.0) so.roomed ((x, room) ∷ []))
        ∙ append_assoc (map (λ r. r.0) so.roomed) (x ∷ []) (reverse after)
        ∙ ap (λ t. map (λ r. r.0) so.roomed ++ t) (sym (turned_last before after x is)) ∙ so.own;
    first = with_first so.roomed (x, room) so.first so.next;
    next = λ e. absurd (no_end so.roomed (x, room) e);
  }

  pub all_roomed : (done : List A) (left : List P) (room : Spared P) → SoFar any count passes done left room → left ≡ []
      → AreRoomed any count passes done
  all_roomed done left room so empty = record {
    roomed = so.roomed;
    are = so.are;
    own = sym (append-nil (map (λ r. r.0) so.roomed)) ∙ ap (λ l. map (λ r. r.0) so.roomed ++ reverse l) (sym empty) ∙ so.own;
    room = so.first;
  }

module _ {P A : Type 0} (any : P × Spared P → A) (count : ℕ) where
  -- at the place of number 0 there is the room
  room_at : (rs : List (P × Spared P)) → HasFirst count rs → (i : ℕ) (d : P × Spared P) → i < length rs → i ≡ 0
      → IsRoom count (slice_index_or rs i d).1
  room_at [] first i d h e = absurd (omega (arith, h))
  room_at (r ∷ rs) first zero d h e = first
  room_at (r ∷ rs) first (suc i) d h e = absurd (omega (arith, e))

  module _ (number : P → ℕ) (number_any : A → ℕ) (numbers : (r : P × Spared P) → number_any (any r) ≡ number r.0) (is_of : P → Type 0)
      (is_any : A → Type 0) where
    pub are_any : ((r : P × Spared P) → is_of r.0 → (number r.0 ≡ 0 → IsRoom count r.1) → is_any (any r)) → (ps : List P) (all : List A)
        → AreRoomed any count ps all → AreAll count is_of number ps → AreAll count is_any number_any all
    are_any of ps all roomed are =
        let rs = roomed.roomed in
        let own : AreAll count (λ r. is_of r.0) (λ r. number r.0) rs = all_own (λ r. r.0) (λ r. number r.0) number (λ r. refl)
        (λ r. is_of r.0) is_of count rs (λ r is. is) (subst (AreAll count is_of number) (sym roomed.own) are) in
        let full : AreAll count (λ r. is_of r.0 × (number r.0 ≡ 0 → IsRoom count r.1)) (λ r. number r.0) rs = (
          own.0,
          λ i d h.
              let is = own.1 i d h in (
                (is.0, λ z. room_at rs roomed.room i d (subst (λ n. i < n) (sym own.0) h) (sym is.1 ∙ z)),
                is.1,
              ),
        ) in
        subst (AreAll count is_any number_any) (sym roomed.are)
        (all_any any (λ r. number r.0) number_any numbers (λ r. is_of r.0 × (number r.0 ≡ 0 → IsRoom count r.1)) is_any count rs
        (λ r is. of r is.0 is.1) full)

  module _ (given : P → List ℕ) (given_any : A → List ℕ) (lists : (r : P × Spared P) → given_any (any r) ≡ given r.0) (ended : P → Bool)
      (ended_any : A → Bool) (ends : (r : P × Spared P) → ended_any (any r) ≡ ended r.0) where
    pub are_unused : (ps : List P) (all : List A) → AreRoomed any count ps all → AreUnused given ended ps
        → AreUnused given_any ended_any all
    are_unused ps all roomed unused =
        subst (AreUnused given_any ended_any) (sym roomed.are)
        (unused_any any (λ r. given r.0) given_any lists (λ r. ended r.0) ended_any ends roomed.roomed
        (unused_own (λ r. r.0) (λ r. given r.0) given (λ r. refl) (λ r. ended r.0) ended (λ r. refl) roomed.roomed
        (subst (AreUnused given ended) (sym roomed.own) unused)))

module _ {P A : Type 0} (within : A → Option (P × Spared P)) where
  -- the pass alone, where it is of the kind
  abbrev pub own_of : A → Option P
  own_of a = option_map (λ r. r.0) (within a)

  first_of : (o : Option (P × Spared P)) (rs : List (P × Spared P))
      → map (λ r. r.0) (cons_option o rs) ≡ cons_option (option_map (λ r. r.0) o) (map (λ r. r.0) rs)
  first_of None rs = refl
  first_of (Some r) rs = refl

  pub picked : (xs : List A) → map (λ r. r.0) (filter_map within xs) ≡ filter_map own_of xs
  picked [] = refl
  picked (a ∷ xs) = first_of (within a) (filter_map within xs) ∙ ap (cons_option (own_of a)) (picked xs)

  pub has_room : (number : A → ℕ) (is_any : A → Type 0) (count : ℕ)
      → ((a : A) → is_any a → number a ≡ 0 → (r : P × Spared P) × (within a ≡ Some r) × IsRoom count r.1) → 0 < count
      → (xs : List A) → AreAll count is_any number xs → HasRoom within xs
  has_room number is_any count kind some [] all = absurd (omega (arith, some, all.0))
  has_room number is_any count kind some (a ∷ xs) all =
      let at = all.1 0 a some in
      let k = kind a at.0 at.1 in
      (k.0, k.1, subst (λ n. IsRoom n k.0.1) (sym all.0) k.2)

module _ {P A : Type 0} (any : P × Spared P → A) (within : A → Option (P × Spared P)) (xs : List A)
    (are : xs ≡ map any (filter_map within xs)) where
  abbrev rooms : List (P × Spared P)
  rooms = filter_map within xs

  module _ (number : P → ℕ) (number_any : A → ℕ) (numbers : (r : P × Spared P) → number_any (any r) ≡ number r.0) (is_of : P → Type 0)
      (is_any : A → Type 0) (count : ℕ) where
    pub own_all : ((r : P × Spared P) → is_any (any r) → is_of r.0) → AreAll count is_any number_any xs
        → AreAll count is_of number (filter_map (own_of within) xs)
    own_all of all =
        subst (AreAll count is_of number) (picked within xs)
        (all_any (λ r. r.0) (λ r. number r.0) number (λ r. refl) (λ r. is_of r.0) is_of count rooms (λ r is. is)
        (all_own any (λ r. number r.0) number_any numbers
        (λ r. is_of r.0) is_any count rooms of (subst (AreAll count is_any number_any) are all)))

  module _ (given : P → List ℕ) (given_any : A → List ℕ) (lists : (r : P × Spared P) → given_any (any r) ≡ given r.0) where
    pub own_given : (n : ℕ) → AreAllGiven n given (filter_map (own_of within) xs) → AreAllGiven n given_any xs
    own_given n all =
        subst (AreAllGiven n given_any) (sym are)
        (given_any_all any (λ r. given r.0) given_any lists n rooms
        (given_own_all (λ r. r.0) (λ r. given r.0) given (λ r. refl) n rooms (subst (AreAllGiven n given) (sym (picked within xs)) all)))

  module _ (given : P → List ℕ) (given_any : A → List ℕ) (lists : (r : P × Spared P) → given_any (any r) ≡ given r.0) (ended : P → Bool)
      (ended_any : A → Bool) (ends : (r : P × Spared P) → ended_any (any r) ≡ ended r.0) where
    pub own_have_ended : HaveEnded ended_any xs → HaveEnded ended (filter_map (own_of within) xs)
    own_have_ended have =
        subst (HaveEnded ended) (picked within xs)
        (ended_any_all (λ r. r.0) (λ r. ended r.0) ended (λ r. refl) rooms
        (ended_own any (λ r. given r.0) given_any lists (λ r. ended r.0) ended_any ends rooms (subst (HaveEnded ended_any) are have)))
