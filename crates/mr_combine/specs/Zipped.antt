-- Two lists place by place, where what one list has past the end of the other stays.
use Rattle.std.specs.Prelude.{◌≡◌, ℕ, max, zero, suc, Bool, true, false, ◌||◌, List, [], ◌∷◌, length, map, get_or}
use Rattle.std.specs.List.{list_any}
use Rattle.std.proofs.Common.{refl, sym, ap, arith}
use mathlib.Core.Bool.{true≢false}
use Rattle.mr_defs.specs.Commutative.{IsCommutative}

abbrev pub zip_longest : {A : Type 0} → (A → A → A) → List A → List A → List A
zip_longest op [] ys = ys
zip_longest op (x ∷ xs) [] = x ∷ xs
zip_longest op (x ∷ xs) (y ∷ ys) = op x y ∷ zip_longest op xs ys

module _ {A : Type 0} (op : A → A → A) where
  pub zip_none : (xs : List A) → zip_longest op xs [] ≡ xs
  zip_none [] = refl
  zip_none (x ∷ xs) = refl

  module _ (laws : IsCommutative op) where
    zip_comm : (xs ys : List A) → zip_longest op xs ys ≡ zip_longest op ys xs
    zip_comm [] ys = sym (zip_none ys)
    zip_comm (x ∷ xs) [] = refl
    zip_comm (x ∷ xs) (y ∷ ys) = λ i. laws.comm x y i ∷ zip_comm xs ys i

    zip_assoc : (xs ys zs : List A) → zip_longest op (zip_longest op xs ys) zs ≡ zip_longest op xs (zip_longest op ys zs)
    zip_assoc [] ys zs = refl
    zip_assoc (x ∷ xs) [] zs = refl
    zip_assoc (x ∷ xs) (y ∷ ys) [] = refl
    zip_assoc (x ∷ xs) (y ∷ ys) (z ∷ zs) = λ i. laws.assoc x y z i ∷ zip_assoc xs ys zs i

    pub zip_commutative : IsCommutative (zip_longest op)
    zip_commutative = record { comm = zip_comm; assoc = zip_assoc }

  -- of what is over at a place
  pub zip_stays : (over : A → Bool) → ((a b : A) → over a ≡ true → over (op a b) ≡ true)
      → (xs ys : List A) → list_any over xs ≡ true → list_any over (zip_longest op xs ys) ≡ true
  zip_stays over stays [] ys h = absurd (true≢false (sym h))
  zip_stays over stays (x ∷ xs) [] h = h
  zip_stays over stays (x ∷ xs) (y ∷ ys) h = by (over x) refl (over (op x y)) (stays x y) (zip_stays over stays xs ys) h
    where
      by : (a : Bool) → over x ≡ a → (b : Bool) → (over x ≡ true → b ≡ true)
          → (list_any over xs ≡ true → list_any over (zip_longest op xs ys) ≡ true)
          → (a || list_any over xs) ≡ true → (b || list_any over (zip_longest op xs ys)) ≡ true
      by true e b f g h = ap (λ t. t || list_any over (zip_longest op xs ys)) (f e)
      by false e true f g h = refl
      by false e false f g h = g h

  -- at each place, where e is what a place past the end has
  pub zip_at : (e : A) → ((a : A) → op a e ≡ a) → ((a : A) → op e a ≡ a)
      → (xs ys : List A) (j : ℕ) → get_or (zip_longest op xs ys) j e ≡ op (get_or xs j e) (get_or ys j e)
  zip_at e right left [] ys j = sym (left (get_or ys j e))
  zip_at e right left (x ∷ xs) [] j = sym (right (get_or (x ∷ xs) j e))
  zip_at e right left (x ∷ xs) (y ∷ ys) zero = refl
  zip_at e right left (x ∷ xs) (y ∷ ys) (suc j) = zip_at e right left xs ys j

  pub length-zip : (xs ys : List A) → length (zip_longest op xs ys) ≡ max (length xs) (length ys)
  length-zip [] ys = omega arith
  length-zip (x ∷ xs) [] = omega arith
  length-zip (x ∷ xs) (y ∷ ys) = omega (arith, length-zip xs ys)

-- a reading of each item
pub zip_map : {A B : Type 0} (op : A → A → A) (merged : B → B → B) (read : A → B) → ((a b : A) → merged (read a) (read b) ≡ read (op a b))
    → (xs ys : List A) → zip_longest merged (map read xs) (map read ys) ≡ map read (zip_longest op xs ys)
zip_map op merged read reads [] ys = refl
zip_map op merged read reads (x ∷ xs) [] = refl
zip_map op merged read reads (x ∷ xs) (y ∷ ys) = λ i. reads x y i ∷ zip_map op merged read reads xs ys i
