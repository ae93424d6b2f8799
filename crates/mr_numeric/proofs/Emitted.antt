-- What the items from a number on emit, one item after the other.
use Rattle.std.proofs.Common.{◌≡◌, ℕ, ◌+◌, ◌-◌, ◌<◌, ◌≤◌, true, min, List, [], ◌∷◌, ◌++◌, length, take, refl, sym, ap, subst, ◌∙◌}
use Rattle.std.proofs.Common.{append_assoc, append-nil, arith}
use Rattle.std.specs.Prelude.{filter, flat_map}
use Rattle.std.specs.List.{range_with_len}
use Rattle.std.proofs.lemmas.List.{take-append-le, take_min, flat_map_more}
use Rattle.std.proofs.lemmas.List.Concat.{flat_map-append}
use Rattle.std.proofs.Math.Seq.{take-append-add}
use Rattle.mr_defs.specs.Tasks.{items_in, task_emissions}
use Rattle.mr_defs.proofs.Joins.{items_in-range, range-append}

module _ {E : Type 0} (f : ℕ → List E) (a : ℕ) where
  -- what the items before number m emit
  abbrev pub emitted : ℕ → List E
  emitted m = flat_map f (range_with_len a (m - a))

  numbers-more : (m : ℕ) → a ≤ m → range_with_len a ((m + 1) - a) ≡ range_with_len a (m - a) ++ m ∷ []
  numbers-more m from = ap (range_with_len a) size ∙ range-append a (m - a) 1 ∙ ap (λ k. range_with_len a (m - a) ++ k ∷ []) meets
    where
      size : (m + 1) - a ≡ (m - a) + 1
      size = omega (arith, from)

      meets : a + (m - a) ≡ m
      meets = omega (arith, from)

  numbers-split : (m b : ℕ) → a ≤ m → m < b
      → range_with_len a (b - a) ≡ range_with_len a (m - a) ++ m ∷ range_with_len (m + 1) (b - (m + 1))
  numbers-split m b from below =
      ap (range_with_len a) size ∙ range-append a (m - a) (1 + (b - (m + 1)))
      ∙ ap (λ k. range_with_len a (m - a) ++ range_with_len k (1 + (b - (m + 1)))) meets
      ∙ ap (λ l. range_with_len a (m - a) ++ l) (range-append m 1 (b - (m + 1)))
    where
      size : b - a ≡ (m - a) + (1 + (b - (m + 1)))
      size = omega (arith, from, below)

      meets : a + (m - a) ≡ m
      meets = omega (arith, from)

  -- up to an item, that item, and what is behind it
  pub emitted-split : (m b : ℕ) → a ≤ m → m < b → (emitted m ++ f m) ++ flat_map f (range_with_len (m + 1) (b - (m + 1))) ≡ emitted b
  emitted-split m b from below =
      append_assoc (emitted m) (f m) (flat_map f (range_with_len (m + 1) (b - (m + 1))))
      ∙ sym (flat_map-append f (range_with_len a (m - a)) (m ∷ range_with_len (m + 1) (b - (m + 1))))
      ∙ ap (flat_map f) (sym (numbers-split m b from below))

  -- up to an item, and from there up to another
  pub emitted-add : (m e : ℕ) → a ≤ m → m ≤ e → emitted m ++ flat_map f (range_with_len m (e - m)) ≡ emitted e
  emitted-add m e from below =
      sym (flat_map-append f (range_with_len a (m - a)) (range_with_len m (e - m)))
      ∙ ap (flat_map f) (ap (λ k. range_with_len a (m - a) ++ range_with_len k (e - m)) (sym meets) ∙ sym (range-append a (m - a) (e - m))
      ∙ ap (range_with_len a) (sym size))
    where
      size : e - a ≡ (m - a) + (e - m)
      size = omega (arith, from, below)

      meets : a + (m - a) ≡ m
      meets = omega (arith, from)

  pub emitted-none : emitted a ≡ []
  emitted-none = let none : a - a ≡ 0 = omega arith in ap (λ n. flat_map f (range_with_len a n)) none

  -- P of what was emitted before, followed by what the items emit
  module _ (P : List E → Type 0) (es : List E) where
    pub at_first : P es → P (es ++ emitted a)
    at_first h = let none : a - a ≡ 0 = omega arith in
        subst P (sym (append-nil es) ∙ ap (λ n. es ++ flat_map f (range_with_len a n)) (sym none)) h

    -- the next item too
    pub one_more : (m : ℕ) → a ≤ m → P ((es ++ emitted m) ++ f m) → P (es ++ emitted (m + 1))
    one_more m from h =
        subst P (flat_map_more f es (range_with_len a (m - a)) m ∙ ap (λ l. es ++ flat_map f l) (sym (numbers-more m from))) h

    -- a first part of the next item is a first part of all items
    pub front : (m b k : ℕ) → a ≤ m → m < b → P ((es ++ emitted m) ++ take k (f m)) → (n : ℕ) × P (es ++ take n (emitted b))
    front m b k from below h =
        (length (emitted m) + min k (length (f m)), subst P (append_assoc es (emitted m) (take k (f m)) ∙ ap (λ l. es ++ l) part) h)
      where
        rest : List E
        rest = flat_map f (range_with_len (m + 1) (b - (m + 1)))

        part : emitted m ++ take k (f m) ≡ take (length (emitted m) + min k (length (f m))) (emitted b)
        part =
            ap (λ l. emitted m ++ l) (sym (take_min k (f m)) ∙ sym (take-append-le (min k (length (f m))) (f m) rest (omega arith)))
            ∙ sym (take-append-add (emitted m) (f m ++ rest) (min k (length (f m))))
            ∙ ap (take (length (emitted m) + min k (length (f m))))
            (sym (flat_map-append f (range_with_len a (m - a)) (m ∷ range_with_len (m + 1) (b - (m + 1))))
            ∙ ap (flat_map f) (sym (numbers-split m b from below)))

    -- the same of some items
    pub some_more : (m e : ℕ) → a ≤ m → m ≤ e → P ((es ++ emitted m) ++ flat_map f (range_with_len m (e - m))) → P (es ++ emitted e)
    some_more m e from below h =
        subst P (append_assoc es (emitted m) (flat_map f (range_with_len m (e - m))) ∙ ap (λ l. es ++ l) (emitted-add m e from below)) h

    pub front_of_some : (m e b k : ℕ) → a ≤ m → m ≤ e → e ≤ b → P ((es ++ emitted m) ++ take k (flat_map f (range_with_len m (e - m))))
        → (n : ℕ) × P (es ++ take n (emitted b))
    front_of_some m e b k from below within h =
        (length (emitted m) + min k (length some), subst P (append_assoc es (emitted m) (take k some) ∙ ap (λ l. es ++ l) part) h)
      where
        some : List E
        some = flat_map f (range_with_len m (e - m))

        rest : List E
        rest = flat_map f (range_with_len e (b - e))

        part : emitted m ++ take k some ≡ take (length (emitted m) + min k (length some)) (emitted b)
        part =
            ap (λ l. emitted m ++ l) (sym (take_min k some) ∙ sym (take-append-le (min k (length some)) some rest (omega arith)))
            ∙ sym (take-append-add (emitted m) (some ++ rest) (min k (length some)))
            ∙ ap (take (length (emitted m) + min k (length some)))
            (sym (append_assoc (emitted m) some rest) ∙ ap (λ l. l ++ rest) (emitted-add m e from below)
            ∙ emitted-add e b (omega (arith, from, below)) within)

    -- and so is nothing of it
    pub front_before : (m b : ℕ) → a ≤ m → m < b → P (es ++ emitted m) → (n : ℕ) × P (es ++ take n (emitted b))
    front_before m b from below h = front m b 0 from below (subst P (sym (append-nil (es ++ emitted m))) h)

-- what the parts of each item give
pub flat_map-flat_map : {X Y E : Type 0} (f : Y → List E) (g : X → List Y) (xs : List X)
    → flat_map f (flat_map g xs) ≡ flat_map (λ x. flat_map f (g x)) xs
flat_map-flat_map f g [] = refl
flat_map-flat_map f g (x ∷ xs) = flat_map-append f (g x) (flat_map g xs) ∙ ap (λ l. flat_map f (g x) ++ l) (flat_map-flat_map f g xs)

filter_all : (xs : List ℕ) → filter (λ k. true) xs ≡ xs
filter_all [] = refl
filter_all (x ∷ xs) = ap (λ l. x ∷ l) (filter_all xs)

-- the items of a span of numbers are those numbers
pub span_emissions : {E : Type 0} (f : ℕ → List E) (a b n : ℕ) → a ≤ b → b ≤ n
    → task_emissions f (range_with_len 0 n) (a, b) ≡ emitted f a b
span_emissions f a b n order inside = ap (flat_map f)
    (ap (items_in (a, b)) (sym (filter_all (range_with_len 0 n))) ∙ items_in-range a b (λ k. true) n order inside
    ∙ filter_all (range_with_len a (b - a)))
