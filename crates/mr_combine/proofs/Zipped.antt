-- Two lists place by place, as a loop makes them.
use Rattle.std.proofs.Common.{◌≡◌, ℕ, zero, suc, ◌<◌, List, [], ◌∷◌, ◌++◌, length, map, take, drop, get_or, set, min, append-nil, ap, arith}
use Rattle.mr_combine.specs.Zipped.{zip_longest, zip_none}

module _ {A X : Type 0} (op : A → A → A) (f : X → A) where
  -- one place more
  pub zip_more : (xs : List A) (ys : List X) (i : ℕ) (d : A) (e : X) → i < length xs → i < length ys
      → zip_longest op xs (map f (take (suc i) ys))
      ≡ set (zip_longest op xs (map f (take i ys))) i (op (get_or (zip_longest op xs (map f (take i ys))) i d) (f (get_or ys i e)))
  zip_more [] ys i d e h k = absurd (omega (arith, h))
  zip_more (x ∷ xs) [] i d e h k = absurd (omega (arith, k))
  zip_more (x ∷ xs) (y ∷ ys) zero d e h k = ap (λ l. op x (f y) ∷ l) (zip_none op xs)
  zip_more (x ∷ xs) (y ∷ ys) (suc i) d e h k = ap (λ l. op x (f y) ∷ l) (zip_more xs ys i d e (omega (arith, h)) (omega (arith, k)))

  -- the first places of what has been filled up
  pub zip_parts : (xs : List A) (ys : List X) (n : ℕ) → n ≡ min (length xs) (length ys)
      → zip_longest op (xs ++ map f (drop n ys)) (map f (take n ys)) ≡ zip_longest op xs (map f ys)
  zip_parts [] ys zero e = zip_none op (map f ys)
  zip_parts [] ys (suc n) e = absurd (omega (arith, e))
  zip_parts (x ∷ xs) [] zero e = append-nil (x ∷ xs)
  zip_parts (x ∷ xs) [] (suc n) e = absurd (omega (arith, e))
  zip_parts (x ∷ xs) (y ∷ ys) zero e = absurd (omega (arith, e))
  zip_parts (x ∷ xs) (y ∷ ys) (suc n) e = ap (λ l. op x (f y) ∷ l) (zip_parts xs ys n (omega (arith, e)))
