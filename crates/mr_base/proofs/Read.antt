-- One more element of a list that is read by its places.
use Rattle.std.proofs.Common.{◌≡◌, ℕ, ◌+◌, ◌<◌, List, [], ◌∷◌, ◌++◌, length, map, take, arith, sym, ◌∙◌, ap, ap₂}
use Rattle.std.specs.Prelude.{slice_get, Some, flat_map}
use Rattle.std.proofs.lemmas.List.{take_more, flat_map_more, length-map, get_or-map}
use Rattle.std.proofs.lemmas.Option.{slice_get_within, slice_get-get_or, get_or_from_slice_get}

pub take_found : {X : Type 0} (xs : List X) (i : ℕ) (x : X) → slice_get xs i ≡ Some x → take (i + 1) xs ≡ take i xs ++ x ∷ []
take_found xs i x e = take_more xs i x (slice_get_within xs i x e) ∙ ap (λ y. take i xs ++ y ∷ []) (get_or_from_slice_get xs i x x e)

-- what each element adds to a text, one element more
pub appended : {X : Type 0} (f : X → List ℕ) (start text : List ℕ) (xs : List X) (i : ℕ) (x : X) → slice_get xs i ≡ Some x
    → text ≡ start ++ flat_map f (take i xs) → text ++ f x ≡ start ++ flat_map f (take (i + 1) xs)
appended f start text xs i x e are =
    ap (λ t. t ++ f x) are ∙ flat_map_more f start (take i xs) x ∙ ap (λ ys. start ++ flat_map f ys) (sym (take_found xs i x e))

-- a pair by its two parts
pub found_pair : {K A : Type 0} (rows : List (K × A)) (i : ℕ) (k : K) (a : A) → slice_get (map (λ r. r.0) rows) i ≡ Some k
    → slice_get (map (λ r. r.1) rows) i ≡ Some a → slice_get rows i ≡ Some (k, a)
found_pair rows i k a first second =
    let within : i < length rows = let below : i < length (map (λ r. r.0) rows) = slice_get_within (map (λ r. r.0) rows) i k first in
    omega (arith, below, length-map rows (λ r. r.0)) in
    slice_get-get_or rows i (k, a) within
    ∙ ap₂ (λ x y. Some (x, y))
    (sym (get_or-map (λ r. r.0) rows i (k, a) k within) ∙ get_or_from_slice_get (map (λ r. r.0) rows) i k k first)
    (sym (get_or-map (λ r. r.1) rows i (k, a) a within) ∙ get_or_from_slice_get (map (λ r. r.1) rows) i a a second)
