-- What a search finds.
use Rattle.std.proofs.Common.{◌≡◌, Bool, true, false, cond, ◌||◌, List, [], ◌∷◌, find, Option, Some, None, refl, option_map, ℕ, zero, suc}
use Rattle.std.specs.Prelude.{IfSome, slice_get}
use Rattle.std.specs.List.{list_any, list_all}
use Rattle.std.proofs.lemmas.Bool.{and_parts}

-- where nothing is found, the test fails of the element at each place
none_here : {A : Type 0} (here : Bool) (x : A) (rest : Option A) → cond here (Some x) rest ≡ None → (here ≡ false) × (rest ≡ None)
none_here true x rest none = cc
none_here false x rest none = (refl, none)

pub not_found : {A : Type 0} (p : A → Bool) (xs : List A) (i : ℕ) (x : A) → find p xs ≡ None → slice_get xs i ≡ Some x → p x ≡ false
not_found p [] i x none at = cc
not_found p (y ∷ ys) zero x none at = let same : y ≡ x = cc in rw (← same) (none_here (p y) y (find p ys) none).0
not_found p (y ∷ ys) (suc i) x none at = not_found p ys i x (none_here (p y) y (find p ys) none).1 at

some_here : {A : Type 0} (P : A → Type 0) (here : Bool) (x : A) (rest : Option A) → (here ≡ true → P x) → IfSome rest P
    → IfSome (cond here (Some x) rest) P
some_here P true x rest this other = this refl
some_here P false x rest this other = other

pub some_more : {A : Type 0} (P Q : A → Type 0) (o : Option A) → IfSome o P → ((x : A) → P x → Q x) → IfSome o Q
some_more P Q None holds more = tt
some_more P Q (Some x) holds more = more x holds

-- what is found passes its test, and one that each element passes
pub found_passes : {A : Type 0} (p q : A → Bool) (xs : List A) → list_all q xs ≡ true
    → IfSome (find p xs) (λ x. (p x ≡ true) × (q x ≡ true))
found_passes p q [] each = tt
found_passes p q (x ∷ xs) each =
    let (here, rest) = and_parts (q x) (list_all q xs) each in
    some_here (λ y. (p y ≡ true) × (q y ≡ true)) (p x) x (find p xs) (λ passes. (passes, here)) (found_passes p q xs rest)

or_true : (b c : Bool) → c ≡ true → (b || c) ≡ true
or_true true c e = refl
or_true false c e = e

-- it is one of the elements
pub found_among : {A : Type 0} (p : A → Bool) (q : A → A → Bool) (xs : List A) → ((x : A) → p x ≡ true → q x x ≡ true)
    → IfSome (find p xs) (λ x. list_any (q x) xs ≡ true)
found_among p q [] passes = tt
found_among p q (x ∷ xs) passes =
    some_here (λ y. list_any (q y) (x ∷ xs) ≡ true) (p x) x (find p xs) (λ here. rw (passes x here))
    (some_more (λ y. list_any (q y) xs ≡ true) _ (find p xs) (found_among p q xs passes) (λ y rest. or_true (q y x) _ rest))

-- a fact of what a chain gives
pub some_map : {A B : Type 0} (f : A → B) (P : B → Type 0) (o : Option A) → IfSome o (λ x. P (f x)) → IfSome (option_map f o) P
some_map f P None holds = tt
some_map f P (Some x) holds = holds

pub some_both : {A : Type 0} (P Q : A → Type 0) (o : Option A) → IfSome o P → IfSome o Q → IfSome o (λ x. P x × Q x)
some_both P Q None p q = tt
some_both P Q (Some x) p q = (p, q)
