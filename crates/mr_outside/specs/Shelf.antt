-- What a shelf means, and what a read does to it.
use Rattle.std.specs.Prelude.{◌≡◌, ℕ, ◌+◌, ◌≤◌, List, length, take, drop, Some, None}
use Rattle.std.specs.declared.option.Option.{Option}
use Rattle.mr_outside.specs.declared.shelf.Got.{Got}
use Rattle.mr_outside.specs.declared.shelf.Got.TheVariants.{Bytes, End, Failed}

-- contents are told and have nothing by this name
abbrev pub IsMissing : Option (List ℕ → Option (List ℕ)) → List ℕ → Type 0
IsMissing None name = ⊥
IsMissing (Some told) name = told name ≡ None

-- contents are told and this is what stands by this name
abbrev pub IsTold : Option (List ℕ → Option (List ℕ)) → List ℕ → List ℕ → Type 0
IsTold None name bytes = ⊥
IsTold (Some told) name bytes = told name ≡ Some bytes

-- where contents are told, one stands by this name, and P holds of it
abbrev pub HasContent : Option (List ℕ → Option (List ℕ)) → List ℕ → (List ℕ → Type 0) → Type 0
HasContent None name P = Unit {0}
HasContent (Some told) name P = (content : List ℕ) × (told name ≡ Some content) × P content

-- P of the number of bytes, where bytes were read
abbrev pub IfBytes : Got → (ℕ → Type 0) → Type 0
IfBytes (Bytes n) P = P n
IfBytes End P = Unit {0}
IfBytes Failed P = Unit {0}

-- P, where no bytes were read
abbrev pub OnNothing : Got → Type 0 → Type 0
OnNothing (Bytes n) P = Unit {0}
OnNothing End P = P
OnNothing Failed P = P

-- the front of the buffer holds the next n bytes of this content from this place on
pub record Gives (content : List ℕ) (place n : ℕ) (buf : List ℕ) : Type 0 where
  pub inside : place + n ≤ length content
  pub bytes : take n buf ≡ take n (drop place content)
