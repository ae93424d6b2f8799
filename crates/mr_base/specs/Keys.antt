-- What is seen of the list of a key: its bytes folded or not, and the number that tables look it up by.
use Rattle.std.specs.Prelude.{◌≡◌, ℕ, ◌*◌, ◌/◌, ◌%◌, ◌^◌, ◌<◌, Bool, true, false, if◌then◌else◌, List, [], ◌∷◌, bit_xor, length, min, take}
use Rattle.std.specs.Prelude.{drop, map, get_or}
use Rattle.std.proofs.Common.{zero, suc, refl, arith}
use Rattle.std.proofs.lemmas.Bool.Decides.{nat_tests}
use Rattle.std.proofs.lemmas.List.{length-map, drop-map, get_or-map}
use Rattle.mr_items.specs.Words.{lower}
use Rattle.mr_base.specs.Hash.{fnv1a_from}
use Rattle.mr_base.specs.Leads.{high, AreBytes, HasWords}

-- a byte, or a list of bytes, with A to Z turned into a to z where that is asked for
abbrev pub folded_byte : Bool → ℕ → ℕ
folded_byte fold b = if fold then lower b else b

abbrev pub folded : Bool → List ℕ → List ℕ
folded fold bytes = if fold then map lower bytes else bytes

-- a product with an odd number, modulo 2 ^ 64, and its high half told in its low half
unfoldable pub scattered : ℕ → ℕ
scattered n = bit_xor (n * 15485863446547995027 % 2 ^ 64) (n * 15485863446547995027 % 2 ^ 64 / 2 ^ 32)

unfoldable pub mixed : ℕ → ℕ → ℕ → ℕ
mixed first second rest = scattered (bit_xor (bit_xor first (second * 11400714819323198485 % 2 ^ 64)) rest)

-- of the first eight bytes, of the next eight, and of the length with what comes after
unfoldable pub list_code : List ℕ → ℕ
list_code bytes = mixed (high 8 bytes) (high 8 (drop 8 bytes)) (fnv1a_from (length bytes) (drop 16 bytes))

-- what a key keeps of its list: the number of its first eight bytes, that of the next eight, its code, and its length in 32 bits
pub record IsKept (bytes : List ℕ) (first second code len : ℕ) : Type 0 where
  pub words : HasWords bytes first second
  pub is_code : code ≡ list_code bytes
  pub is_len : len ≡ min (length bytes) 4294967295

-- ---- of folding

pub length-folded : (fold : Bool) (bytes : List ℕ) → length (folded fold bytes) ≡ length bytes
length-folded true bytes = length-map bytes lower
length-folded false bytes = refl

pub drop-folded : (fold : Bool) (n : ℕ) (bytes : List ℕ) → drop n (folded fold bytes) ≡ folded fold (drop n bytes)
drop-folded true n bytes = drop-map lower n bytes
drop-folded false n bytes = refl

pub get_or-folded : (fold : Bool) (bytes : List ℕ) (i : ℕ) → i < length bytes
    → get_or (folded fold bytes) i 0 ≡ folded_byte fold (get_or bytes i 0)
get_or-folded true bytes i h = get_or-map lower bytes i 0 0 h
get_or-folded false bytes i h = refl

lower-below : (b : ℕ) → b < 256 → lower b < 256
lower-below b h = grind (arith, nat_tests)

pub AreBytes-from : (bytes : List ℕ) → ((i : ℕ) → get_or bytes i 0 < 256) → AreBytes bytes
AreBytes-from [] h = tt
AreBytes-from (b ∷ bytes) h = (h 0, AreBytes-from bytes (λ i. h (suc i)))

AreBytes-lower : (bytes : List ℕ) → AreBytes bytes → AreBytes (map lower bytes)
AreBytes-lower [] h = tt
AreBytes-lower (b ∷ bytes) h = (lower-below b h.0, AreBytes-lower bytes h.1)

pub AreBytes-folded : (fold : Bool) (bytes : List ℕ) → AreBytes bytes → AreBytes (folded fold bytes)
AreBytes-folded true bytes h = AreBytes-lower bytes h
AreBytes-folded false bytes h = h

pub AreBytes-drop : (n : ℕ) (bytes : List ℕ) → AreBytes bytes → AreBytes (drop n bytes)
AreBytes-drop zero bytes h = h
AreBytes-drop (suc n) [] h = h
AreBytes-drop (suc n) (b ∷ bytes) h = AreBytes-drop n bytes h.1

pub AreBytes-take : (n : ℕ) (bytes : List ℕ) → AreBytes bytes → AreBytes (take n bytes)
AreBytes-take zero bytes h = tt
AreBytes-take (suc n) [] h = tt
AreBytes-take (suc n) (b ∷ bytes) h = (h.0, AreBytes-take n bytes h.1)
