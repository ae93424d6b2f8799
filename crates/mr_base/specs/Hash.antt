-- FNV-1a of 64 bits: from the offset basis on, an exclusive or with each byte and then a product with the prime, modulo 2 ^ 64.
use Rattle.std.specs.Prelude.{ℕ, ◌*◌, ◌%◌, ◌^◌, List, [], ◌∷◌, bit_xor}

abbrev pub fnv1a_from : ℕ → List ℕ → ℕ
fnv1a_from state [] = state
fnv1a_from state (b ∷ bs) = fnv1a_from ((bit_xor state b * 1099511628211) % 2 ^ 64) bs

abbrev pub fnv1a_of : List ℕ → ℕ
fnv1a_of bs = fnv1a_from 14695981039346656037 bs
