-- A bitmap of one pixel.
use Rattle.std.proofs.Common.{ℕ, List, [], ◌∷◌}

-- one pixel, with blue 1, green 2 and red 255
abbrev pub one_pixel : List ℕ
one_pixel = 0x42 ∷ 0x4d ∷ 0x3a ∷ 0 ∷ 0 ∷ 0 ∷ 0 ∷ 0 ∷ 0 ∷ 0 ∷ 0x36 ∷ 0 ∷ 0 ∷ 0
    ∷ 0x28 ∷ 0 ∷ 0 ∷ 0 ∷ 1 ∷ 0 ∷ 0 ∷ 0 ∷ 1 ∷ 0 ∷ 0 ∷ 0 ∷ 1 ∷ 0 ∷ 0x18 ∷ 0
    ∷ 0 ∷ 0 ∷ 0 ∷ 0 ∷ 4 ∷ 0 ∷ 0 ∷ 0 ∷ 0 ∷ 0 ∷ 0 ∷ 0 ∷ 0 ∷ 0 ∷ 0 ∷ 0
    ∷ 0 ∷ 0 ∷ 0 ∷ 0 ∷ 0 ∷ 0 ∷ 0 ∷ 0
    ∷ 1 ∷ 2 ∷ 0xff ∷ 0 ∷ []
