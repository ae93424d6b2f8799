-- A sink's bytes that grow write by write.
use Rattle.std.proofs.Common.{◌≡◌, ℕ, ◌+◌, ◌-◌, List, length, take, drop, Some, None, refl, ◌∙◌, sym, ap, append_assoc}
use Rattle.std.proofs.Math.Seq.{take-add, take-length}
use Rattle.std.proofs.lemmas.List.{length-drop}
use Rattle.std.specs.Io.KnownBytes.{Appends}
use Rattle.std.specs.declared.option.Option.{Option}

-- a range of a slice that goes to its end
to_end : (bytes : List ℕ) (done : ℕ) → take (length bytes - done) (drop done bytes) ≡ drop done bytes
to_end bytes done = ap (λ k. take k (drop done bytes)) (sym (length-drop done bytes)) ∙ take-length (drop done bytes)

-- a front of the rest, appended after a front
pub appends_more : (a b c : Option (List ℕ)) (bytes : List ℕ) (done n : ℕ) → Appends a b (take done bytes)
    → Appends b c (take n (take (length bytes - done) (drop done bytes)))
    → Appends a c (take (done + n) bytes)
appends_more None b c bytes done n first next = tt
appends_more (Some xs) None c bytes done n first next = absurd first
appends_more (Some xs) (Some ys) None bytes done n first next = absurd next
appends_more (Some xs) (Some ys) (Some zs) bytes done n first next =
    rw (next, first, take-add done n bytes, to_end bytes done, append_assoc) refl
