-- A list of passes, where one more is put last, or the last is taken away.
use Rattle.std.proofs.Common.{◌≡◌, ℕ, ◌+◌, ◌<◌, List, [], ◌∷◌, ◌++◌, length, length-append, flat_map, slice_index_or, sym, ap, ◌∙◌, arith}
use Rattle.std.proofs.Common.{subst}
use Rattle.std.proofs.Math.Seq.{get_or-append_seam}
use Rattle.std.proofs.lemmas.List.{get_or_append_left}
use Rattle.std.proofs.lemmas.Grind.{flat_map-append}
use mathlib.Core.Logic.{dite}
use native.Mathlib.Decide.{dec_lt}
use Rattle.mr_base.specs.Tasks.{times}
use Rattle.mr_base.proofs.Times.{times-append}

module _ {P : Type 0} where
  pub length-push : (ps : List P) (p : P) → length (ps ++ p ∷ []) ≡ length ps + 1
  length-push ps p = let e = length-append ps (p ∷ []) in omega (arith, e)

  pub at_last : (ps : List P) (p d : P) → slice_index_or (ps ++ p ∷ []) (length ps) d ≡ p
  at_last ps p d = get_or-append_seam ps p [] d

  pub at_before : (ps : List P) (p d : P) (i : ℕ) → i < length ps → slice_index_or (ps ++ p ∷ []) i d ≡ slice_index_or ps i d
  at_before ps p d i lt = get_or_append_left ps (p ∷ []) d i lt

  -- what holds of each pass at its place still holds when one more is put last
  pub each_push : (F : ℕ → P → Type 0) (n : ℕ) (ps : List P) (p : P) → length ps ≡ n
      → ((i : ℕ) (d : P) → i < n → F i (slice_index_or ps i d)) → F n p
      → (i : ℕ) (d : P) → i < n + 1 → F i (slice_index_or (ps ++ p ∷ []) i d)
  each_push F n ps p len each last i d lt =
      dite (dec_lt i n)
      (λ below. subst (F i) (sym (at_before ps p d i (omega (arith, below, len)))) (each i d below))
      (λ no. let e : i ≡ n = omega (arith, no, lt) in
      let at : slice_index_or (ps ++ p ∷ []) i d ≡ p = ap (λ k. slice_index_or (ps ++ p ∷ []) k d) (e ∙ sym len) ∙ at_last ps p d in
      subst (F i) (sym at) (subst (λ k. F k p) (sym e) last))

  -- and of the last, and of those before it
  pub last_of : (F : ℕ → P → Type 0) (ps : List P) (p : P)
      → ((i : ℕ) (d : P) → i < length (ps ++ p ∷ []) → F i (slice_index_or (ps ++ p ∷ []) i d)) → F (length ps) p
  last_of F ps p each = let n = length-push ps p in subst (F (length ps)) (at_last ps p p) (each (length ps) p (omega (arith, n)))

  pub before_of : (F : ℕ → P → Type 0) (ps : List P) (p : P)
      → ((i : ℕ) (d : P) → i < length (ps ++ p ∷ []) → F i (slice_index_or (ps ++ p ∷ []) i d))
      → (i : ℕ) (d : P) → i < length ps → F i (slice_index_or ps i d)
  before_of F ps p each i d lt = let n = length-push ps p in subst (F i) (at_before ps p d i lt) (each i d (omega (arith, n, lt)))

  -- how often x was given to one of them
  pub times-push : (given : P → List ℕ) (ps : List P) (p : P) (x : ℕ)
      → times x (flat_map given (ps ++ p ∷ [])) ≡ times x (flat_map given ps) + times x (given p)
  times-push given ps p x =
      let e = ap (times x) (flat_map-append given ps (p ∷ [])) in
      let a = times-append x (flat_map given ps) (flat_map given (p ∷ [])) in
      let b = times-append x (given p) [] in
      omega (arith, e, a, b)

  -- two of them, taken away from the end
  pub of_two : (F : ℕ → P → Type 0) (all mid rest : List P) (a b : P) → length all ≡ 2
      → ((i : ℕ) (d : P) → i < 2 → F i (slice_index_or all i d)) → all ≡ mid ++ b ∷ [] → mid ≡ rest ++ a ∷ []
      → F 0 a × F 1 b
  of_two F all mid [] a b len each e f =
      let is : all ≡ a ∷ b ∷ [] = e ∙ ap (λ l. l ++ b ∷ []) f in
      let at = subst (λ l. (i : ℕ) (d : P) → i < 2 → F i (slice_index_or l i d)) is each in
      (at 0 a (omega arith), at 1 b (omega arith))
  of_two F all mid (x ∷ xs) a b len each e f =
      let m = length-push (x ∷ xs) a in
      let n = length-push mid b in
      let g = ap length f in
      let h = ap length e in
      absurd (omega (arith, len, m, n, g, h))
