-- What the tasks so far emit, and what one task more emits.
use Rattle.std.proofs.Common.{◌≡◌, ℕ, ◌+◌, ◌-◌, ◌<◌, min, List, [], ◌∷◌, ◌++◌, length, take, sym, ap, ◌∙◌, append_assoc, arith}
use Rattle.std.specs.List.{flat_map, range_with_len}
use Rattle.std.proofs.lemmas.List.{take-append-le, take_min, flat_map_more}
use Rattle.std.proofs.lemmas.List.Concat.{flat_map-append}
use Rattle.std.proofs.Math.Seq.{take-append-add}
use Rattle.mr_defs.proofs.Joins.{range-append}

pub range_more : (n : ℕ) → range_with_len 0 (n + 1) ≡ range_with_len 0 n ++ n ∷ []
range_more n = range-append 0 n 1 ∙ ap (λ k. range_with_len 0 n ++ k ∷ []) same
  where
    same : 0 + n ≡ n
    same = omega arith

module _ {A : Type 0} (f : ℕ → List A) (es : List A) where
  pub tasks_more : (n : ℕ) → (es ++ flat_map f (range_with_len 0 n)) ++ f n ≡ es ++ flat_map f (range_with_len 0 (n + 1))
  tasks_more n = flat_map_more f es (range_with_len 0 n) n ∙ ap (λ l. es ++ flat_map f l) (sym (range_more n))

  -- how much of what all tasks emit that is
  abbrev pub front_length : ℕ → ℕ → ℕ
  front_length n k = length (flat_map f (range_with_len 0 n)) + min k (length (f n))

  -- a front of a task is a front of all tasks
  pub tasks_some : (n k total : ℕ) → n < total
      → (es ++ flat_map f (range_with_len 0 n)) ++ take k (f n) ≡ es ++ take (front_length n k) (flat_map f (range_with_len 0 total))
  tasks_some n k total h =
      append_assoc es _ _
      ∙ ap (λ l. es ++ (flat_map f (range_with_len 0 n) ++ l))
      (sym (take_min k (f n))
      ∙ sym (take-append-le (min k (length (f n))) (f n) (flat_map f (range_with_len (0 + n + 1) (total - (n + 1)))) (omega arith)))
      ∙ ap (λ l. es ++ l) (sym
      (take-append-add (flat_map f (range_with_len 0 n)) (f n ++ flat_map f (range_with_len (0 + n + 1) (total - (n + 1))))
      (min k (length (f n)))) ∙ ap (take (front_length n k)) (sym whole))
    where
      same : 0 + n ≡ n
      same = omega arith

      parts : total ≡ n + (1 + (total - (n + 1)))
      parts = omega (arith, h)

      whole : flat_map f (range_with_len 0 total)
          ≡ flat_map f (range_with_len 0 n) ++ (f n ++ flat_map f (range_with_len (0 + n + 1) (total - (n + 1))))
      whole =
          ap (λ j. flat_map f (range_with_len 0 j)) parts
          ∙ ap (flat_map f)
          (range-append 0 n (1 + (total - (n + 1))) ∙ ap (λ l. range_with_len 0 n ++ l) (range-append (0 + n) 1 (total - (n + 1))))
          ∙ flat_map-append f (range_with_len 0 n) ((0 + n) ∷ range_with_len (0 + n + 1) (total - (n + 1)))
          ∙ ap (λ k. flat_map f (range_with_len 0 n) ++ (f k ++ flat_map f (range_with_len (0 + n + 1) (total - (n + 1))))) same
