-- The words of a stretch, put into a block one after the other.
use Rattle.std.proofs.Common.{◌≡◌, ℕ, ℤ, ◌+◌, ◌<◌, ◌≤◌, List, [], ◌∷◌, ◌++◌, length, map, take, get_or, true, sym, ap}
use Rattle.std.proofs.Common.{◌∙◌, append_assoc}
use Rattle.std.specs.Prelude.{slice_range}
use Rattle.std.proofs.lemmas.List.{map-append, take_more, take_all}
use Rattle.std.proofs.lemmas.Simd.{map-map}
use Rattle.mr_defs.specs.Emission.{Emission, Pair}
use Rattle.mr_items.specs.Words.{is_word_boundary, word_at, word_places, words}
use Rattle.mr_container.specs.Block.{block_emissions}
use Rattle.mr_text.specs.Keyed.{word_pairs, word_emissions}
use Rattle.mr_text.proofs.Stretches.{no_words, words-append}

module _ {K : Type 0} (pair : List ℕ → K × ℤ) (xs : List ℕ) (start : List (K × ℤ)) where
  abbrev pair_at : ℕ → K × ℤ
  pair_at p = pair (word_at xs p)

  abbrev pub pushed : ℕ → List (K × ℤ)
  pushed i = start ++ map pair_at (take i (word_places xs))

  pub pushed-next : (i : ℕ) → i < length (word_places xs) → (items : List (K × ℤ)) → items ≡ pushed i → (p : K × ℤ)
      → p ≡ pair_at (get_or (word_places xs) i 0) → items ++ p ∷ [] ≡ pushed (i + 1)
  pushed-next i below items are p e =
      let place = get_or (word_places xs) i 0 in
      ap (λ a. items ++ a ∷ []) e
      ∙ ap (λ l. l ++ pair_at place ∷ []) are
      ∙ append_assoc start (map pair_at (take i (word_places xs))) (pair_at place ∷ [])
      ∙ ap (λ l. start ++ l)
      (sym (ap (map pair_at) (take_more (word_places xs) i 0 below) ∙ map-append pair_at (take i (word_places xs)) (place ∷ [])))

  pub pushed-all : (i : ℕ) → length (word_places xs) ≤ i → (items : List (K × ℤ)) → items ≡ pushed i
      → items ≡ start ++ word_pairs pair xs
  pushed-all i all items are =
      are
      ∙ ap (λ ps. start ++ map pair_at ps) (take_all i (word_places xs) all)
      ∙ ap (λ l. start ++ l) (sym (map-map pair (word_at xs) (word_places xs)))

-- the words of stretches one behind the other, in a block and as emissions
module _ {K : Type 0} (pair : List ℕ → K × ℤ) where
  abbrev emission : List ℕ → Emission K ℤ
  emission w = Pair (pair w).0 (pair w).1

  pub emitted-none : (text : List ℕ) (a : ℕ) → word_emissions pair (slice_range text a a) ≡ []
  emitted-none text a = ap (map emission) (no_words text a)

  pub emitted-append : (text : List ℕ) (a m c : ℕ) → a ≤ m → m ≤ c → c ≤ length text → is_word_boundary text a ≡ true
      → is_word_boundary text m ≡ true → is_word_boundary text c ≡ true
      → word_emissions pair (slice_range text a m) ++ word_emissions pair (slice_range text m c)
      ≡ word_emissions pair (slice_range text a c)
  emitted-append text a m c le ge inside starts between ends =
      sym (map-append emission (words (slice_range text a m)) (words (slice_range text m c)))
      ∙ ap (map emission) (words-append text a m c le ge inside starts between ends)

  pub block-append : (items pairs : List (K × ℤ)) (xs : List ℕ) → pairs ≡ items ++ word_pairs pair xs
      → block_emissions pairs ≡ block_emissions items ++ word_emissions pair xs
  block-append items pairs xs e =
      ap block_emissions e
      ∙ map-append (λ p. Pair p.0 p.1) items (word_pairs pair xs)
      ∙ ap (λ l. block_emissions items ++ l) (map-map (λ p. Pair p.0 p.1) pair (words xs))
