-- The words of a stretch of a text, and where they stand in the whole of it.
use Rattle.std.proofs.Common.{◌≡◌, inl, inr, ℕ, zero, suc, ◌+◌, ◌-◌, ◌<◌, ◌≤◌, ◌==◌, ◌&&◌, ◌||◌, Bool, true, false, not, cond, List, []}
use Rattle.std.proofs.Common.{◌∷◌, ◌++◌, length, take, drop, map, get_or, refl, sym, ◌∙◌, ap, ap₂, arith, ℤ}
use Rattle.std.specs.Prelude.{filter, flat_map, slice_range}
use Rattle.std.specs.List.{prefix_len, range_with_len}
use Rattle.std.proofs.lemmas.Bool.{cases_lt, ne_eqb}
use Rattle.std.proofs.lemmas.List.{map-append, length-take-le, take-take, drop-drop, length-drop, get_or-take, get_or-drop, drop-take}
use Rattle.std.proofs.lemmas.List.{take_all}
use Rattle.std.proofs.lemmas.List.Concat.{flat_map_single}
use Rattle.std.proofs.lemmas.List.Elements.{filter-append}
use Rattle.std.proofs.lemmas.List.Sums.{prefix_len-le-length}
use Rattle.std.proofs.lemmas.Simd.{map-map}
use Rattle.mr_defs.specs.Emission.{Emission, Pair}
use Rattle.mr_defs.specs.Tasks.{task_emissions}
use Rattle.mr_defs.proofs.Joins.{items_in-range, range-append}
use Rattle.mr_items.specs.Runs.{begins, run_at}
use Rattle.mr_items.specs.Words.{is_word_byte, is_word_boundary, lower, word_at, word_places, words}
use Rattle.mr_text.specs.Keyed.{word_emits, word_emissions}
use Rattle.mr_text.proofs.Scans.{run_passes}

prefix_take : (test : ℕ → Bool) (m : ℕ) (ys : List ℕ) → prefix_len test ys ≤ m → prefix_len test (take m ys) ≡ prefix_len test ys
prefix_take test zero [] h = refl
prefix_take test zero (y ∷ ys) h = omega (arith, h)
prefix_take test (suc m) [] h = refl
prefix_take test (suc m) (y ∷ ys) h = by (test y) h (prefix_take test m ys)
  where
    by : (b : Bool) → cond b (1 + prefix_len test ys) 0 ≤ suc m
        → (prefix_len test ys ≤ m → prefix_len test (take m ys) ≡ prefix_len test ys)
        → cond b (1 + prefix_len test (take m ys)) 0 ≡ cond b (1 + prefix_len test ys) 0
    by true h same = ap (λ n. 1 + n) (same (omega (arith, h)))
    by false h same = refl

module _ (text : List ℕ) (from to : ℕ) (order : from ≤ to) (inside : to ≤ length text) where
  abbrev stretch : List ℕ
  stretch = slice_range text from to

  pub length-stretch : length stretch ≡ to - from
  length-stretch = length-take-le (to - from) (drop from text) (omega (arith, length-drop from text, inside))

  pub stretch_at : (k : ℕ) → k < to - from → get_or stretch k 0 ≡ get_or text (from + k) 0
  stretch_at k h = get_or-take (to - from) (drop from text) k 0 h ∙ get_or-drop from text k 0

  rest_at : (p : ℕ) → p ≤ to - from → drop p stretch ≡ take (to - from - p) (drop (from + p) text)
  rest_at p h =
      let whole : to - from ≡ p + (to - from - p) = omega (arith, h) in
      ap (λ n. drop p (take n (drop from text))) whole ∙ drop-take p (to - from - p) (drop from text)
      ∙ ap (take (to - from - p)) (drop-drop p from text)

  -- a run of it, as a stretch of the text
  module _ (test : ℕ → Bool) (p : ℕ) (h : p ≤ to - from) where
    run_length : length (run_at test stretch p) ≡ prefix_len test (drop p stretch)
    run_length = length-take-le (prefix_len test (drop p stretch)) (drop p stretch) (prefix_len-le-length test (drop p stretch))

    pub run_inside : p + length (run_at test stretch p) ≤ to - from
    run_inside = omega (arith, run_length, prefix_len-le-length test (drop p stretch), length-drop p stretch, length-stretch, h)

    pub run_is : slice_range text (from + p) (from + (p + length (run_at test stretch p))) ≡ run_at test stretch p
    run_is =
        let n = prefix_len test (drop p stretch) in
        let size : from + (p + length (run_at test stretch p)) - (from + p) ≡ n = omega (arith, run_length) in
        ap (λ k. take k (drop (from + p) text)) size
        ∙ sym (ap (take n) (rest_at p h) ∙ take-take n (to - from - p) (drop (from + p) text) (omega (arith, run_length, run_inside)))

  -- a stretch from one word boundary to another has the words of the text that begin there
  module _ (starts : is_word_boundary text from ≡ true) (ends : is_word_boundary text to ≡ true) where
    begins_same : (p : ℕ) → p < to - from → begins is_word_byte stretch p ≡ begins is_word_byte text (from + p)
    begins_same zero h =
        let no_end : (from == length text) ≡ false = ne_eqb from (length text) (λ e. omega (arith, e, h, inside)) in
        let here : from + 0 ≡ from = omega arith in
        ap (λ x. is_word_byte x && (true || not (is_word_byte (get_or stretch (0 - 1) 0))))
        (stretch_at 0 h ∙ ap (λ k. get_or text k 0) here)
        ∙ go (from == 0) (from == length text) (is_word_byte (get_or text (from - 1) 0)) (is_word_byte (get_or text from 0)) no_end starts
        ∙ ap (λ k. begins is_word_byte text k) (sym here)
      where
        go : (z l b h : Bool) → l ≡ false → (z || (l || not (b && h))) ≡ true → (h && true) ≡ (h && (z || not b))
        go z l b h e f = grind (arith)
    begins_same (suc p) h =
        let some : (from + suc p == 0) ≡ false = ne_eqb (from + suc p) 0 (λ e. omega (arith, e)) in
        let one : (suc p == 0) ≡ false = ne_eqb (suc p) 0 (λ e. omega (arith, e)) in
        let before : suc p - 1 ≡ p = omega arith in
        let there : from + p ≡ from + suc p - 1 = omega arith in
        ap₂ (λ x (z : Bool). is_word_byte x && (z || not (is_word_byte (get_or stretch (suc p - 1) 0)))) (stretch_at (suc p) h)
        (one ∙ sym some)
        ∙ ap (λ y. is_word_byte (get_or text (from + suc p) 0) && ((from + suc p == 0) || not (is_word_byte y)))
        (ap (λ k. get_or stretch k 0) before ∙ stretch_at p (omega (arith, h)) ∙ ap (λ k. get_or text k 0) there)

    -- no word goes over its end
    within : (p : ℕ) → p < to - from → prefix_len is_word_byte (drop (from + p) text) ≤ to - from - p
    within p h = elim (cases_lt (to - from - p) (prefix_len is_word_byte (drop (from + p) text))) [
      | inl past ↦
          let more = prefix_len-le-length is_word_byte (drop (from + p) text) in
          let below : to < length text = omega (arith, past, more, length-drop (from + p) text, h) in
          let z : (to == 0) ≡ false = ne_eqb to 0 (λ e. omega (arith, e, h)) in
          let l : (to == length text) ≡ false = ne_eqb to (length text) (λ e. omega (arith, e, below)) in
          absurd (go (to == 0) (to == length text) (is_word_byte (get_or text (to - 1) 0)) (is_word_byte (get_or text to 0)) z l
          (run_passes is_word_byte text (from + p) (to - 1) (omega (arith, h)) (omega (arith, past, h)))
          (run_passes is_word_byte text (from + p) to (omega (arith, h)) (omega (arith, past, h))) ends)
      | inr not_past ↦ not_past
    ]
      where
        go : (z l b h : Bool) → z ≡ false → l ≡ false → b ≡ true → h ≡ true → (z || (l || not (b && h))) ≡ true → ⊥
        go z l b h e f g i between = grind (arith)

    word_same : (p : ℕ) → p < to - from → word_at stretch p ≡ word_at text (from + p)
    word_same p h =
        let ys = drop (from + p) text in
        let m = to - from - p in
        let same : prefix_len is_word_byte (drop p stretch) ≡ prefix_len is_word_byte ys =
        ap (prefix_len is_word_byte) (rest_at p (omega (arith, h))) ∙ prefix_take is_word_byte m ys (within p h) in
        ap (map lower) (ap₂ take same (rest_at p (omega (arith, h))) ∙ take-take (prefix_len is_word_byte ys) m ys (within p h))

    shifted : (n p : ℕ) → p + n ≤ to - from
        → map (word_at stretch) (filter (begins is_word_byte stretch) (range_with_len p n))
        ≡ map (word_at text) (filter (begins is_word_byte text) (range_with_len (from + p) n))
    shifted zero p h = refl
    shifted (suc n) p h =
        let there : from + (p + 1) ≡ from + p + 1 = omega arith in
        by (begins is_word_byte stretch p) _ _ (word_same p (omega (arith, h)))
        (shifted n (p + 1) (omega (arith, h)) ∙ ap (λ k. map (word_at text) (filter (begins is_word_byte text) (range_with_len k n))) there)
        ∙ ap (λ b. map (word_at text)
        (cond b ((from + p) ∷ filter (begins is_word_byte text) (range_with_len (from + p + 1) n))
        (filter (begins is_word_byte text) (range_with_len (from + p + 1) n)))) (begins_same p (omega (arith, h)))
      where
        by : (b : Bool) (xs ys : List ℕ) → word_at stretch p ≡ word_at text (from + p) → map (word_at stretch) xs ≡ map (word_at text) ys
            → map (word_at stretch) (cond b (p ∷ xs) xs) ≡ map (word_at text) (cond b ((from + p) ∷ ys) ys)
        by true xs ys e f = ap₂ (λ w ws. w ∷ ws) e f
        by false xs ys e f = f

    pub words_of_stretch : words stretch ≡ map (word_at text) (filter (begins is_word_byte text) (range_with_len from (to - from)))
    words_of_stretch =
        let here : from + 0 ≡ from = omega arith in
        ap (λ n. map (word_at stretch) (filter (begins is_word_byte stretch) (range_with_len 0 n))) length-stretch
        ∙ shifted (to - from) 0 (omega arith)
        ∙ ap (λ k. map (word_at text) (filter (begins is_word_byte text) (range_with_len k (to - from)))) here

-- the words of two stretches, one behind the other
pub words-append : (text : List ℕ) (a m c : ℕ) → a ≤ m → m ≤ c → c ≤ length text → is_word_boundary text a ≡ true
    → is_word_boundary text m ≡ true → is_word_boundary text c ≡ true
    → words (slice_range text a m) ++ words (slice_range text m c) ≡ words (slice_range text a c)
words-append text a m c le ge inside starts between ends =
    let size : (m - a) + (c - m) ≡ c - a = omega (arith, le, ge) in
    let meets : a + (m - a) ≡ m = omega (arith, le) in
    ap₂ (λ xs ys. xs ++ ys) (words_of_stretch text a m le (omega (arith, ge, inside)) starts between)
    (words_of_stretch text m c ge inside between ends)
    ∙ sym (map-append (word_at text) (filter (begins is_word_byte text) (range_with_len a (m - a)))
    (filter (begins is_word_byte text) (range_with_len m (c - m))))
    ∙ ap (map (word_at text)) (sym (filter-append (begins is_word_byte text) (range_with_len a (m - a)) (range_with_len m (c - m)))
    ∙ ap (filter (begins is_word_byte text))
    (ap (λ k. range_with_len a (m - a) ++ range_with_len k (c - m)) (sym meets) ∙ sym (range-append a (m - a) (c - m))
    ∙ ap (range_with_len a) size))
    ∙ sym (words_of_stretch text a c (omega (arith, le, ge)) inside starts ends)

-- a stretch of nothing has none, one of word bytes alone has one
pub no_words : (text : List ℕ) (a : ℕ) → words (slice_range text a a) ≡ []
no_words text a = let none : a - a ≡ 0 = omega arith in ap (λ n. words (take n (drop a text))) none

all_one : (xs : List ℕ) → ((k : ℕ) → k < length xs → is_word_byte (get_or xs k 0) ≡ true) → prefix_len is_word_byte xs ≡ length xs
all_one [] h = refl
all_one (x ∷ xs) h = ap (λ b. cond b (1 + prefix_len is_word_byte xs) 0) (h 0 (omega arith))
    ∙ (let rest = all_one xs (λ k below. h (suc k) (omega (arith, below))) in omega (arith, rest))

module _ (xs : List ℕ) (all : (k : ℕ) → k < length xs → is_word_byte (get_or xs k 0) ≡ true) where
  inner : (p : ℕ) → 0 < p → p < length xs → begins is_word_byte xs p ≡ false
  inner p past below =
      let z : (p == 0) ≡ false = ne_eqb p 0 (λ e. omega (arith, e, past)) in
      go (p == 0) (is_word_byte (get_or xs (p - 1) 0)) (is_word_byte (get_or xs p 0)) z (all (p - 1) (omega (arith, below)))
    where
      go : (z b t : Bool) → z ≡ false → b ≡ true → (t && (z || not b)) ≡ false
      go z b t e f = grind (arith)

  none_inside : (n p : ℕ) → 0 < p → p + n ≤ length xs → filter (begins is_word_byte xs) (range_with_len p n) ≡ []
  none_inside zero p past le = refl
  none_inside (suc n) p past le = ap
      (λ b. cond b (p ∷ filter (begins is_word_byte xs) (range_with_len (p + 1) n))
      (filter (begins is_word_byte xs) (range_with_len (p + 1) n))) (inner p past (omega (arith, le)))
      ∙ none_inside n (p + 1) (omega arith) (omega (arith, le))

pub one_word : (xs : List ℕ) → 0 < length xs → ((k : ℕ) → k < length xs → is_word_byte (get_or xs k 0) ≡ true)
    → words xs ≡ map lower xs ∷ []
one_word [] some h = absurd (omega (arith, some))
one_word (x ∷ xs) some h =
    ap (λ b. map (word_at (x ∷ xs))
    (cond (b && true) (0 ∷ filter (begins is_word_byte (x ∷ xs)) (range_with_len 1 (length xs)))
    (filter (begins is_word_byte (x ∷ xs)) (range_with_len 1 (length xs))))) (h 0 (omega arith))
    ∙ ap (λ ps. word_at (x ∷ xs) 0 ∷ map (word_at (x ∷ xs)) ps) (none_inside (x ∷ xs) h (length xs) 1 (omega arith) (omega arith))
    ∙ ap (λ l. map lower l ∷ []) (ap (λ n. take n (x ∷ xs)) (all_one (x ∷ xs) h) ∙ take_all (length (x ∷ xs)) (x ∷ xs) (omega arith))

-- what a piece of the text emits are the pairs of the words of that stretch
module _ {K : Type 0} (pair : List ℕ → K × ℤ) (text : List ℕ) (from to : ℕ) (order : from ≤ to) (inside : to ≤ length text)
    (starts : is_word_boundary text from ≡ true) (ends : is_word_boundary text to ≡ true) where
  abbrev emission : List ℕ → Emission K ℤ
  emission w = Pair (pair w).0 (pair w).1

  pub piece_words : word_emissions pair (slice_range text from to)
      ≡ task_emissions (word_emits pair text) (word_places text) (from, to)
  piece_words =
      ap (map emission) (words_of_stretch text from to order inside starts ends)
      ∙ map-map emission (word_at text) (filter (begins is_word_byte text) (range_with_len from (to - from)))
      ∙ sym (flat_map_single (λ p. emission (word_at text p)) (filter (begins is_word_byte text) (range_with_len from (to - from))))
      ∙ sym (ap (flat_map (word_emits pair text)) (items_in-range from to (begins is_word_byte text) (length text) order inside))
