-- Where patterns stand: in a stretch of a text and in the whole of it, from the next place on, and all patterns of a line.
use Rattle.std.proofs.Common.{◌≡◌, inl, inr, ℕ, ℤ, suc, pos, ◌+◌, ◌-◌, ◌<◌, ◌≤◌, nat_le, Bool, true, false, cond, List, [], ◌∷◌, ◌++◌}
use Rattle.std.proofs.Common.{length, take, drop, map, get_or, Some, None, refl, sym, ◌∙◌, ap, ap₂, subst, arith, append_assoc}
use Rattle.std.specs.Prelude.{filter, slice_range}
use Rattle.std.specs.Str.{bytes_eq}
use Rattle.std.specs.List.{range_with_len, enumerate_from}
use Rattle.std.proofs.lemmas.Bool.{cases_lt, cases_Bool, le-leb, lt-leb}
use Rattle.std.proofs.lemmas.List.{length-drop, length-take, length-take-le, get_or-take, get_or-drop, get_or-map, ext_get_or, map-append}
use Rattle.std.proofs.lemmas.List.{take_more, take_all}
use Rattle.std.proofs.lemmas.List.Elements.{filter-append}
use Rattle.std.proofs.lemmas.List.Folds.{list_any_at, list_any_none}
use Rattle.std.proofs.lemmas.List.FromFn.{length-range_with_len, get_or-range_with_len}
use Rattle.std.proofs.lemmas.Simd.{map-map}
use Rattle.std.proofs.lemmas.Slice.Eq.{bytes_eq-Decides}
use Rattle.bstr.specs.Find.{OccursAt, FindsNeedle}
use Rattle.mr_defs.specs.Emission.{Pair}
use Rattle.mr_container.specs.Block.{block_emissions}
use Rattle.mr_items.specs.StringMatch.{stands_in}
use Rattle.mr_lines.specs.Searches.{IsNext, standing}
use Rattle.mr_lines.specs.declared.search.Search.{Search}
use Rattle.mr_text.proofs.Stretches.{length-stretch, stretch_at}

-- an occurrence in a stretch is one in the text, and the other way round
module _ (text pattern : List ℕ) (from to : ℕ) (order : from ≤ to) (inside : to ≤ length text) where
  abbrev line : List ℕ
  line = slice_range text from to

  size : length line ≡ to - from
  size = length-stretch text from to order inside

  pub outward : (k : ℕ) → OccursAt line pattern k → OccursAt text pattern (from + k)
  outward k h = record {
    fits = omega (arith, size, h.fits, order, inside);
    reads = λ j l.
        let there : from + k + j ≡ from + (k + j) = omega arith in
        ap (λ i. get_or text i 0) there ∙ sym (stretch_at text from to order inside (k + j) (omega (arith, size, h.fits, l))) ∙ h.reads j l;
  }

  pub inward : (k : ℕ) → from ≤ k → k + length pattern ≤ to → OccursAt text pattern k → OccursAt line pattern (k - from)
  inward k later fits h = record {
    fits = omega (arith, size, fits, later);
    reads = λ j l.
        let there : from + (k - from + j) ≡ k + j = omega (arith, later) in
        stretch_at text from to order inside (k - from + j) (omega (arith, fits, later, l)) ∙ ap (λ i. get_or text i 0) there ∙ h.reads j l;
  }

-- a pattern stands in a line where it occurs at some place of it
module _ (line pattern : List ℕ) where
  abbrev test : ℕ → Bool
  test k = bytes_eq (take (length pattern) (drop k line)) pattern

  part : (k : ℕ) → OccursAt line pattern k → take (length pattern) (drop k line) ≡ pattern
  part k h =
      let fits = h.fits in
      let whole : length (take (length pattern) (drop k line)) ≡ length pattern =
      length-take-le (length pattern) (drop k line) (omega (arith, length-drop k line, fits)) in
      ext_get_or 0 _ pattern whole
      (λ j l. get_or-take (length pattern) _ j 0 (omega (arith, whole, l)) ∙ get_or-drop k line j 0 ∙ h.reads j (omega (arith, whole, l)))

  from_part : (k : ℕ) → k ≤ length line → take (length pattern) (drop k line) ≡ pattern → OccursAt line pattern k
  from_part k below e = record {
    fits = let size : length (take (length pattern) (drop k line)) ≡ length pattern = ap length e in
        omega (arith, length-drop k line, length-take (length pattern) (drop k line), size, below);
    reads = λ j l. sym (get_or-take (length pattern) _ j 0 l ∙ get_or-drop k line j 0) ∙ ap (λ xs. get_or xs j 0) e;
  }

  pub occurs : (k : ℕ) → OccursAt line pattern k → stands_in line pattern ≡ true
  occurs k h =
      let below : k < length line + 1 = omega (arith, h.fits) in
      let number : get_or (range_with_len 0 (length line + 1)) k 0 ≡ k =
      omega (arith, get_or-range_with_len 0 (length line + 1) k 0 below) in
      list_any_at test (range_with_len 0 (length line + 1)) k 0 (omega (arith, below, length-range_with_len 0 (length line + 1)))
      (ap test number ∙ (bytes_eq-Decides (take (length pattern) (drop k line)) pattern).1 (part k h))

  pub nowhere : ((k : ℕ) → ¬ OccursAt line pattern k) → stands_in line pattern ≡ false
  nowhere none = list_any_none test (range_with_len 0 (length line + 1)) (λ k d l.
      let below : k < length line + 1 = omega (arith, l, length-range_with_len 0 (length line + 1)) in
      let number : get_or (range_with_len 0 (length line + 1)) k d ≡ k =
      omega (arith, get_or-range_with_len 0 (length line + 1) k d below) in
      ap test number ∙ not_here k below)
    where
      not_here : (k : ℕ) → k < length line + 1 → test k ≡ false
      not_here k below = elim (cases_Bool (test k)) [
        | inl same ↦ absurd
            (none k (from_part k (omega (arith, below)) ((bytes_eq-Decides (take (length pattern) (drop k line)) pattern).0 same)))
        | inr other ↦ other
      ]

module _ (text pattern : List ℕ) (stop from : ℕ) (order : from ≤ stop) (inside : stop ≤ length text) where
  -- a search of the rest of a piece gives the next place
  pub found : (place : ℕ) → FindsNeedle (slice_range text from stop) pattern 0 (Some place) → IsNext text pattern stop from (from + place)
  found place h = record {
    before = λ k later below fits occurs. h.0.before (k - from) (omega arith) (omega (arith, later, below))
        (inward text pattern from stop order inside k later fits occurs);
    there = λ later within. outward text pattern from stop order inside place h.1;
  }

  pub found_none : FindsNeedle (slice_range text from stop) pattern 0 None → IsNext text pattern stop from (stop + 1)
  found_none h = record {
    before = λ k later below fits occurs. h (k - from) (omega arith)
        (omega (arith, later, below, order, length-stretch text from stop order inside))
        (inward text pattern from stop order inside k later fits occurs);
    there = λ later within. absurd (omega (arith, within));
  }

-- the next place stays the next one for what comes later
pub later_next : (text pattern : List ℕ) (stop from more next : ℕ) → from ≤ more → IsNext text pattern stop from next
    → IsNext text pattern stop more next
later_next text pattern stop from more next after h = record {
  before = λ k later. h.before k (omega (arith, after, later));
  there = λ later. h.there (omega (arith, after, later));
}

-- a pattern stands in a line where its next place leaves room for it
module _ (text pattern : List ℕ) (stop from to next : ℕ) (is : IsNext text pattern stop from next) (later : from ≤ next)
    (order : from ≤ to) (within : to ≤ stop) (inside : stop ≤ length text) where
  pub room : next ≤ to → length pattern ≤ to - next → stands_in (slice_range text from to) pattern ≡ true
  room before fits =
      occurs (slice_range text from to) pattern (next - from)
      (inward text pattern from to order (omega (arith, within, inside)) next later (omega (arith, before, fits))
      (is.there later (omega (arith, before, within))))

  pub no_room : (next ≤ to → to - next < length pattern) → stands_in (slice_range text from to) pattern ≡ false
  no_room short = nowhere (slice_range text from to) pattern (λ k h.
      let size = length-stretch text from to order (omega (arith, within, inside)) in
      let fits : from + k + length pattern ≤ to = omega (arith, h.fits, size, order) in
      elim (cases_lt (from + k) next) [
        | inl before ↦ is.before (from + k) (omega arith) before (omega (arith, fits, within))
            (outward text pattern from to order (omega (arith, within, inside)) k h)
        | inr past ↦ let less = short (omega (arith, past, fits)) in omega (arith, less, past, fits)
      ])

  pub fits_is : (needle : List ℕ) → needle ≡ pattern → next ≤ to
      → nat_le (length needle) (to - next) ≡ stands_in (slice_range text from to) pattern
  fits_is needle same before = elim (cases_lt (to - next) (length needle)) [
    | inl short ↦ lt-leb (length needle) (to - next) short ∙ sym (no_room (λ before. subst (λ xs. to - next < length xs) same short))
    | inr long ↦ le-leb (length needle) (to - next) long ∙ sym (room before (subst (λ xs. length xs ≤ to - next) same long))
  ]

  pub past_is : to < next → nat_le next to ≡ stands_in (slice_range text from to) pattern
  past_is past = lt-leb next to past ∙ sym (no_room (λ before. absurd (omega (arith, past, before))))

-- the pattern of a search by its number
pub numbered : (searches : List Search) (patterns : List (List ℕ)) (i : ℕ) (s : Search) → map (λ x. x.finder) searches ≡ patterns
    → i < length searches → s ≡ get_or searches i s → get_or patterns i [] ≡ s.finder
numbered searches patterns i s same below is =
    ap (λ ps. get_or ps i []) (sym same)
    ∙ get_or-map (λ x. x.finder) searches i s [] below
    ∙ ap (λ x. x.finder) (sym is)

-- the patterns that stand in a line, one after the other
enumerate_last : {X : Type 0} (n : ℕ) (xs : List X) (x : X)
    → enumerate_from n (xs ++ x ∷ []) ≡ enumerate_from n xs ++ (n + length xs, x) ∷ []
enumerate_last n [] x = let e : n ≡ n + 0 = omega arith in ap (λ k. (k, x) ∷ []) e
enumerate_last n (y ∷ xs) x = let e : n + 1 + length xs ≡ n + suc (length xs) = omega arith in
    ap (λ l. (n, y) ∷ l) (enumerate_last (n + 1) xs x ∙ ap (λ k. enumerate_from (n + 1) xs ++ (k, x) ∷ []) e)

module _ (patterns : List (List ℕ)) (line : List ℕ) where
  abbrev stands : ℕ × List ℕ → Bool
  stands e = stands_in line e.1

  abbrev pair : ℕ × List ℕ → ℕ × ℤ
  pair e = (e.0, pos 1)

  pub standing-next : (i : ℕ) → i < length patterns
      → standing (take (i + 1) patterns) line
      ≡ standing (take i patterns) line ++ cond (stands_in line (get_or patterns i [])) ((i, pos 1) ∷ []) []
  standing-next i below =
      let place : 0 + length (take i patterns) ≡ i = omega (arith, length-take-le i patterns (omega (arith, below))) in
      ap (λ ps. map pair (filter stands (enumerate_from 0 ps))) (take_more patterns i [] below)
      ∙ ap (λ es. map pair (filter stands es))
      (enumerate_last 0 (take i patterns) (get_or patterns i [])
      ∙ ap (λ k. enumerate_from 0 (take i patterns) ++ (k, get_or patterns i []) ∷ []) place)
      ∙ ap (map pair) (filter-append stands (enumerate_from 0 (take i patterns)) ((i, get_or patterns i []) ∷ []))
      ∙ map-append pair (filter stands (enumerate_from 0 (take i patterns))) (filter stands ((i, get_or patterns i []) ∷ []))
      ∙ ap (λ l. standing (take i patterns) line ++ l) (one (stands_in line (get_or patterns i [])))
    where
      one : (b : Bool) → map pair (cond b ((i, get_or patterns i []) ∷ []) []) ≡ cond b ((i, pos 1) ∷ []) []
      one true = refl
      one false = refl

  pub standing-all : (i : ℕ) → length patterns ≤ i → standing (take i patterns) line ≡ standing patterns line
  standing-all i past = ap (λ ps. standing ps line) (take_all i patterns past)

  -- one more is put into a block, or not
  pub standing-pushed : (start items pushed : List (ℕ × ℤ)) (i : ℕ) (b : Bool) → i < length patterns
      → b ≡ stands_in line (get_or patterns i []) → items ≡ start ++ standing (take i patterns) line
      → pushed ≡ items ++ cond b ((i, pos 1) ∷ []) [] → pushed ≡ start ++ standing (take (i + 1) patterns) line
  standing-pushed start items pushed i b below is so_far more =
      more
      ∙ ap₂ (λ (l : List (ℕ × ℤ)) (c : Bool). l ++ cond c ((i, pos 1) ∷ []) []) so_far is
      ∙ append_assoc start (standing (take i patterns) line) (cond (stands_in line (get_or patterns i [])) ((i, pos 1) ∷ []) [])
      ∙ ap (λ l. start ++ l) (sym (standing-next i below))

  -- as emissions, behind those that waited
  pub standing-emitted : (items pairs : List (ℕ × ℤ)) → pairs ≡ items ++ standing patterns line
      → block_emissions items ++ map (λ e. Pair e.0 (pos 1)) (filter stands (enumerate_from 0 patterns)) ≡ block_emissions pairs
  standing-emitted items pairs e =
      let found = filter stands (enumerate_from 0 patterns) in
      ap (λ l. block_emissions items ++ l) (sym (map-map (λ p. Pair p.0 p.1) pair found))
      ∙ sym (map-append (λ p. Pair p.0 p.1) items (map pair found))
      ∙ ap block_emissions (sym e)
