-- All cuts of a text: the parts between them are the pieces of the definition, and what they have together is what the text has.
use Rattle.std.proofs.Common.{◌≡◌, inl, inr, ℕ, zero, suc, ◌+◌, ◌-◌, ◌*◌, ◌/◌, ◌<◌, ◌≤◌, ◌==◌, Bool, true, false, cond, List, [], ◌∷◌, ◌++◌}
use Rattle.std.proofs.Common.{length, map, take, drop, refl, sym, ◌∙◌, ap, subst, arith, eq-eqb, map-id, if◌then◌else◌}
use Rattle.std.specs.Prelude.{nat_lt, nat_eq, filter, flat_map, zip}
use Rattle.std.specs.List.{range_with_len, dedup, dedup_from, All}
use Rattle.std.proofs.lemmas.Bool.{cases_lt, cases_eq, ne_eqb, or_left, or_right, lt-ltb, le-ltb}
use Rattle.std.proofs.lemmas.List.{take_all, drop-drop}
use Rattle.std.proofs.lemmas.List.Concat.{flat_map_single}
use Rattle.std.proofs.lemmas.List.Elements.{All-nil, All-cons}
use Rattle.std.proofs.Math.Seq.{take-add}
use Rattle.std.proofs.Math.Nat.{div-mul-le_self, mul-le-mul_right}
use Rattle.mr_defs.specs.Tasks.{Stretch, boundary_from, step_of, pieces_of, items_in, task_emissions}
use Rattle.mr_defs.proofs.Joins.{IsChain}
use Rattle.mr_defs.proofs.Chains.{pieces_of-IsChain}
use Rattle.mr_split.specs.Pieces.{IsPiece, boundary_of}
use Rattle.mr_split.specs.declared.boundary.Boundary.{Boundary}
use Rattle.mr_split.proofs.Forward.{boundary_from_bound, boundary_from_boundary, boundary_from_rises}
use Rattle.mr_split.proofs.Between.{parts_from, parts_same, parts_other, moved}

module _ (b : ℕ → Bool) (len : ℕ) (end : b len ≡ true) where
  -- cuts that do not fall, each a boundary of the text
  abbrev Rises : ℕ → List ℕ → Type 0
  Rises from [] = Unit {0}
  Rises from (cut ∷ cuts) = (from ≤ cut) × (cut ≤ len) × (b cut ≡ true) × Rises cut cuts

  -- of the multiples of a step from the k-th on, each moved forward
  rise_from : (step from k n : ℕ) → ((q : ℕ) → k * step ≤ q → q ≤ len → from ≤ boundary_from b len q) → (k + n) * step ≤ len + step
      → Rises from (map (λ t. boundary_from b len (t * step)) (range_with_len k n))
  rise_from step from k zero later small = tt
  rise_from step from k (suc n) later small =
      let first : (k + 1) * step ≤ (k + suc n) * step = mul-le-mul_right step (omega arith) in
      let inside : k * step ≤ len = omega (arith, first, small) in
      let next : k * step ≤ (k + 1) * step = mul-le-mul_right step (omega arith) in
      let more : k + suc n ≡ (k + 1) + n = omega arith in (
        later (k * step) (omega arith) inside,
        boundary_from_bound b len (k * step) inside,
        boundary_from_boundary b len (k * step) end inside,
        rise_from step (boundary_from b len (k * step)) (k + 1) n
            (λ q from to. boundary_from_rises b len (k * step) q to (omega (arith, next, from)))
            (subst (λ m. m * step ≤ len + step) more small),
      )

  moved_rise : (step : ℕ) → 1 ≤ step → Rises 1 (moved b len step ((len - 1) / step))
  moved_rise step some = rise_from step 1 1 ((len - 1) / step) (λ q from to. omega (arith, from, some))
      (let most : (len - 1) / step * step ≤ len - 1 = div-mul-le_self (len - 1) step in omega (arith, most))

  -- no part lies behind the end
  none_behind : (cuts : List ℕ) → Rises len cuts → parts_from len (cuts ++ len ∷ []) ≡ []
  none_behind [] r = parts_same len [] len (eq-eqb len len refl)
  none_behind (cut ∷ cuts) r =
      let there : cut ≡ len = omega (arith, r.0, r.1) in
      parts_same len (cuts ++ len ∷ []) cut (eq-eqb cut len there) ∙ none_behind cuts (subst (λ p. Rises p cuts) there r.3)

  part_and_rest : (from cut : ℕ) (cuts : List ℕ) → from < cut → cut ≤ len → Rises cut cuts
      → cond (nat_lt cut len) ((from, cut) ∷ parts_from cut (cuts ++ len ∷ [])) ((from, len) ∷ [])
      ≡ parts_from from (cut ∷ cuts ++ len ∷ [])
  part_and_rest from cut cuts less le r = elim (cases_lt cut len) [
    | inl before ↦ ap (λ t. cond t ((from, cut) ∷ parts_from cut (cuts ++ len ∷ [])) ((from, len) ∷ [])) (lt-ltb cut len before) ∙ sym other
    | inr behind ↦
        let there : cut ≡ len = omega (arith, le, behind) in
        ap (λ t. cond t ((from, cut) ∷ parts_from cut (cuts ++ len ∷ [])) ((from, len) ∷ [])) (le-ltb cut len behind)
        ∙ ap (λ l. (from, len) ∷ l) (sym (none_behind cuts (subst (λ p. Rises p cuts) there r)))
        ∙ ap (λ p. (from, p) ∷ parts_from p (cuts ++ len ∷ [])) (sym there)
        ∙ sym other
  ]
    where
      other : parts_from from (cut ∷ cuts ++ len ∷ []) ≡ (from, cut) ∷ parts_from cut (cuts ++ len ∷ [])
      other = parts_other from (cuts ++ len ∷ []) cut (ne_eqb cut from (λ e. omega (arith, e, less)))

  abbrev below : List ℕ → List ℕ
  below cuts = filter (λ p. nat_lt p len) cuts

  abbrev between : ℕ → List ℕ → List Stretch
  between from cuts = zip (from ∷ below cuts) (below cuts ++ len ∷ [])

  kept : (from cut : ℕ) (cuts : List ℕ) → cut ≤ len → Rises cut cuts
      → between from (dedup_from nat_eq cut cuts)
      ≡ cond (nat_lt cut len) ((from, cut) ∷ parts_from cut (cuts ++ len ∷ [])) ((from, len) ∷ [])
  kept from cut [] le r = elim (cases_lt cut len) [
    | inl before ↦ rw (lt-ltb cut len before)
        (ap (λ l. (from, cut) ∷ l) (sym (parts_other cut [] len (ne_eqb len cut (λ e. omega (arith, e, before))))))
    | inr behind ↦ rw (le-ltb cut len behind) refl
  ]
  kept from cut (next ∷ cuts) le r = elim (cases_eq next cut) [
    | inl same ↦
        let e : (next == cut) ≡ true = eq-eqb next cut same in
        ap (λ t. between from (cond t (dedup_from nat_eq cut cuts) (cut ∷ dedup_from nat_eq next cuts))) e
        ∙ kept from cut cuts le (subst (λ p. Rises p cuts) same r.3)
        ∙ ap (λ l. cond (nat_lt cut len) ((from, cut) ∷ l) ((from, len) ∷ [])) (sym (parts_same cut (cuts ++ len ∷ []) next e))
    | inr differ ↦
        let e : (next == cut) ≡ false = ne_eqb next cut differ in
        let before : nat_lt cut len ≡ true = lt-ltb cut len (omega (arith, differ, r.0, r.1)) in
        ap (λ t. between from (cond t (dedup_from nat_eq cut cuts) (cut ∷ dedup_from nat_eq next cuts))) e
        ∙ ap (λ t. zip (from ∷ cond t (cut ∷ below (dedup_from nat_eq next cuts)) (below (dedup_from nat_eq next cuts)))
        (cond t (cut ∷ below (dedup_from nat_eq next cuts)) (below (dedup_from nat_eq next cuts)) ++ len ∷ [])) before
        ∙ ap (λ l. (from, cut) ∷ l) (kept cut next cuts r.1 r.3 ∙ part_and_rest cut next cuts (omega (arith, differ, r.0)) r.1 r.3)
        ∙ ap (λ t. cond t ((from, cut) ∷ parts_from cut (next ∷ cuts ++ len ∷ [])) ((from, len) ∷ [])) (sym before)
  ]

  whole : (cuts : List ℕ) → Rises 1 cuts → parts_from 0 (cuts ++ len ∷ []) ≡ (if len == 0 then [] else between 0 (dedup nat_eq cuts))
  whole [] r = refl
  whole (cut ∷ cuts) r =
      let some : (len == 0) ≡ false = ne_eqb len 0 (λ e. omega (arith, e, r.0, r.1)) in
      sym (ap (λ t. if t then [] else between 0 (dedup_from nat_eq cut cuts)) some ∙ kept 0 cut cuts r.1 r.3
      ∙ part_and_rest 0 cut cuts (omega (arith, r.0)) r.1 r.3)

  pub pieces_of-moved : (chunk : ℕ) → 1 ≤ step_of chunk len
      → parts_from 0 (moved b len (step_of chunk len) ((len - 1) / step_of chunk len) ++ len ∷ []) ≡ pieces_of b chunk len
  pieces_of-moved chunk some = whole (moved b len (step_of chunk len) ((len - 1) / step_of chunk len)) (moved_rise (step_of chunk len) some)

  each_part : (from : ℕ) (cuts : List ℕ) → from ≤ len → b from ≡ true → Rises from cuts
      → All (IsPiece b len) (parts_from from (cuts ++ len ∷ []))
  each_part from [] le here r = elim (cases_eq len from) [
    | inl same ↦ subst (All (IsPiece b len)) (sym (parts_same from [] len (eq-eqb len from same))) (All-nil (IsPiece b len))
    | inr differ ↦ subst (All (IsPiece b len)) (sym (parts_other from [] len (ne_eqb len from differ)))
        (All-cons (IsPiece b len) (from, len) []
        (record { some = omega (arith, differ, le); inside = omega arith; starts = here; ends = end }) (All-nil (IsPiece b len)))
  ]
  each_part from (cut ∷ cuts) le here r = elim (cases_eq cut from) [
    | inl same ↦ subst (All (IsPiece b len)) (sym (parts_same from (cuts ++ len ∷ []) cut (eq-eqb cut from same)))
        (each_part from cuts le here (subst (λ p. Rises p cuts) same r.3))
    | inr differ ↦ subst (All (IsPiece b len)) (sym (parts_other from (cuts ++ len ∷ []) cut (ne_eqb cut from differ)))
        (All-cons (IsPiece b len) (from, cut) (parts_from cut (cuts ++ len ∷ []))
        (record { some = omega (arith, differ, r.0); inside = r.1; starts = here; ends = r.2 }) (each_part cut cuts r.1 r.2 r.3))
  ]

pub kind_starts : (kind : Boundary) (bytes : List ℕ) → boundary_of kind bytes 0 ≡ true
kind_starts Boundary.Word bytes = refl
kind_starts Boundary.Line bytes = refl

pub kind_ends : (kind : Boundary) (bytes : List ℕ) → boundary_of kind bytes (length bytes) ≡ true
kind_ends Boundary.Word bytes = or_right (length bytes == 0) _ (or_left _ _ (eq-eqb (length bytes) (length bytes) refl))
kind_ends Boundary.Line bytes = or_right _ (length bytes == length bytes) (eq-eqb (length bytes) (length bytes) refl)

each_of_some : (kind : Boundary) (bytes : List ℕ) (chunk : ℕ) → 1 ≤ step_of chunk (length bytes)
    → All (IsPiece (boundary_of kind bytes) (length bytes)) (pieces_of (boundary_of kind bytes) chunk (length bytes))
each_of_some kind bytes chunk some =
    let b = boundary_of kind bytes in
    let len = length bytes in
    let step = step_of chunk len in
    let end = kind_ends kind bytes in
    let most : (len - 1) / step * step ≤ len - 1 = div-mul-le_self (len - 1) step in
    subst (All (IsPiece b len)) (pieces_of-moved b len end chunk some)
    (each_part b len end 0 (moved b len step ((len - 1) / step)) (omega arith) (kind_starts kind bytes)
    (rise_from b len end step 0 1 ((len - 1) / step) (λ q from to. omega arith) (omega (arith, most))))

-- each piece of a text, whatever the chunk
pub each_of : (kind : Boundary) (bytes : List ℕ) (chunk : ℕ)
    → All (IsPiece (boundary_of kind bytes) (length bytes)) (pieces_of (boundary_of kind bytes) chunk (length bytes))
each_of kind bytes chunk = elim (cases_lt 0 (length bytes)) [
  | inl some ↦ each_of_some kind bytes chunk (omega (arith, some))
  | inr none ↦
      let e : (length bytes == 0) ≡ true = eq-eqb (length bytes) 0 (omega (arith, none)) in
      subst (All (IsPiece (boundary_of kind bytes) (length bytes))) (sym (no_piece (boundary_of kind bytes) chunk (length bytes) e))
      (All-nil (IsPiece (boundary_of kind bytes) (length bytes)))
]
  where
    no_piece : (b : ℕ → Bool) (chunk size : ℕ) → (size == 0) ≡ true → pieces_of b chunk size ≡ []
    no_piece b chunk size e = rw e refl

-- the bytes of adjacent parts, joined
module _ (bytes : List ℕ) where
  abbrev slice : ℕ → ℕ → List ℕ
  slice from to = take (to - from) (drop from bytes)

  slice-slice : (from mid to : ℕ) → from ≤ mid → mid ≤ to → slice from mid ++ slice mid to ≡ slice from to
  slice-slice from mid to le ge =
      let meets : from + (mid - from) ≡ mid = omega arith in
      let size : (mid - from) + (to - mid) ≡ to - from = omega arith in
      ap (λ xs. slice from mid ++ take (to - mid) xs) (ap (λ k. drop k bytes) (sym meets) ∙ sym (drop-drop (mid - from) from bytes))
      ∙ sym (take-add (mid - from) (to - mid) (drop from bytes))
      ∙ ap (λ k. take k (drop from bytes)) size

  slices : (from : ℕ) (parts : List Stretch) (to : ℕ) → IsChain from parts to → flat_map (λ part. slice part.0 part.1) parts ≡ slice from to
  slices from [] to e = let none : 0 ≡ to - from = omega (arith, e) in ap (λ n. take n (drop from bytes)) none
  slices from (part ∷ parts) to c =
      ap (λ l. slice part.0 part.1 ++ l) (slices part.1 parts to c.3)
      ∙ ap (λ k. slice k part.1 ++ slice part.1 to) c.0
      ∙ slice-slice from part.1 to c.1 c.2

  pub pieces_joined : (b : ℕ → Bool) (chunk : ℕ) → flat_map (λ part. slice part.0 part.1) (pieces_of b chunk (length bytes)) ≡ bytes
  pieces_joined b chunk = slices 0 (pieces_of b chunk (length bytes)) (length bytes) (pieces_of-IsChain b chunk (length bytes))
      ∙ take_all (length bytes - 0) bytes (omega arith)

-- the items of the parts, joined, where each item emits itself alone
alone : (xs : List ℕ) → flat_map (λ x. x ∷ []) xs ≡ xs
alone xs = flat_map_single (λ x. x) xs ∙ map-id xs

pub items_joined : (items : List ℕ) (parts : List Stretch)
    → flat_map (task_emissions (λ x. x ∷ []) items) parts ≡ flat_map (λ x. x ∷ []) items
    → flat_map (λ part. items_in part items) parts ≡ items
items_joined items parts e = sym (λ i. flat_map (λ part. alone (items_in part items) i) parts) ∙ e ∙ alone items
