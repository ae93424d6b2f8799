-- One more place in an index.
use Rattle.std.proofs.Common.{◌≡◌, ◌≢◌, ℕ, zero, suc, true, false, cond, nat_eq, nat_lt, eq-eqb, ◌+◌, ◌-◌, ◌/◌, ◌^◌, ◌<◌, ◌≤◌, List, []}
use Rattle.std.proofs.Common.{◌∷◌, ◌++◌, length, get_or, set, inl, inr, refl, sym, ap, subst, ◌∙◌, arith, replicate}
use Rattle.std.proofs.lemmas.List.{get_or_append_left, get_or-set_same, get_or-set_other, length-set, length-append, length-replicate}
use Rattle.std.proofs.Math.Seq.{get_or-append_seam}
use Rattle.std.proofs.lemmas.Bool.Decides.{eqb_tells}
use Rattle.std.proofs.lemmas.Bool.{cases_lt, lt-ltb, ltb-true}
use Rattle.std.proofs.lemmas.Nat.{and_le_r}
use Rattle.mr_hash.specs.Slots.{first_of, slot_of, word_of, used, Indexed, IsFree}

-- equal, or not
pub same_or : {A : Type 0} (a b : ℕ) → (a ≡ b → A) → (a ≢ b → A) → A
same_or a b same other = elim (eqb_tells a b) [ inl h ↦ same h.1 | inr h ↦ other h.1 ]

-- a word is something
pub word_some : (size code place : ℕ) → 1 ≤ word_of size code place
unfolding word_of
word_some size code place = omega arith

-- how many slots hold something
used_set : (index : List ℕ) (at value : ℕ) → at < length index → get_or index at 0 ≡ 0 → 1 ≤ value
    → used (set index at value) ≡ used index + 1
used_set [] at value h e s = absurd (omega (arith, h))
used_set (v ∷ vs) zero value h e s =
    elim (eqb_tells value 0) [ inl z ↦ absurd (omega (arith, z.1, s)) | inr n ↦ ap (λ t. cond t (used vs) (used vs + 1)) n.0 ]
    ∙ ap (λ t. cond t (used vs) (used vs + 1) + 1) (sym (eq-eqb v 0 e))
used_set (v ∷ vs) (suc at) value h e s =
    ap (λ n. cond (nat_eq v 0) n (n + 1)) (used_set vs at value (omega (arith, h)) e s)
    ∙ elim (nat_eq v 0) as (λ t. cond t (used vs + 1) (used vs + 1 + 1) ≡ cond t (used vs) (used vs + 1) + 1) [ true ↦ refl | false ↦ refl ]

used_full : (index : List ℕ) → ((at : ℕ) → at < length index → get_or index at 0 ≢ 0) → used index ≡ length index
used_full [] h = refl
used_full (v ∷ vs) h = elim (eqb_tells v 0) [
  | inl z ↦ absurd (h 0 (omega arith) z.1)
  | inr n ↦ ap (λ t. cond t (used vs) (used vs + 1)) n.0 ∙ omega (arith, used_full vs (λ at l. h (suc at) (omega (arith, l))))
]

used_replicate : (size : ℕ) → used (replicate size 0) ≡ 0
used_replicate zero = refl
used_replicate (suc size) = used_replicate size

-- each slot is tried at some distance
reached : (size shift code at : ℕ) → at < size → (distance : ℕ) × (distance < size) × (slot_of size shift code distance ≡ at)
unfolding slot_of
reached size shift code at h =
    let first = and_le_r (code / 2 ^ shift) (size - 1) in
    elim (cases_lt at (first_of size shift code)) [
      | inl before ↦ (
        at + (size - first_of size shift code),
        omega (arith, first, before, h),
        ap (λ t. cond t (first_of size shift code + (at + (size - first_of size shift code)))
            ((at + (size - first_of size shift code)) - (size - first_of size shift code))) (not_lt _ _ (omega (arith, first, before, h)))
            ∙ omega (arith, first, before, h),
      )
      | inr after ↦ (
        at - first_of size shift code,
        omega (arith, first, after, h),
        ap (λ t. cond t (first_of size shift code + (at - first_of size shift code))
            ((at - first_of size shift code) - (size - first_of size shift code))) (lt-ltb _ _ (omega (arith, first, after, h)))
            ∙ omega (arith, first, after, h),
      )
    ]
  where
    not_lt : (a b : ℕ) → b ≤ a → nat_lt a b ≡ false
    not_lt a b p = elim (nat_lt a b) as (λ t. nat_lt a b ≡ t
        → t ≡ false) [ true ↦ λ e. absurd (omega (arith, p, ltb-true a b e)) | false ↦ λ e. refl ] refl

-- where there is room, some slot of the code has nothing
pub room_found : (shift : ℕ) (index : List ℕ) (code : ℕ) → used index < length index
    → ((distance : ℕ) → distance < length index → get_or index (slot_of (length index) shift code distance) 0 ≢ 0) → ⊥
room_found shift index code room all = omega (
  arith,
  room,
  used_full index (λ at h.
      let there = reached (length index) shift code at h in
      subst (λ s. get_or index s 0 ≢ 0) there.2 (all there.0 there.1)),
)

module _ (size shift : ℕ) (index codes : List ℕ) where
  -- the one slot that changes
  changed : (at value slot : ℕ) → at < length index → slot ≡ at → get_or (set index at value) slot 0 ≡ value
  changed at value slot h e = ap (λ s. get_or (set index at value) s 0) e ∙ get_or-set_same index at value 0 h

  kept : (at value slot : ℕ) → slot ≢ at → get_or (set index at value) slot 0 ≡ get_or index slot 0
  kept at value slot e = get_or-set_other index at slot value 0 e

  module _ (was : Indexed size shift index codes) (code at : ℕ) (free : IsFree size shift index code at) where
    abbrev new : ℕ
    new = word_of size code (length codes)

    inside : at < length index
    inside = omega (arith, free.within, was.long)

    -- a slot with something has something still
    full : (slot : ℕ) → get_or index slot 0 ≢ 0 → get_or (set index at new) slot 0 ≢ 0
    full slot h p = same_or slot at
        (λ e. absurd (omega (arith, p, changed at new slot inside e, word_some size code (length codes))))
        (λ e. h (sym (kept at new slot e) ∙ p))

    -- a word that stood before the new one is where it was
    other : (c place slot : ℕ) → get_or (set index at new) slot 0 ≢ word_of size c place → get_or index slot 0 ≢ word_of size c place
    other c place slot h = same_or slot at
        (λ e p. absurd (omega (arith, p, ap (λ s. get_or index s 0) e ∙ free.empty, word_some size c place)))
        (λ e p. h (kept at new slot e ∙ p))

    more : length (codes ++ code ∷ []) ≡ length codes + 1
    more = length-append codes (code ∷ [])

    old_code : (place : ℕ) → place < length codes → get_or (codes ++ code ∷ []) place 0 ≡ get_or codes place 0
    old_code place p = get_or_append_left codes (code ∷ []) 0 place p

    new_code : (place : ℕ) → place ≡ length codes → get_or (codes ++ code ∷ []) place 0 ≡ code
    new_code place e = ap (λ n. get_or (codes ++ code ∷ []) n 0) e ∙ get_or-append_seam codes code [] 0

    -- the slots of the new place are not its own before it
    not_there : (place distance : ℕ) → place ≡ length codes
        → get_or (set index at new) (slot_of size shift (get_or (codes ++ code ∷ []) place 0) distance) 0
        ≢ word_of size (get_or (codes ++ code ∷ []) place 0) place
        → slot_of size shift code distance ≢ at
    not_there place distance e h is = h (
        changed at new _ inside (ap (λ c. slot_of size shift c distance) (new_code place e) ∙ is)
        ∙ (λ i. word_of size (sym (new_code place e) i) (sym e i))
        )

    old_there : (place distance : ℕ) → place < length codes
        → get_or (set index at new) (slot_of size shift (get_or (codes ++ code ∷ []) place 0) distance) 0
        ≢ word_of size (get_or (codes ++ code ∷ []) place 0) place
        → get_or index (slot_of size shift (get_or codes place 0) distance) 0 ≢ word_of size (get_or codes place 0) place
    old_there place distance p h = other
        (get_or codes place 0) place
        _ (subst (λ c. get_or (set index at new) (slot_of size shift c distance) 0 ≢ word_of size c place) (old_code place p) h)

    pub indexed_more : Indexed size shift (set index at new) (codes ++ code ∷ [])
    indexed_more = record {
      long = length-set index at new ∙ was.long;
      count = used_set index at new inside free.empty (word_some size code (length codes)) ∙ ap (λ n. n + 1) was.count ∙ sym more;
      before = λ place distance p d h. same_or place (length codes)
          (λ e. subst (λ c. get_or (set index at new) (slot_of size shift c distance) 0 ≢ 0) (sym (new_code place e))
          (full _ (free.before distance d (λ n l. not_there place n e (h n l)))))
          (λ e. let q : place < length codes = omega (arith, p, more, e) in
          subst (λ c. get_or (set index at new) (slot_of size shift c distance) 0 ≢ 0) (sym (old_code place q))
          (full _ (was.before place distance q d (λ n l. old_there place n q (h n l)))));
      there = λ place p h. same_or place (length codes)
          (λ e. free.there (λ d l. not_there place d e (h d l)))
          (λ e. let q : place < length codes = omega (arith, p, more, e) in
          was.there place q (λ d l. old_there place d q (h d l)));
    }

-- an index of no places
pub indexed_none : (size shift : ℕ) → Indexed size shift (replicate size 0) []
indexed_none size shift = record {
  long = length-replicate {A = ℕ} size 0;
  count = used_replicate size;
  before = λ place distance p. absurd (omega (arith, p));
  there = λ place p. absurd (omega (arith, p));
}

-- the first slot with nothing is free
pub free_here : (shift : ℕ) (index : List ℕ) (code distance : ℕ) → distance < length index
    → slot_of (length index) shift code distance < length index
    → ((nearer : ℕ) → nearer < distance → get_or index (slot_of (length index) shift code nearer) 0 ≢ 0)
    → get_or index (slot_of (length index) shift code distance) 0 ≡ 0
    → IsFree (length index) shift index code (slot_of (length index) shift code distance)
free_here shift index code distance h w all e = record {
  within = w;
  empty = e;
  before = λ d l other. all d (omega (arith, nearer d other));
  there = λ other. other distance h refl;
}
  where
    nearer : (d : ℕ) → ((n : ℕ) → n ≤ d → slot_of (length index) shift code n ≢ slot_of (length index) shift code distance) → d < distance
    nearer d other = elim (cases_lt d distance) [ inl h ↦ h | inr h ↦ absurd (other distance h refl) ]
