-- What the numbers of entries tell: each names its entry and the front of it.
use Rattle.std.proofs.Common.{◌≡◌, ℕ, suc, ◌+◌, ◌%◌, ◌<◌, List, [], ◌∷◌, ◌++◌, length, map, take, filter_map, get_or, Some, refl, sym, ap}
use Rattle.std.proofs.Common.{subst, ◌∙◌, arith, append_assoc, length-append}
use Rattle.std.specs.Prelude.{All, slice_get, slice_index_or}
use Rattle.std.specs.List.{cons_option}
use Rattle.std.proofs.lemmas.Nat.{div-mul-add, mod-mul-add}
use Rattle.std.proofs.lemmas.List.{take_more, length-take-le, length-map}
use Rattle.std.proofs.lemmas.List.Elements.{All-cons, All-nil}
use Rattle.mr_phase.specs.Packed.{front_of, word_of, words_from, picked, Tells}

words_from-push : (unit count at : ℕ) (leads : List ℕ) (lead : ℕ)
    → words_from unit count at (leads ++ lead ∷ []) ≡ words_from unit count at leads ++ word_of unit count (at + length leads) lead ∷ []
words_from-push unit count at [] lead = ap (λ a. word_of unit count a lead ∷ []) (omega arith)
words_from-push unit count at (x ∷ leads) lead =
    ap (λ t. word_of unit count at x ∷ t)
    (words_from-push unit count (at + 1) leads lead
    ∙ ap (λ a. words_from unit count (at + 1) leads ++ word_of unit count a lead ∷ []) (omega arith))

-- one lead more
pub words_more : (unit count : ℕ) (leads : List ℕ) (i at lead : ℕ) (words words' : List ℕ) → i < length leads → at ≡ i
    → lead ≡ get_or leads i 0 → words ≡ words_from unit count 0 (take i leads) → words' ≡ words ++ word_of unit count at lead ∷ []
    → words' ≡ words_from unit count 0 (take (i + 1) leads)
words_more unit count leads i at lead words words' h place is so_far more =
    more ∙ ap (λ l. l ++ word_of unit count at lead ∷ []) so_far
    ∙ ap (λ a. words_from unit count 0 (take i leads) ++ word_of unit count a lead ∷ [])
    (let n = length-take-le i leads (omega (arith, h)) in omega (arith, place, n))
    ∙ sym (words_from-push unit count 0 (take i leads) lead)
    ∙ ap (words_from unit count 0) (sym (take_more leads i 0 h ∙ ap (λ y. take i leads ++ y ∷ []) (sym is)))

module _ {X : Type 0} where
  there : (before rest : List X) (e : X) → slice_get (before ++ e ∷ rest) (length before) ≡ Some e
  there [] rest e = refl
  there (x ∷ before) rest e = there before rest e

  it_is : (before rest : List X) (e d : X) → slice_index_or (before ++ e ∷ rest) (length before) d ≡ e
  it_is [] rest e d = refl
  it_is (x ∷ before) rest e d = it_is before rest e d

  one_on : (before rest : List X) (e : X) → length (before ++ e ∷ []) ≡ length before + 1
  one_on before rest e = length-append before (e ∷ [])

module _ {X : Type 0} (unit : ℕ) (lead : X → ℕ) (all : List X) where
  abbrev words : ℕ → List X → List ℕ
  words at es = words_from unit (length all) at (map lead es)

  within : (before rest : List X) (e : X) → all ≡ before ++ e ∷ rest → length before < length all
  within before rest e is = let n = ap length is in let m = length-append before (e ∷ rest) in omega (arith, n, m)

  next : (before rest : List X) (e : X) → all ≡ before ++ e ∷ rest → all ≡ (before ++ e ∷ []) ++ rest
  next before rest e is = is ∙ sym (append_assoc before (e ∷ []) rest)

  picked_rest : (before rest : List X) → all ≡ before ++ rest
      → filter_map (λ w. slice_get all (w % length all)) (words (length before) rest) ≡ rest
  picked_rest before [] is = refl
  picked_rest before (e ∷ rest) is =
      ap (λ o. cons_option o (filter_map (λ w. slice_get all (w % length all)) (words (length before + 1) rest)))
      (ap (slice_get all) (mod-mul-add (front_of unit (length all) (lead e)) (length all) (length before) (within before rest e is))
      ∙ ap (λ l. slice_get l (length before)) is ∙ there before rest e)
      ∙ ap (λ l. e ∷ l) (ap (λ n. filter_map (λ w. slice_get all (w % length all)) (words n rest)) (sym (one_on before rest e))
      ∙ picked_rest (before ++ e ∷ []) rest (next before rest e is))

  -- the entries at the places of all numbers are all entries
  pub picked_all : picked all (words_from unit (length all) 0 (map lead all)) ≡ all
  picked_all = picked_rest [] all refl

  tells_rest : (before rest : List X) → all ≡ before ++ rest
      → All (Tells (λ e. front_of unit (length all) (lead e)) all) (words (length before) rest)
  tells_rest before [] is = All-nil (Tells (λ e. front_of unit (length all) (lead e)) all)
  tells_rest before (e ∷ rest) is = All-cons (Tells (λ e. front_of unit (length all) (lead e)) all)
      (word_of unit (length all) (length before) (lead e)) (words (length before + 1) rest)
      (λ d.
      ap (λ n. front_of unit (length all) (lead (slice_index_or all n d)))
      (mod-mul-add (front_of unit (length all) (lead e)) (length all) (length before) (within before rest e is))
      ∙ ap (λ l. front_of unit (length all) (lead (slice_index_or l (length before) d))) is
      ∙ ap (λ x. front_of unit (length all) (lead x)) (it_is before rest e d)
      ∙ sym (div-mul-add (front_of unit (length all) (lead e)) (length all) (length before) (within before rest e is)))
      (subst (λ n. All (Tells (λ e. front_of unit (length all) (lead e)) all) (words n rest)) (one_on before rest e)
      (tells_rest (before ++ e ∷ []) rest (next before rest e is)))

  -- and each number tells the front of its entry
  pub tells_all : All (Tells (λ e. front_of unit (length all) (lead e)) all) (words_from unit (length all) 0 (map lead all))
  tells_all = tells_rest [] all refl

pub length-words_from : (unit count at : ℕ) (leads : List ℕ) → length (words_from unit count at leads) ≡ length leads
length-words_from unit count at [] = refl
length-words_from unit count at (lead ∷ leads) = ap suc (length-words_from unit count (at + 1) leads)

-- the numbers that are made of the leads
pub words_are : {X : Type 0} (unit : ℕ) (lead : X → ℕ) (all : List X) (leads words : List ℕ) → leads ≡ map lead all
    → words ≡ words_from unit (length leads) 0 leads → words ≡ words_from unit (length all) 0 (map lead all)
words_are unit lead all leads words e h =
    h ∙ ap (λ l. words_from unit (length l) 0 l) e ∙ ap (λ n. words_from unit n 0 (map lead all)) (length-map all lead)
