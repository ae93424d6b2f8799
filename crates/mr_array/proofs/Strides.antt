-- How the places are read, part by part.
use Rattle.std.proofs.Common.{◌≡◌, ◌≢◌, ℕ, zero, suc, ◌+◌, ◌-◌, ◌*◌, ◌/◌, ◌%◌, ◌<◌, ◌≤◌, ◌==◌, cond, List, [], ◌∷◌, length, get_or, filter}
use Rattle.std.proofs.Common.{drop, Option, Some, None, inl, inr, refl, sym, ap, subst, ◌∙◌, arith, eq-eqb}
use Rattle.std.proofs.lemmas.List.{get_or_default, drop_all, drop_more}
use Rattle.std.proofs.lemmas.Bool.{cases_lt}
use Rattle.std.proofs.Math.Nat.{div-add-mod, mul-add-mod_self_left, mod-eq_of_lt, mod-eq-sub-mod, mod-lt}
use Rattle.mr_container.proofs.Orders.{not_equal}
use Rattle.mr_array.specs.Cells.{numbered}

-- a place that is less than a stride further is of another part
other_part : (parts part place more : ℕ) → 1 ≤ more → more < parts → place % parts ≡ part → (place + more) % parts ≢ part
other_part parts part place more some few is e = elim (cases_lt (part + more) parts) [
  | inl short ↦ omega (arith, some, sym e ∙ moved ∙ mod-eq_of_lt short)
  | inr long ↦ omega (arith, few, long, sym e ∙ moved ∙ mod-eq-sub-mod long ∙ mod-eq_of_lt (left long))
]
  where
    moved : (place + more) % parts ≡ (part + more) % parts
    moved =
        ap (λ n. (n + more) % parts) (sym (div-add-mod place parts) ∙ ap (λ r. parts * (place / parts) + r) is)
        ∙ ap (λ n. n % parts) (grouped (parts * (place / parts)))
        ∙ mul-add-mod_self_left parts (place / parts) (part + more)
      where
        grouped : (n : ℕ) → (n + part) + more ≡ n + (part + more)
        grouped n = omega arith

    left : parts ≤ part + more → part + more - parts < parts
    left h = omega (arith, h, few, subst (λ n. n < parts) is (mod-lt place (omega (arith, few))))

module _ {C : Type 0} (parts part : ℕ) (cells : List (Option C)) where
  -- the keys and cells of the part, from a place on
  abbrev rest : ℕ → List (ℕ × C)
  rest place = filter (λ e. e.0 % parts == part) (numbered place (drop place cells))

  pub rest_none : (place : ℕ) → length cells ≤ place → rest place ≡ []
  rest_none place h = ap (λ l. filter (λ e. e.0 % parts == part) (numbered place l)) (drop_all place cells h)

  split : (place : ℕ) (x : Option C) → place < length cells → x ≡ get_or cells place x → drop place cells ≡ x ∷ drop (place + 1) cells
  split place x l is = drop_more cells place x l ∙ ap (λ y. y ∷ drop (place + 1) cells) (sym is)

  -- a place with no cell, or of another part
  passed_empty : (place : ℕ) → place < length cells → None ≡ get_or cells place None → rest place ≡ rest (place + 1)
  passed_empty place l is = ap (λ l. filter (λ e. e.0 % parts == part) (numbered place l)) (split place None l is)

  passed_other : (place : ℕ) → place % parts ≢ part → rest place ≡ rest (place + 1)
  passed_other place h = elim (cases_lt place (length cells)) [
    | inr past ↦ rest_none place past ∙ sym (rest_none (place + 1) (omega (arith, past)))
    | inl l ↦ elim (get_or cells place None) as (λ x. get_or cells place None ≡ x → rest place ≡ rest (place + 1)) [
      | None ↦ λ is. passed_empty place l (sym is)
      | Some c ↦ λ is.
          ap (λ l. filter (λ e. e.0 % parts == part) (numbered place l))
          (split place (Some c) l (sym is ∙ get_or_default cells place None (Some c) l))
          ∙ ap (λ t. cond t ((place, c) ∷ rest (place + 1)) (rest (place + 1))) (not_equal (place % parts) part h)
    ] refl
  ]

  passed_others : (count place : ℕ) → ((more : ℕ) → more < count → (place + more) % parts ≢ part) → rest place ≡ rest (place + count)
  passed_others zero place h = ap rest same
    where
      same : place ≡ place + 0
      same = omega arith
  passed_others (suc count) place h =
      passed_other place (subst (λ n. n % parts ≢ part) same (h 0 (omega arith)))
      ∙ passed_others count (place + 1) (λ more l. subst (λ n. n % parts ≢ part) (next more) (h (suc more) (omega (arith, l))))
      ∙ ap rest end
    where
      same : place + 0 ≡ place
      same = omega arith

      next : (more : ℕ) → place + suc more ≡ (place + 1) + more
      next more = omega arith

      end : (place + 1) + count ≡ place + suc count
      end = omega arith

  module _ (some : 1 ≤ parts) where
    -- up to the part's next place
    up_to_next : (place : ℕ) → place % parts ≡ part → rest (place + 1) ≡ rest (place + parts)
    up_to_next place is = passed_others (parts - 1) (place + 1)
        (λ more l. subst (λ n. n % parts ≢ part) (next more) (other_part parts part place (more + 1) (omega arith) (omega (arith, l)) is))
        ∙ ap rest end
      where
        next : (more : ℕ) → place + (more + 1) ≡ (place + 1) + more
        next more = omega arith

        end : (place + 1) + (parts - 1) ≡ place + parts
        end = omega (arith, some)

    pub stride_kept : (place : ℕ) → place % parts ≡ part → (place + parts) % parts ≡ part
    stride_kept place is = ap (λ n. n % parts) turned ∙ mul-add-mod_self_left parts 1 place ∙ is
      where
        turned : place + parts ≡ parts * 1 + place
        turned = omega arith

    pub begun : part < parts → rest 0 ≡ rest part
    begun h = passed_others part 0 (λ more l e. absurd (omega (arith, l, sym e ∙ mod-eq_of_lt (below more l))))
        ∙ ap rest none
      where
        below : (more : ℕ) → more < part → 0 + more < parts
        below more l = omega (arith, l, h)

        none : 0 + part ≡ part
        none = omega arith

    -- the part's next place, with a cell or without
    pub taken : (place : ℕ) (c : C) (x : Option C) → place < length cells → x ≡ get_or cells place x → x ≡ Some c → place % parts ≡ part
        → rest place ≡ (place, c) ∷ rest (place + parts)
    taken place c x l there is h =
        ap (λ l. filter (λ e. e.0 % parts == part) (numbered place l))
        (split place (Some c) l (subst (λ y. y ≡ get_or cells place y) is there))
        ∙ ap (λ t. cond t ((place, c) ∷ rest (place + 1)) (rest (place + 1))) (eq-eqb _ _ h)
        ∙ ap (λ l. (place, c) ∷ l) (up_to_next place h)

    pub left_out : (place : ℕ) (x : Option C) → place < length cells → x ≡ get_or cells place x → x ≡ None → place % parts ≡ part
        → rest place ≡ rest (place + parts)
    left_out place x l there is h = passed_empty place l (subst (λ y. y ≡ get_or cells place y) is there) ∙ up_to_next place h
