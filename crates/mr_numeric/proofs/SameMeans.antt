-- Means that compare alike are the same.
use Rattle.std.proofs.Common.{◌≡◌, Bool, true, List, [], ◌∷◌, refl, sym, ap, ap₂, ◌∙◌}
use Rattle.std.specs.Bool.{Decides}
use Rattle.std.specs.Cmp.Lexicographic.{slice_cmp}
use Rattle.std.specs.declared.cmp.Ordering.{Ordering}
use Rattle.std.specs.declared.cmp.Ordering.TheVariants.{Less, Equal, Greater}
use Rattle.std.specs.Ordering.{int_cmp, is_eq, ordering_then}
use Rattle.std.proofs.lemmas.Bool.Decides.{same_from_decides}
use Rattle.std.proofs.lemmas.Cmp.{int_cmp_total, lists_total, tied_itself}
use Rattle.std.proofs.lemmas.Map.Lookups.{CmpEqualImpliesEq, exact_signed}
use Rattle.mr_items.specs.KMeans.{Point, means_eq}

exact_lists : {A : Type 0} (R : A → A → Ordering) → CmpEqualImpliesEq R → CmpEqualImpliesEq (slice_cmp R)
exact_lists R exact [] [] e = refl
exact_lists R exact [] (y ∷ ys) e = absurd (cc)
exact_lists R exact (x ∷ xs) [] e = absurd (cc)
exact_lists R exact (x ∷ xs) (y ∷ ys) e = by (R x y) refl (exact_lists R exact xs ys) e
  where
    by : (o : Ordering) → R x y ≡ o → (slice_cmp R xs ys ≡ Equal → xs ≡ ys) → ordering_then o (slice_cmp R xs ys) ≡ Equal → x ∷ xs ≡ y ∷ ys
    by Less h rest k = absurd (cc)
    by Equal h rest k = ap₂ (λ a b. a ∷ b) (exact x y h) (rest k)
    by Greater h rest k = absurd (cc)

equal_from_is_eq : (o : Ordering) → is_eq o ≡ true → o ≡ Equal
equal_from_is_eq Less e = absurd (cc)
equal_from_is_eq Equal e = refl
equal_from_is_eq Greater e = absurd (cc)

means_eq_decides : (xs ys : List Point) → Decides (means_eq xs ys) (xs ≡ ys)
means_eq_decides xs ys = (
  (λ e. exact_lists (slice_cmp int_cmp) (exact_lists int_cmp exact_signed) xs ys (equal_from_is_eq _ e)),
  (λ same. ap (means_eq xs) (sym same) ∙ ap is_eq (tied_itself (lists_total (lists_total int_cmp_total)) xs)),
)

-- so any test of that is this one
pub means_eq_is : (xs ys : List Point) (r : Bool) → Decides r (xs ≡ ys) → r ≡ means_eq xs ys
means_eq_is xs ys r h = same_from_decides r (means_eq xs ys) h (means_eq_decides xs ys)
