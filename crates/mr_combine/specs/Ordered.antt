-- Values that are kept and put in order.
use Rattle.std.specs.Prelude.{◌≡◌, ◌-◌, ◌/◌, true, false, if◌then◌else◌, ℤ, pos, List, [], ◌∷◌, ◌++◌, fold, length, get_or, Option, Some}
use Rattle.std.specs.declared.cmp.Ordering.{Ordering}
use Rattle.std.specs.Ordering.{is_gt, int_cmp}
use Rattle.std.specs.Cmp.{IsTotalOrder, int_cmp_total}
use Rattle.std.specs.FinMap.{IsAntisymmetric, int_cmp-IsAntisymmetric}
use Rattle.std.specs.List.Sorted.{IsPermutation}
use Rattle.std.proofs.Common.{refl, sym, ap, subst, ◌∙◌, append_assoc}
use Rattle.std.proofs.lemmas.List.Sorted.{IsPermutation-refl, IsPermutation-trans, IsPermutation-cons, IsPermutation-insert}
use Rattle.std.proofs.lemmas.List.Sorted.{IsPermutation-append_left, IsPermutation-append_right, IsPermutation-append_comm}
use Rattle.std.proofs.lemmas.List.Sorted.{length_permutation}
use Rattle.mr_defs.specs.Commutative.{IsCommutative}
use Rattle.mr_defs.specs.Emission.{Answer}
use Rattle.mr_defs.specs.Folded.{in_order, put_in_order, list_folded, distinct_folded, median_folded}
use Rattle.mr_defs.specs.Keyed.{ascending}
use Rattle.mr_defs.proofs.Folds.{IsOrderFree}
use Rattle.mr_defs.proofs.InOrder.{put_in_order_free}
use Rattle.mr_defs.proofs.Ascending.{ascending-IsPermutation}
use Rattle.mr_defs.proofs.FoldLaws.{in_order-IsPermutation}
use Rattle.mr_combine.specs.Cells.{IsTotal, total_is_fold}
use Rattle.mr_combine.specs.Fold.{IsFoldOf}
use Rattle.mr_combine.specs.Joining.{never}

fold_first : {A X : Type 0} (f : A → X → A) (free : IsOrderFree f) (a : A) (x : X) (xs : List X) → fold f (f a x) xs ≡ f (fold f a xs) x
fold_first f free a x [] = refl
fold_first f free a x (y ∷ ys) = ap (λ b. fold f b ys) (free a x y) ∙ fold_first f free (f a y) x ys

module _ {A : Type 0} (R : A → A → Ordering) (o : IsTotalOrder R) (one : IsAntisymmetric R) where
  pub in_order_next : (k : A) (xs : List A) → fold (put_in_order R) [] (k ∷ xs) ≡ put_in_order R (fold (put_in_order R) [] xs) k
  in_order_next k xs = fold_first (put_in_order R) (put_in_order_free R o one) [] k xs

  put_permutes : (l : List A) (v : A) → IsPermutation (v ∷ l) (put_in_order R l v)
  put_permutes [] v = IsPermutation-refl (v ∷ [])
  put_permutes (x ∷ xs) v = elim (is_gt (R v x)) as (λ b. IsPermutation (v ∷ x ∷ xs) (if b then x ∷ put_in_order R xs v else v ∷ x ∷ xs)) [
    | true ↦ IsPermutation-trans (v ∷ x ∷ xs) (x ∷ v ∷ xs) (x ∷ put_in_order R xs v)
        (IsPermutation-insert (x ∷ xs) 1 v) (IsPermutation-cons x (v ∷ xs) (put_in_order R xs v) (put_permutes xs v))
    | false ↦ IsPermutation-refl (v ∷ x ∷ xs)
  ]

  pub in_order_permutes : (xs : List A) → IsPermutation xs (fold (put_in_order R) [] xs)
  in_order_permutes [] = IsPermutation-refl []
  in_order_permutes (x ∷ xs) =
      let rest : List A = fold (put_in_order R) [] xs in
      subst (IsPermutation (x ∷ xs)) (sym (in_order_next x xs))
      (IsPermutation-trans (x ∷ xs) (x ∷ rest) (put_in_order R rest x) (IsPermutation-cons x xs rest (in_order_permutes xs))
      (put_permutes rest x))

-- the values of a cell in order: of one value, and of two cells
abbrev pub buffer_unit : ℤ → List ℤ
buffer_unit v = v ∷ []

abbrev pub buffer_merged : List ℤ → List ℤ → List ℤ
buffer_merged xs ys = in_order (xs ++ ys)

permuted : (xs : List ℤ) → IsPermutation xs (in_order xs)
permuted xs = in_order_permutes int_cmp int_cmp_total int_cmp-IsAntisymmetric xs

-- values that are put in order beforehand
pub left_in_order : (xs ys : List ℤ) → in_order (in_order xs ++ ys) ≡ in_order (xs ++ ys)
left_in_order xs ys = in_order-IsPermutation (xs ++ ys) (in_order xs ++ ys) (IsPermutation-append_left ys xs (in_order xs) (permuted xs))

pub right_in_order : (xs ys : List ℤ) → in_order (xs ++ in_order ys) ≡ in_order (xs ++ ys)
right_in_order xs ys = in_order-IsPermutation (xs ++ ys) (xs ++ in_order ys) (IsPermutation-append_right xs ys (in_order ys) (permuted ys))

pub buffer_commutative : IsCommutative buffer_merged
buffer_commutative = record {
  comm = λ xs ys. in_order-IsPermutation (ys ++ xs) (xs ++ ys) (IsPermutation-append_comm ys xs);
  assoc = λ xs ys zs. left_in_order (xs ++ ys) zs ∙ ap in_order (append_assoc xs ys zs) ∙ sym (right_in_order xs (ys ++ zs));
}

pub both_in_order : (xs ys : List ℤ) → buffer_merged (in_order xs) (in_order ys) ≡ in_order (xs ++ ys)
both_in_order xs ys = left_in_order xs (in_order ys) ∙ right_in_order xs ys

values_total : IsTotal {V = ℤ} {A = List ℤ} ◌++◌ (λ v. v ∷ []) (λ vs. vs)
values_total = record { one = λ v. refl; more = λ v vs. refl }

buffer_is_fold : (answer : List ℤ → Answer) (folded : List ℤ → Option Answer)
    → ((vs : List ℤ) → folded vs ≡ Some (answer (in_order vs))) → IsFoldOf buffer_unit buffer_merged never answer folded
buffer_is_fold answer folded is =
    total_is_fold ◌++◌ buffer_unit buffer_merged buffer_unit in_order (λ v. refl) both_in_order
    (λ vs. vs) values_total never answer folded is

abbrev pub list_answer : List ℤ → Answer
list_answer vs = vs

pub list_is_fold : IsFoldOf buffer_unit buffer_merged never list_answer list_folded
list_is_fold = buffer_is_fold list_answer list_folded (λ vs. refl)

abbrev pub distinct_answer : List ℤ → Answer
distinct_answer vs = ascending int_cmp vs

pub distinct_is_fold : IsFoldOf buffer_unit buffer_merged never distinct_answer distinct_folded
distinct_is_fold =
    buffer_is_fold distinct_answer distinct_folded
    (λ vs. ap Some (sym (ascending-IsPermutation int_cmp int_cmp_total int_cmp-IsAntisymmetric vs (in_order vs) (permuted vs))))

abbrev pub median_answer : List ℤ → Answer
median_answer vs = get_or vs ((length vs - 1) / 2) (pos 0) ∷ []

pub median_is_fold : IsFoldOf buffer_unit buffer_merged never median_answer median_folded
median_is_fold =
    buffer_is_fold median_answer median_folded
    (λ vs. ap (λ n. Some (get_or (in_order vs) ((n - 1) / 2) (pos 0) ∷ [])) (sym (length_permutation vs (in_order vs) (permuted vs))))
