-- What a local over the array stands for, it stands for in any order.
use Rattle.std.specs.Prelude.{ℕ, Bool, List}
use Rattle.std.specs.List.Sorted.{IsPermutation}
use Rattle.std.specs.declared.cmp.Ordering.{Ordering}
use Rattle.std.specs.Cmp.{IsTotalOrder}
use Rattle.std.specs.FinMap.{IsAntisymmetric}
use Rattle.std.proofs.Common.{◌∙◌, slice_index_or}
use Rattle.std.proofs.lemmas.List.Sorted.{Contains-permutation, length_permutation}
use Rattle.mr_defs.specs.Emission.{Emission, Pair}
use Rattle.mr_defs.specs.Faulty.{Noted}
use Rattle.mr_defs.specs.Keyed.{at}
use Rattle.mr_defs.specs.Stands.{SharesFor}
use Rattle.mr_defs.proofs.Shuffled.{IsPermutation-at}
use Rattle.mr_container.specs.Laws.{noted_in_any_order}

module _ {K V : Type 0} {R : K → K → Ordering} (o : IsTotalOrder R) (one : IsAntisymmetric R) (inside : K → Bool) where
  pub shares_in_any_order : (won : List (K × V)) (refused : List K) (cells : ℕ) (noted : Noted K) (es fs : List (Emission K V))
      → IsPermutation es fs
      → SharesFor R inside won refused cells noted es → SharesFor R inside won refused cells noted fs
  shares_in_any_order won refused cells noted es fs p was = record {
    pairs = λ i d lt. Contains-permutation es fs (Pair (slice_index_or won i d).0 (slice_index_or won i d).1) p (was.pairs i d lt);
    counts = λ k h. length_permutation (at R es k) (at R fs k) (IsPermutation-at R es fs k p) ∙ was.counts k h;
    count = was.count;
    faults = noted_in_any_order o one inside noted es fs p was.faults;
    twice = was.twice;
  }
