-- What the values of a key fold to, by the kinds of combiner and reducer.
use Rattle.std.specs.Prelude.{ℤ, List, Option, Some, None}
use Rattle.mr_defs.specs.Emission.{Answer}
use Rattle.mr_defs.specs.Folded.{sum_folded, min_folded, max_folded, one_folded, count_folded, and_folded, or_folded, xor_folded}
use Rattle.mr_defs.specs.Folded.{minmax_folded, sumcount_folded, list_folded, median_folded, distinct_folded, once_folded}
use Rattle.mr_capacity.specs.declared.kinds.CombinerKind.{CombinerKind}
use Rattle.mr_capacity.specs.declared.kinds.CombinerKind.TheVariants as combiner
use Rattle.mr_capacity.specs.declared.kinds.ReducerKind.{ReducerKind}
use Rattle.mr_capacity.specs.declared.kinds.ReducerKind.TheVariants as reducer

-- what a buffer's values reduce to; without a reducer there is no answer
abbrev pub reduced : Option ReducerKind → List ℤ → Option Answer
reduced None vs = None
reduced (Some reducer.List) vs = list_folded vs
reduced (Some reducer.Median) vs = median_folded vs
reduced (Some reducer.Distinct) vs = distinct_folded vs

-- of whole numbers. VecSum adds points, and its line is vecsum_folded of mr_defs: no whole number has an answer under it
abbrev pub folded : CombinerKind → Option ReducerKind → List ℤ → Option Answer
folded combiner.Sum _ vs = sum_folded vs
folded combiner.Min _ vs = min_folded vs
folded combiner.Max _ vs = max_folded vs
folded combiner.One _ vs = one_folded vs
folded combiner.Count _ vs = count_folded vs
folded combiner.And _ vs = and_folded vs
folded combiner.Or _ vs = or_folded vs
folded combiner.Xor _ vs = xor_folded vs
folded combiner.MinMax _ vs = minmax_folded vs
folded combiner.SumCount _ vs = sumcount_folded vs
folded combiner.VecSum _ vs = None
folded combiner.Buffer r vs = reduced r vs
folded combiner.Once _ vs = once_folded vs
