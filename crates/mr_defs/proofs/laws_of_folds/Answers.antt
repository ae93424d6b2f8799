use Rattle.mr_defs.specs.Folded.{min_folded, max_folded, sum_folded, count_folded, limit}
use Rattle.mr_defs.proofs.FoldLaws.{sum_up_to_free, min_folded_free, max_folded_free, one_folded_free, count_folded_free, and_folded_free}
use Rattle.mr_defs.proofs.FoldLaws.{or_folded_free, xor_folded_free, both_folded_free, vecsum_folded_free, list_folded_free}
use Rattle.mr_defs.proofs.FoldLaws.{distinct_folded_free, median_folded_free}
use Rattle.mr_defs.proofs.laws_of_folds.Goals as goal

pub returns-clause-sum : goal.returns-clause-sum
returns-clause-sum c = sum_up_to_free limit

pub returns-clause-min : goal.returns-clause-min
returns-clause-min c = min_folded_free

pub returns-clause-max : goal.returns-clause-max
returns-clause-max c = max_folded_free

pub returns-clause-one : goal.returns-clause-one
returns-clause-one c = one_folded_free

pub returns-clause-count : goal.returns-clause-count
returns-clause-count c = count_folded_free

pub returns-clause-and : goal.returns-clause-and
returns-clause-and c = and_folded_free

pub returns-clause-or : goal.returns-clause-or
returns-clause-or c = or_folded_free

pub returns-clause-xor : goal.returns-clause-xor
returns-clause-xor c = xor_folded_free

pub returns-clause-minmax : goal.returns-clause-minmax
returns-clause-minmax c = both_folded_free min_folded max_folded min_folded_free max_folded_free

pub returns-clause-sumcount : goal.returns-clause-sumcount
returns-clause-sumcount c = both_folded_free sum_folded count_folded (sum_up_to_free limit) count_folded_free

pub returns-clause-vecsum : goal.returns-clause-vecsum
returns-clause-vecsum c = vecsum_folded_free

pub returns-clause-list : goal.returns-clause-list
returns-clause-list c = list_folded_free

pub returns-clause-distinct : goal.returns-clause-distinct
returns-clause-distinct c = distinct_folded_free

pub returns-clause-median : goal.returns-clause-median
returns-clause-median c = median_folded_free
