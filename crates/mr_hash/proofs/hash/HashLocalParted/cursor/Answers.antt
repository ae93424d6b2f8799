use Rattle.std.proofs.Common.{◌%◌, subst, arith}
use Rattle.std.specs.FinMap.{find}
use Rattle.mr_container.specs.Partition.{IsPartition}
use Rattle.mr_hash.specs.Pairs.{pairs_of}
use Rattle.mr_hash.proofs.Whole.{passed_to, whole_part}
use Rattle.mr_hash.proofs.hash.HashLocalParted.cursor.Goals as goal

pub returns-clause-all : goal.returns-clause-all
returns-clause-all g c =
    let table = c.args.self.now.table in
    let entries = table.entries.items in
    subst
    (IsPartition g.K.Ord.cmp (λ k. find g.K.Ord.cmp k (pairs_of entries)) (λ k. g.K.Key.hash_of k % g.row.N % c.args.parts) c.args.part)
    (passed_to g.K.Key.hash_of g.row.N c.args.parts c.args.part entries table.buckets.items table.in_buckets 0 c.first_place.result
    (omega arith) (λ place l a b. c.first_place.ensures place l b))
    (whole_part g.met.K.Key.only_equal_tie (λ k. g.K.Key.hash_of k % g.row.N % c.args.parts) c.args.part entries table.distinct)
