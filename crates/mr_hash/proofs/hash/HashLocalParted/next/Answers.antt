use Rattle.std.proofs.Common.{◌≡◌, ◌+◌, ◌%◌, ◌<◌, ◌∷◌, ◌∙◌, ap, sym, subst, arith, drop, length, map, get_or}
use Rattle.std.proofs.lemmas.Grind.{get_or_default_zero}
use Rattle.std.proofs.lemmas.List.{length-map}
use Rattle.mr_hash.specs.Pairs.{pairs_of, keys_of}
use Rattle.mr_hash.specs.Buckets.{of_partition}
use Rattle.mr_hash.proofs.Whole.{entry_passed, entry_taken, passed_to}
use Rattle.mr_hash.proofs.hash.HashLocalParted.next.Goals.{After-index}
use Rattle.mr_hash.proofs.hash.HashLocalParted.next.Goals as goal

pub returns-then-index-cursor-clause-entry : goal.returns-then-index-cursor-clause-entry
returns-then-index-cursor-clause-entry g c =
    let table = c.args.self.now.table in
    let kept = c.loop-cursor.invariant in
    let at = c.loop-cursor.cursor in
    let hash_of = g.K.Key.hash_of in
    let short : at.place < length table.buckets.items = omega (arith, c.loop-cursor-test.true, c.len.ensures, table.buckets.ok.0) in
    let lengths : length table.buckets.items ≡ length table.entries.items = ap length table.in_buckets
    ∙ length-map (keys_of table.entries.items) (λ k. hash_of k % g.row.N) ∙ length-map table.entries.items (λ e. e.key) in
    let within : at.place < length table.entries.items = subst (λ n. at.place < n) lengths short in
    let bucket : c.index.result.now ≡ get_or (map (λ k. hash_of k % g.row.N) (keys_of table.entries.items)) at.place 0 = c.index.ensures
    ∙ get_or_default_zero table.buckets.items at.place c.index.result.now short ∙ ap (λ l. get_or l at.place 0) table.in_buckets in
    kept.left
    ∙ entry_taken hash_of g.row.N c.args.cursor.now.parts c.args.cursor.now.part table.entries.items at.place c.index-entry.result.now
    within c.index-entry.ensures
    (ap (λ b. b % c.args.cursor.now.parts) (sym bucket) ∙ ap (λ q. c.index.result.now % q) (sym kept.parts) ∙ c.if-index-cursor.true
    ∙ kept.part)
    ∙ ap (λ l. (c.index-entry.result.now.key, c.index-entry.result.now.cell) ∷ l)
    (passed_to hash_of g.row.N c.args.cursor.now.parts c.args.cursor.now.part table.entries.items table.buckets.items table.in_buckets
    (at.place + 1) c.place_after-cursor.result (omega (arith, c.place_after-cursor.ensures.later))
    (λ place l a b h. c.place_after-cursor.ensures.passed place l (omega (arith, a)) b
    (ap (λ q. get_or table.buckets.items place 0 % q) kept.parts ∙ h ∙ sym kept.part ∙ sym c.if-index-cursor.true
    ∙ ap (λ n. n % at.parts) (c.index.ensures ∙ get_or_default_zero table.buckets.items at.place c.index.result.now short))))
    ∙ (λ i. (c.index-entry.result.now.key, c.index-entry.result.now.cell)
    ∷ of_partition hash_of g.row.N (sym kept.parts i) (sym kept.part i) (drop c.place_after-cursor.result (pairs_of table.entries.items)))

pub loop-cursor-preserved : goal.loop-cursor-preserved
loop-cursor-preserved g c =
    let table = c.args.self.now.table in
    let kept = c.loop-cursor.invariant in
    let at = c.loop-cursor.cursor in
    let hash_of = g.K.Key.hash_of in
    let short : at.place < length table.buckets.items = omega (arith, c.loop-cursor-test.true, c.len.ensures, table.buckets.ok.0) in
    let lengths : length table.buckets.items ≡ length table.entries.items = ap length table.in_buckets
    ∙ length-map (keys_of table.entries.items) (λ k. hash_of k % g.row.N) ∙ length-map table.entries.items (λ e. e.key) in
    let within : at.place < length table.entries.items = subst (λ n. at.place < n) lengths short in
    let bucket : c.index.result.now ≡ get_or (map (λ k. hash_of k % g.row.N) (keys_of table.entries.items)) at.place 0 = c.index.ensures
    ∙ get_or_default_zero table.buckets.items at.place c.index.result.now short ∙ ap (λ l. get_or l at.place 0) table.in_buckets in
    record {
      part = kept.part;
      parts = kept.parts;
      some = kept.some;
      left = kept.left
          ∙ entry_passed hash_of g.row.N c.args.cursor.now.parts c.args.cursor.now.part table.entries.items at.place within
          (λ h. c.if-index-cursor.false
          (ap (λ q. c.index.result.now % q) kept.parts ∙ ap (λ b. b % c.args.cursor.now.parts) bucket ∙ h ∙ sym kept.part));
    }
