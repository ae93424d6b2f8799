use Rattle.std.proofs.Common.{◌∙◌, subst, arith, length, map}
use Rattle.mr_hash.specs.Pairs.{keys_of}
use Rattle.mr_hash.specs.Slots.{Indexed}
use Rattle.mr_hash.proofs.Finding.{absent, content}
use Rattle.mr_hash.proofs.table.Table.search.Goals as goal

pub returns-then-word-eq0-clause-place : goal.returns-then-word-eq0-clause-place
returns-then-word-eq0-clause-place g c =
    let table = c.args.self.now in
    absent g.met.K.Key.only_equal_tie g.K.Key.code_of table.entries.items c.args.key.now c.code-code.result c.code-code.ensures
    (length table.index.items) table.shift table.index.items c.loop-distance.distance c.loop-distance.invariant
    (subst (λ n. Indexed n table.shift table.index.items (map g.K.Key.code_of (keys_of table.entries.items))) table.index.ok.0 table.found)
    (omega (arith, c.loop-distance-test.true, c.len-size.ensures, table.index.ok.0))
    (λ _. content table.shift table.index.items _ c.code-code.result c.loop-distance.distance _ _ c.slot_at.ensures.slot
    (c.len-size.ensures ∙ table.index.ok.0) c.slot_at.ensures.within c.index-word.ensures ∙ c.if-word-eq0.true)

pub returns-clause-place : goal.returns-clause-place
returns-clause-place g c =
    let table = c.args.self.now in
    absent g.met.K.Key.only_equal_tie g.K.Key.code_of table.entries.items c.args.key.now c.code-code.result c.code-code.ensures
    (length table.index.items) table.shift table.index.items c.loop-distance.distance c.loop-distance.invariant
    (subst (λ n. Indexed n table.shift table.index.items (map g.K.Key.code_of (keys_of table.entries.items))) table.index.ok.0 table.found)
    (omega (arith, c.loop-distance.auto.distance-end, c.len-size.ensures, table.index.ok.0))
    (λ short. absurd (omega (arith, short, c.loop-distance-test.false, c.len-size.ensures, table.index.ok.0)))
