use Rattle.mr_hash.proofs.Whole.{emitted_ok}
use Rattle.mr_hash.proofs.hash.HashLocalNear.emit_near.Goals as goal

pub returns-clause-ok : goal.returns-clause-ok
returns-clause-ok g c =
    emitted_ok g.met.K.Ord.total g.met.K.Key.only_equal_tie g.C.Combiner.unit_of g.met.C.Combiner.laws
    _ c.args.self.now.table.entries.items c.emit.new.self.entries.items c.args.key c.args.value c.emit.result c.emit.ensures.cells
    c.emit.ensures.len
