use Rattle.std.proofs.Common.{subst, sym}
use Rattle.mr_top.specs.Means.{Tells, Says}
use Rattle.mr_top.proofs.Ends.{halt_tells}
use Rattle.mr_top.proofs.Said.{said}
use Rattle.mr_top.proofs.running.run.Goals as goal

pub returns-in-Err-clause-lines : goal.returns-in-Err-clause-lines
returns-in-Err-clause-lines g c =
    subst (λ s. Tells s (g.H.Shelf.contents c.args.shelf.now) c.args.words.now (g.E.Sink.held c.args.err.now)
    (g.E.Sink.held c.put_all.new.out) (g.E.Sink.count c.args.err.now) (g.E.Sink.count c.put_all.new.out)) (sym c.status.ensures)
    (halt_tells _ c.args.words.now _ _ _ _ c.in-Err.halt _ _ c.in-Err.ensures.err c.in-Err.ensures.behind
    (subst (λ line. Says line (g.E.Sink.held c.args.err.now) (g.E.Sink.held c.put_all.new.out) (g.E.Sink.count c.args.err.now)
    (g.E.Sink.count c.put_all.new.out)) c.line.ensures
    (said c.put_all.result _ _ _ _ _ c.put_all.ensures.whole c.put_all.ensures.part c.put_all.ensures.cause)))
