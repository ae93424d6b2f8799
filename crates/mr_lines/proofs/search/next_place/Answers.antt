use Rattle.std.proofs.Common.{subst}
use Rattle.std.specs.Prelude.{slice_range}
use Rattle.bstr.specs.Find.{FindsNeedle}
use Rattle.mr_lines.proofs.Searching.{found, found_none}
use Rattle.mr_lines.proofs.search.next_place.Goals as goal

pub returns-in-Some-clause-next : goal.returns-in-Some-clause-next
returns-in-Some-clause-next c =
    found c.args.text.now c.args.finder.now c.args.stop c.args.from c.requires.order c.requires.inside c.in-Some.place
    (subst (FindsNeedle (slice_range c.args.text.now c.args.from c.args.stop) c.args.finder.now 0) c.in-Some.is c.find.ensures)

pub returns-in-None-clause-next : goal.returns-in-None-clause-next
returns-in-None-clause-next c =
    found_none c.args.text.now c.args.finder.now c.args.stop c.args.from c.requires.order c.requires.inside
    (subst (FindsNeedle (slice_range c.args.text.now c.args.from c.args.stop) c.args.finder.now 0) c.in-None.is c.find.ensures)
