use Rattle.std.proofs.Common.{[], sym, subst}
use Rattle.mr_phase.specs.Taking.{AreTakenOf}
use Rattle.mr_phase.proofs.InTurn.{none_taken}
use Rattle.mr_phase.proofs.ahead.Ahead.of.Goals as goal

pub returns-clause-taken : goal.returns-clause-taken
returns-clause-taken g c =
    let words = c.in_ok-words.words.items in
    let known = c.in_ok-words.ensures in
    subst (AreTakenOf g.K.Ord.cmp c.args.entries.items [] words 0) (sym c.new.ensures.items)
    (subst (λ l. AreTakenOf g.K.Ord.cmp l [] words 0 []) c.deref.ensures.value
    (none_taken g.met.K.Ord.total c.deref.result.now words known.fronts known.rise known.all))
