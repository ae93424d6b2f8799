use Rattle.std.proofs.Common.{refl}
use Rattle.mr_outside.proofs.Entries.{IsAt-push, contents_of-push, name_at-push}
use Rattle.mr_outside.proofs.memory_shelf.MemoryShelf.add_repeated.Goals as goal

pub invariant_of-self-2 : goal.invariant_of-self-2
invariant_of-self-2 c = (c.self.invariant.0, rw c.in_ok-push.ensures.items (IsAt-push _ _ _ _ c.self.invariant.1))

pub returns-clause-ok : goal.returns-clause-ok
returns-clause-ok c =
    rw (← c.self.view_is, c.in_ok-push.ensures.items, contents_of-push, name_at-push _ _ _ _ c.self.invariant.1, c.in_ok-name.ensures) refl
