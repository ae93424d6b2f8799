use Rattle.std.proofs.Common.{rules}
use Rattle.std.proofs.lemmas.Fn.{always_returns_same}
use Rattle.mr_container.proofs.Places.{searched, comparisons_rise}
use Rattle.mr_container.proofs.sorted.SortedLocal.search.Goals as goal

pub returns-clause-found : goal.returns-clause-found
returns-clause-found g c =
    let facts = c.binary_search_by.ensures in
    let position = facts.position (λ e. g.K.Ord.cmp e.0 c.args.key.now) (always_returns_same _ _ _ (λ a r f called. search rules)) in
    (searched (λ e. g.K.Ord.cmp e.0 c.args.key.now) _ (comparisons_rise g.met.K.Ord.total _ c.args.key.now c.args.self.now.ascending)
    _ (rw c.deref.ensures.value at position)).0

pub returns-clause-absent : goal.returns-clause-absent
returns-clause-absent g c =
    let facts = c.binary_search_by.ensures in
    let position = facts.position (λ e. g.K.Ord.cmp e.0 c.args.key.now) (always_returns_same _ _ _ (λ a r f called. search rules)) in
    (searched (λ e. g.K.Ord.cmp e.0 c.args.key.now) _ (comparisons_rise g.met.K.Ord.total _ c.args.key.now c.args.self.now.ascending)
    _ (rw c.deref.ensures.value at position)).1
