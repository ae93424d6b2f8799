use Rattle.std.proofs.Common.{◌≡◌, sym, ap, ◌∙◌}
use Rattle.std.proofs.lemmas.List.{map-id}
use Rattle.std.proofs.lemmas.Iterator.Consumers.{YieldsList-end}
use Rattle.std.proofs.lemmas.Iterator.Adapters.{YieldsList-from_vec}
use Rattle.mr_merge.specs.Lists.{rows_of}
use Rattle.mr_merge.proofs.ranges.appended.Goals as goal

pub returns : goal.returns
returns g c =
    let b = c.into_iter-list-iterator.ensures.into_iter_gives in
    let t = YieldsList-end (YieldsList-from_vec {s = c.into_iter-list-iterator.result} c.args.lists.items b.0
    (b.1 ∙ c.args.lists.ok.0)) c.loop-list.yielded c.loop-list.list-iterator c.loop-list.yielded_by c.next.result c.next.new.self
    c.in-None.is c.next.ensures.steps in
    let all : c.loop-list.yielded ≡ c.args.lists.items = sym (map-id c.loop-list.yielded) ∙ t.0 in
    c.loop-list.invariant ∙ ap rows_of all
