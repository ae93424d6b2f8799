use Rattle.std.proofs.Common.{◌≡◌, sym, ◌∙◌}
use Rattle.std.proofs.lemmas.List.{map-id}
use Rattle.std.proofs.lemmas.Iterator.Consumers.{YieldsList-end}
use Rattle.std.proofs.lemmas.Iterator.Adapters.{YieldsList-from_vec}
use Rattle.mr_merge.proofs.ranges.values_of.Goals as goal

pub returns : goal.returns
returns g c =
    let b = c.into_iter-result-iterator.ensures.into_iter_gives in
    let t = YieldsList-end (YieldsList-from_vec {s = c.into_iter-result-iterator.result} c.args.results.items b.0
    (b.1 ∙ c.args.results.ok.0)) c.loop-result.yielded c.loop-result.result-iterator c.loop-result.yielded_by c.next.result c.next.new.self
    c.in-None.is c.next.ensures.steps in
    let all : c.loop-result.yielded ≡ c.args.results.items = sym (map-id c.loop-result.yielded) ∙ t.0 in
    sym all ∙ c.loop-result.invariant
