use Rattle.std.proofs.Common.{map, set, drop, sym, ap, ◌∙◌}
use Rattle.std.proofs.lemmas.List.{map-set}
use Rattle.mr_merge.proofs.Order.{seen_at}
use Rattle.mr_merge.proofs.merge.take_first.Goals as goal

pub returns-clause-rest : goal.returns-clause-rest
returns-clause-rest g c =
    map-set (λ q. q.items) c.args.queues.now c.args.number c.pop_front.new.self
    ∙ ap (set (map (λ q. q.items) c.args.queues.now) c.args.number)
    (c.pop_front.ensures.rest ∙ ap (λ q. drop 1 q.items) (sym c.index-queues-number.is) ∙ ap (drop 1)
    (seen_at (λ q. q.items) c.args.queues.now c.args.number c.index-queues-number.result c.requires.inside c.index-queues-number.is))
