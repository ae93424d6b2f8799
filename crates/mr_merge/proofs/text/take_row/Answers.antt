use Rattle.std.proofs.Common.{map, set, drop, sym, ap, ◌∙◌}
use Rattle.std.proofs.lemmas.List.{map-set}
use Rattle.mr_merge.proofs.Order.{seen_at}
use Rattle.mr_merge.proofs.text.take_row.Goals as goal

pub returns-clause-rest : goal.returns-clause-rest
returns-clause-rest g c =
    map-set (λ q. q.now) c.args.lists.now c.args.number c.in-Some.rest
    ∙ ap (set (map (λ q. q.now) c.args.lists.now) c.args.number)
    (sym (ap (drop 1) c.in-Some.ensures.cases.0) ∙ ap (drop 1)
    (seen_at (λ q. q.now) c.args.lists.now c.args.number c.index-lists-number.result c.requires.inside c.index-lists-number.is))
