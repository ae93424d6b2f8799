use Rattle.std.proofs.Common.{◌++◌, ◌∷◌, [], sym, ap, ◌∙◌}
use Rattle.std.proofs.lemmas.List.{map-append}
use Rattle.mr_defs.specs.Commutative.{joined, joined_by}
use Rattle.mr_defs.specs.CommutativeLaws.{joined-assoc, joined_by-push}
use Rattle.mr_defs.specs.Keyed.{lesser}
use Rattle.mr_defs.proofs.Lesser.{lesser_commutative}
use Rattle.mr_phase.proofs.together.collect.Goals as goal

pub loop-partition-preserved : goal.loop-partition-preserved
loop-partition-preserved g c =
    let laws = lesser_commutative g.met.K.Ord.total g.met.K.Key.only_equal_tie in
    let p = c.in-Some.partition in
    let i = c.loop-partition.invariant in
    record {
      lists = c.push.ensures.items ∙ ap (λ l. l ++ p.rows ∷ []) (c.in_ok-room.ensures.items ∙ i.lists)
          ∙ sym (map-append (λ p. p.rows) c.loop-partition.yielded (p ∷ []));
      malformed = i.malformed;
      outside = i.outside;
      twice = i.twice;
      over = c.keep_lesser.ensures
          ∙ ap (λ f. joined (lesser g.K.Ord.cmp) f p.over) i.over
          ∙ joined-assoc laws c.args.faults.over (joined_by (lesser g.K.Ord.cmp) (λ p. p.over) c.loop-partition.yielded) p.over
          ∙ ap (joined (lesser g.K.Ord.cmp) c.args.faults.over) (sym (joined_by-push laws (λ p. p.over) c.loop-partition.yielded p));
    }
