use Rattle.std.proofs.Common.{true}
use Rattle.mr_container.proofs.Emitted.{after_malformed}
use Rattle.mr_hash.proofs.hash.HashLocalLocal.malformed.Goals as goal

pub returns-clause-stands : goal.returns-clause-stands
returns-clause-stands g c es was = rw (c.keep_lesser.ensures, c.deref_mut.ensures.value)
    (after_malformed g.met.K.Ord.total g.met.K.Key.only_equal_tie
    (λ _. true) g.C.Combiner.unit_of g.met.C.Combiner.laws _ _ _ es was c.args.offset)
