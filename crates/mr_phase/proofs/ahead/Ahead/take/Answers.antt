use Rattle.std.proofs.Common.{◌≡◌, ap, arith, length, subst}
use Rattle.std.specs.Prelude.{All}
use Rattle.std.proofs.lemmas.List.Elements.{All-tail}
use Rattle.mr_phase.specs.Taking.{AreTakenOf}
use Rattle.mr_phase.proofs.InTurn.{all_taken, emptied, one_taken, unchanged}
use Rattle.mr_phase.proofs.ahead.Ahead.take.Goals as goal

pub returns-in-Some-clause-ahead : goal.returns-in-Some-clause-ahead
returns-in-Some-clause-ahead g c =
    record {
      inside = c.requires.inside;
      some = c.requires.some;
      leads = All-tail (λ e. e.0 ≡ g.K.Key.lead_of e.1.now) c.in-Some.entry c.pop_front.new.self.items
          (subst (All (λ e. e.0 ≡ g.K.Key.lead_of e.1.now)) c.in-Some.ensures.items c.requires.leads);
    }

pub returns-in-Some-clause-taken : goal.returns-in-Some-clause-taken
returns-in-Some-clause-taken g c taken t =
    let self = c.args.self.now in
    one_taken g.met.K.Ord.total self.entries.items taken self.words.items self.read c.in-Some.entry self.near.items
    c.pop_front.new.self.items c.in-Some.ensures.items t

pub returns-then-self-as_slice-clause-taken : goal.returns-then-self-as_slice-clause-taken
returns-then-self-as_slice-clause-taken g c taken t =
    let self = c.args.self.now in
    let none = emptied self.near.items c.pop_front.new.self.items
    (unchanged self.near.items c.pop_front.new.self.items c.pop_front.result c.in_default.is c.pop_front.ensures.items)
    c.pop_front.ensures.rest in
    let n = ap length c.as_slice.ensures.value in
    all_taken g.met.K.Ord.total self.entries.items taken self.words.items self.read
    (let end = c.if-self-as_slice.true in omega (arith, n, end))
    (subst (AreTakenOf g.K.Ord.cmp self.entries.items taken self.words.items self.read) none t)

pub returns-clause-ahead : goal.returns-clause-ahead
returns-clause-ahead g c =
    let ahead = c.in_ok-look_ahead.ensures.ahead in
    record {
      inside = ahead.inside;
      some = ahead.some;
      leads = All-tail (λ e. e.0 ≡ g.K.Key.lead_of e.1.now) c.in-Some-pop_front.entry c.pop_front-2.new.self.items
          (subst (All (λ e. e.0 ≡ g.K.Key.lead_of e.1.now)) c.in-Some-pop_front.ensures.items ahead.leads);
    }

pub returns-clause-taken : goal.returns-clause-taken
returns-clause-taken g c taken t =
    let self = c.args.self.now in
    let next = c.look_ahead.new.self in
    let same = unchanged self.near.items c.pop_front.new.self.items c.pop_front.result c.in_default.is c.pop_front.ensures.items in
    let more = c.in_ok-look_ahead.ensures.taken taken
    (subst (AreTakenOf g.K.Ord.cmp self.entries.items taken self.words.items self.read) same t) in
    one_taken g.met.K.Ord.total next.entries.items taken next.words.items next.read c.in-Some-pop_front.entry next.near.items
    c.pop_front-2.new.self.items c.in-Some-pop_front.ensures.items more
