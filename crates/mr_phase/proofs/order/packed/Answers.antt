use Rattle.std.proofs.Common.{◌∙◌, ◌≡◌, ap, arith, length, map}
use Rattle.std.proofs.lemmas.List.{length-map}
use Rattle.std.proofs.lemmas.List.Sorted.{IsNonDecreasingBy-from_sort, length_permutation}
use Rattle.mr_phase.specs.Packed.{words_from}
use Rattle.mr_phase.proofs.Packing.{length-words_from, words_are}
use Rattle.mr_phase.proofs.Ordering.{fronts_of, all_picked}
use Rattle.mr_phase.proofs.order.packed.Goals as goal
use Rattle.mr_phase.proofs.order.packed.Goals.{After-drop-leads-2}

pub returns-clause-rise : goal.returns-clause-rise
returns-clause-rise g c = IsNonDecreasingBy-from_sort (λ n. n) c.sort_unstable.new.self.items c.sort_unstable.ensures.sorted

are : (g : _) (c : After-drop-leads-2 g)
    → c.in_ok-words.words.items
    ≡ words_from c.unit_of-unit.result (length c.args.entries.now) 0 (map (λ e. g.K.Key.lead_of e.0.now) c.args.entries.now)
are g c = words_are c.unit_of-unit.result (λ e. g.K.Key.lead_of e.0.now) c.args.entries.now c.deref-2.result.now c.in_ok-words.words.items
    (c.deref-2.ensures.value ∙ c.in_ok-leads.ensures) c.in_ok-words.ensures

pub returns-clause-len : goal.returns-clause-len
returns-clause-len g c =
    length_permutation c.in_ok-words.words.items c.sort_unstable.new.self.items c.sort_unstable.ensures.permutation
    ∙ ap length (are g c)
    ∙ length-words_from c.unit_of-unit.result (length c.args.entries.now) 0 (map (λ e. g.K.Key.lead_of e.0.now) c.args.entries.now)
    ∙ length-map c.args.entries.now (λ e. g.K.Key.lead_of e.0.now)

pub returns-clause-fronts : goal.returns-clause-fronts
returns-clause-fronts g c =
    fronts_of g.met.K.Ord.total g.K.Key.lead_of g.met.K.Key.lead_orders (λ e. e.0.now) c.unit_of-unit.result
    (let u = c.unit_of-unit.ensures in omega (arith, u)) c.args.entries.now c.in_ok-words.words.items c.sort_unstable.new.self.items
    (are g c) c.sort_unstable.ensures.permutation

pub returns-clause-all : goal.returns-clause-all
returns-clause-all g c =
    all_picked g.met.K.Ord.total g.K.Key.lead_of g.met.K.Key.lead_orders (λ e. e.0.now) c.unit_of-unit.result
    (let u = c.unit_of-unit.ensures in omega (arith, u)) c.args.entries.now c.in_ok-words.words.items c.sort_unstable.new.self.items
    (are g c) c.sort_unstable.ensures.permutation
