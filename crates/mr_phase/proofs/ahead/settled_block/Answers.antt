use Rattle.std.proofs.Common.{◌≡◌, ◌∙◌, rules}
use Rattle.std.proofs.lemmas.List.Sorted.{All-permutation, answers_always, length_permutation, ranks_by}
use Rattle.mr_phase.proofs.InTurn.{settled}
use Rattle.mr_phase.proofs.ahead.settled_block.Goals as goal

pub returns-clause-leads : goal.returns-clause-leads
returns-clause-leads g c = All-permutation
    (λ e. e.0 ≡ g.K.Key.lead_of e.1.now) c.in_ok-block.block.items c.sort_unstable_by.new.self.items c.sort_unstable_by.ensures.permutation
    c.in_ok-block.ensures.leads

pub returns-clause-all : goal.returns-clause-all
returns-clause-all g c = settled g.met.K.Ord.total _ c.in_ok-block.block.items c.sort_unstable_by.new.self.items c.in_ok-block.ensures.all
    c.sort_unstable_by.ensures.permutation

pub returns-clause-rises : goal.returns-clause-rises
returns-clause-rises g c =
    c.sort_unstable_by.ensures.sorted _ (ranks_by g.met.K.Ord.total (λ e. e.1.now)) (answers_always _ _ _ (λ f a r f' k. search rules))

pub returns-clause-len : goal.returns-clause-len
returns-clause-len g c = length_permutation c.in_ok-block.block.items c.sort_unstable_by.new.self.items
    c.sort_unstable_by.ensures.permutation ∙ c.in_ok-block.ensures.len
