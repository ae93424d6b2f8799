use Rattle.mr_merge.proofs.Leads.{by_lead}
use Rattle.mr_merge.proofs.lesser.is_lesser.Goals as goal

pub returns-then-lead-other_lead : goal.returns-then-lead-other_lead
returns-then-lead-other_lead g c =
    by_lead g.met.K.Ord.total g.K.Key.lead_of g.met.K.Key.lead_orders c.args.one.now c.args.other.now c.lead-lead.result
    c.lead-other_lead.result c.lead-lead.ensures c.lead-other_lead.ensures c.if-lead-other_lead.true
