use Rattle.std.proofs.Common.{◌≡◌, length, take}
use Rattle.mr_phase.specs.Packed.{words_from}
use Rattle.mr_phase.proofs.order.words_of.Given as goal

abbrev pub invariant-loop-lead : goal.invariant-loop-lead
invariant-loop-lead l =
    (l.at ≡ l.lead-index) × (l.count ≡ length l.leads) × (l.words.items ≡ words_from l.unit (length l.leads) 0 (take l.lead-index l.leads))
