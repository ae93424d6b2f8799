use Rattle.std.proofs.Common.{◌≡◌, ◌∙◌, ◌∷◌, ◌++◌, [], List, Ok, ap, decimal, subst}
use Rattle.std.proofs.lemmas.List.{map-append}
use Rattle.mr_base.specs.Spare.{Spared}
use Rattle.mr_jobs.specs.Sequels.{LeadsTo, next_of}
use Rattle.mr_jobs.proofs.Repeated.{all_shares, last_shares, last_stop, last_text, one_more}
use Rattle.mr_report.specs.Shown.{rounds_seen, workers_of}
use Rattle.mr_report.specs.declared.printing.Share.{Share}
use Rattle.mr_jobs.proofs.rounds.run_rounds.Goals as goal

-- a round more
added : (before room after : List (Spared Share)) (shares : Spared Share) → after ≡ room ++ shares ∷ [] → room ≡ before
    → rounds_seen after ≡ rounds_seen before ++ workers_of shares.items ∷ []
added before room after shares pushed same =
    ap rounds_seen (pushed ∙ ap (λ l. l ++ shares ∷ []) same) ∙ map-append (λ round. workers_of round.items) before (shares ∷ [])

pub returns-in-Err-clause-ending : goal.returns-in-Err-clause-ending
returns-in-Err-clause-ending g c = last_stop _ _ _ _ _ _ _ _ _ _ _ _ _ _ c.loop.invariant.1 decimal c.loop-test.true c.in-Err.stop
    c.in-Err.ensures.ending

pub returns-in-Ended-clause-ending : goal.returns-in-Ended-clause-ending
returns-in-Ended-clause-ending g c =
    last_text _ _ _ _ _ _ _ _ _ _ _ _ _ _ c.loop.invariant.1 decimal c.loop-test.true c.in-Ended.text
    (c.in-Ok.ensures.ending ∙ ap (λ o. Ok (next_of o)) c.in-Ended.is)

pub returns-in-Ended-clause-shares : goal.returns-in-Ended-clause-shares
returns-in-Ended-clause-shares g c =
    last_shares _ _ _ _ _ _ _ _ _ _ _ _ _ _ c.loop.invariant.1 decimal c.loop-test.true c.in-Ended.text _ _
    (added c.loop.report.items c.room.new.self.items c.push.new.self.items c.in-Ok.led.1 c.push.ensures.items c.room.ensures.items)
    (c.in-Ok.ensures.ending ∙ ap (λ o. Ok (next_of o)) c.in-Ended.is) c.in-Ok.ensures.shares

pub loop-preserved : goal.loop-preserved
loop-preserved g c = (
  subst (LeadsTo (g.R.Rounds.fits c.args.rounds.now)) c.in-Again.is c.in-Ok.ensures.fits,
  one_more _ _ _ _ _ _ _ _ _ _ _ _ _ _ c.loop.invariant.1 decimal c.loop-test.true c.in-Again.next _ _
      (added c.loop.report.items c.room.new.self.items c.push.new.self.items c.in-Ok.led.1 c.push.ensures.items c.room.ensures.items)
      (c.in-Ok.ensures.ending ∙ ap (λ o. Ok (next_of o)) c.in-Again.is) c.in-Ok.ensures.shares,
)

pub returns-clause-shares : goal.returns-clause-shares
returns-clause-shares g c = all_shares _ _ _ _ _ _ _ _ _ _ _ _ _ _ c.loop.invariant.1 c.loop-test.false
