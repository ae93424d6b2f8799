use Rattle.std.proofs.Common.{ap, subst, refl, IfOk, IfErr, Ok, Err}
use Rattle.mr_command.specs.Asked.{asked}
use Rattle.mr_top.specs.Halts.{Halts}
use Rattle.mr_top.specs.Stages.{ComesTo, usage}
use Rattle.mr_top.proofs.Ends.{ending_of_form, ending_without}
use Rattle.mr_top.proofs.Reporting.{words_reports}
use Rattle.mr_top.proofs.Stages.{given_comes}
use Rattle.mr_top.proofs.running.carried_out.Goals as goal

pub returns-in-Ok-clause-ok : goal.returns-in-Ok-clause-ok
returns-in-Ok-clause-ok g c =
    subst (λ stage. IfOk c.commanded.result (λ o. ComesTo (g.H.Shelf.contents c.args.shelf.now) stage (Ok o.text)))
    (ending_of_form c.args.words.now (asked c.in-Ok.command) c.in-Ok.ensures.ok) c.commanded.ensures.ok

pub returns-in-Ok-clause-err : goal.returns-in-Ok-clause-err
returns-in-Ok-clause-err g c =
    subst (λ stage. IfErr c.commanded.result
    (λ h. Halts h (g.H.Shelf.contents c.args.shelf.now) stage (g.H.Shelf.count c.args.shelf.now)
    (g.H.Shelf.count c.commanded.new.shelf)))
    (ending_of_form c.args.words.now (asked c.in-Ok.command) c.in-Ok.ensures.ok) c.commanded.ensures.err

pub returns-in-Err-Refused-clause-err : goal.returns-in-Err-Refused-clause-err
returns-in-Err-Refused-clause-err g c =
    subst (λ stage. ComesTo (g.H.Shelf.contents c.args.shelf.now) stage usage)
    (ending_without c.args.words.now (c.in-Err-Refused.ensures.usage c.in-Err-Refused.field-0-0 (ap Err c.in-Err-Refused.field-0-is)))
    (given_comes _ usage usage refl)

pub returns-in-Ok-clause-report : goal.returns-in-Ok-clause-report
returns-in-Ok-clause-report g c =
    words_reports _ c.args.words.now (asked c.in-Ok.command) c.commanded.result c.in-Ok.ensures.ok c.commanded.ensures.report
