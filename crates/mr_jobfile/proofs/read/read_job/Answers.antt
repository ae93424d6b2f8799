use Rattle.std.proofs.Common.{◌≡◌, ◌∙◌, Err, ap, sym}
use Rattle.mr_base.specs.declared.memory.Stop.TheVariants as stop
use Rattle.toml.specs.View.{table_view}
use Rattle.mr_jobfile.proofs.JobOf.{too_long, of_table, not_toml}
use Rattle.mr_jobfile.proofs.read.read_job.Goals as goal

pub returns-then-bytes-gt-JOB_LIMIT-clause-fault : goal.returns-then-bytes-gt-JOB_LIMIT-clause-fault
returns-then-bytes-gt-JOB_LIMIT-clause-fault c = λ f e. let long = too_long c.args.bytes.now c.if-bytes-gt-JOB_LIMIT.true in cc

pub returns-in-Ok-clause-job : goal.returns-in-Ok-clause-job
returns-in-Ok-clause-job c =
    rw (of_table c.args.bytes.now (table_view c.in-Ok.table) c.if-bytes-gt-JOB_LIMIT.false c.in-Ok.ensures.ok) c.judged.ensures.job

pub returns-in-Ok-clause-fault : goal.returns-in-Ok-clause-fault
returns-in-Ok-clause-fault c = λ f e. of_table c.args.bytes.now (table_view c.in-Ok.table) c.if-bytes-gt-JOB_LIMIT.false c.in-Ok.ensures.ok
    ∙ c.judged.ensures.fault f e

pub returns-in-Err-clause-fault : goal.returns-in-Err-clause-fault
returns-in-Err-clause-fault c = λ f e.
    let refused : c.in-Err.stop ≡ stop.Refused f = cc in
    let why = c.in-Err.ensures.refused f (ap Err refused) in
    not_toml c.args.bytes.now c.if-bytes-gt-JOB_LIMIT.false why.1 ∙ ap Err (sym why.0)
