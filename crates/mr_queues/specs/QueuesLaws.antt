-- The law of queues of any kind: the tasks that a pass was given differ.
use Rattle.mr_base.specs.Tasks.{IsApartBelow}
use Rattle.mr_queues.specs.declared.any.AnyPass.{AnyPass}
use Rattle.mr_queues.specs.declared.any.AnyPass.TheVariants as pass
use Rattle.mr_queues.specs.declared.any.AnyQueues.{AnyQueues}
use Rattle.mr_queues.specs.declared.any.AnyQueues.TheVariants.{Blocks, Claims, Deques}
use Rattle.mr_queues.specs.Passes.{given}
use Rattle.mr_queues.specs.Queues.{IsAnyOf, total}

pub apart : (q : AnyQueues) (p : AnyPass) → IsAnyOf q p → IsApartBelow (total q) (given p)
apart (Blocks q) (pass.Blocks p room) is = is.0.7
apart (Blocks q) (pass.Claims p room) is = absurd is
apart (Blocks q) (pass.Deques p room) is = absurd is
apart (Claims q) (pass.Blocks p room) is = absurd is
apart (Claims q) (pass.Claims p room) is = is.0.apart
apart (Claims q) (pass.Deques p room) is = absurd is
apart (Deques q) (pass.Blocks p room) is = absurd is
apart (Deques q) (pass.Claims p room) is = absurd is
apart (Deques q) (pass.Deques p room) is = is.0.apart
