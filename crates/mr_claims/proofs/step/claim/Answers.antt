use Rattle.std.proofs.Common.{◌≡◌, ◌+◌, ◌*◌, ◌<◌, ℕ, rules, length, slice_index, refl, arith, subst, sym}
use Rattle.mr_base.specs.Tasks.{total_of}
use Rattle.atomic_table.specs.Table.{keeps}
use Rattle.mr_claims.specs.Lawful.{queue_of, Claimed}
use Rattle.mr_claims.proofs.Steps.{claim_ok, queue_of-word_of}
use Rattle.mr_claims.proofs.step.claim.Goals as goal

pub fetch_add-requires : goal.fetch_add-requires
fetch_add-requires c =
    let ranges = c.args.words.now.key in
    let me = c.args.seat.now in
    let queue = c.args.queue in (
      c.requires.seat.0,
      (let a = c.requires.queue.0 in let b = c.requires.queue.1 in omega (arith, a, b)),
      λ s held homes at fits.
          let r = claim_ok (total_of ranges)
          (length ranges) queue me.id me.me.0 c.requires.queue.0 c.requires.weight c.requires.open s.words s.views held at in (
            r.0,
            keeps,
            tt,
            r.1,
            (subst (λ q. Claimed q me.me.0 (slice_index s.words (queue * 8)) r.0) (sym (queue_of-word_of queue)) r.2, refl),
          ),
    )
