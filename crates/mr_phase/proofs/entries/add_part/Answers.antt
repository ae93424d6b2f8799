use Rattle.std.proofs.Common.{sym, ap, ◌∙◌, ◌∷◌, [], append-nil}
use Rattle.std.proofs.lemmas.List.{map-append}
use Rattle.mr_container.specs.Entries.{seen_of}
use Rattle.mr_phase.proofs.Gathering.{reads_on}
use Rattle.mr_phase.proofs.entries.add_part.Goals as goal

pub loop-key-init : goal.loop-key-init
loop-key-init g c = (c.cursor-cursor.ensures.stands, record { read = []; now_is = sym (append-nil _); all = c.cursor-cursor.ensures.all })

pub loop-key-preserved : goal.loop-key-preserved
loop-key-preserved g c = (
  c.in-Some.ensures.stands,
  reads_on g.L.Key.Ord.cmp (g.L.Parted.cell c.args.local.now) (g.L.Parted.part_of c.args.parts) c.args.part
      (seen_of c.args.entries.now.items) (seen_of c.loop-key.entries.items)
      (seen_of c.push.new.self.items) (g.L.Parted.left c.args.local.now c.loop-key.cursor)
      (g.L.Parted.left c.args.local.now c.next.new.cursor) (c.in-Some.key.now, c.in-Some.cell.now)
      c.in-Some.ensures.entry
      (ap (λ l. seen_of l) c.in_ok-push.ensures.items
      ∙ map-append (λ e. (e.0.now, e.1.now)) c.loop-key.entries.items ((c.in-Some.key, c.in-Some.cell) ∷ []))
      c.loop-key.invariant.1,
)
