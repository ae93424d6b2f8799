use Rattle.std.proofs.Common.{◌<◌, [], length, sym, subst}
use Rattle.mr_phase.specs.Taking.{AreTakenOf}
use Rattle.mr_phase.proofs.InTurn.{block_more}
use Rattle.mr_phase.proofs.ahead.Ahead.look_ahead.Goals as goal

pub returns-clause-taken : goal.returns-clause-taken
returns-clause-taken g c taken t =
    let are = AreTakenOf g.K.Ord.cmp in
    let self = c.args.self.now in
    let entries = c.as_slice-entries in
    let words = c.as_slice-words in
    let to = c.block_end-end in
    let block = c.in_ok-block in
    let none = subst (are self.entries.items taken self.words.items self.read) c.requires.none t in
    let lent = subst (λ l. are l taken words.result.now self.read []) (sym entries.ensures.value)
    (subst (λ l. are self.entries.items taken l self.read []) (sym words.ensures.value) none) in
    let some = subst (λ l. 0 < length l) (sym entries.ensures.value) (c.requires.ahead.some c.requires.more) in
    let more = block_more g.met.K.Ord.total entries.result.now taken words.result.now self.read to.result block.block.items to.ensures.more
    to.ensures.inside some to.ensures.apart block.ensures.all block.ensures.rises lent in
    subst (are self.entries.items taken self.words.items to.result) (sym c.from_vec.ensures.items)
    (subst (λ l. are self.entries.items taken l to.result block.block.items) words.ensures.value
    (subst (λ l. are l taken words.result.now to.result block.block.items) entries.ensures.value more))
