use Rattle.std.proofs.Common.{◌∙◌, ap}
use Rattle.std.specs.Prelude.{slice_range}
use Rattle.mr_items.specs.StringMatch.{stands_in}
use Rattle.mr_lines.proofs.Searching.{fits_is, past_is}
use Rattle.mr_lines.proofs.search.stands.Goals as goal

pub returns-then-search-to-clause-same : goal.returns-then-search-to-clause-same
returns-then-search-to-clause-same c =
    let s = c.catch_up.new.search in
    fits_is c.args.text.now s.finder c.args.stop c.args.from c.args.to s.next c.catch_up.ensures.next c.catch_up.ensures.later
    c.requires.order c.requires.within c.requires.inside c.needle.result.now c.needle.ensures c.if-search-to.true
    ∙ ap (stands_in (slice_range c.args.text.now c.args.from c.args.to)) c.catch_up.ensures.finder

pub returns-else-search-to-clause-same : goal.returns-else-search-to-clause-same
returns-else-search-to-clause-same c =
    let s = c.catch_up.new.search in
    past_is c.args.text.now s.finder c.args.stop c.args.from c.args.to s.next c.catch_up.ensures.next c.catch_up.ensures.later
    c.requires.order c.requires.within c.requires.inside c.if-search-to.false
    ∙ ap (stands_in (slice_range c.args.text.now c.args.from c.args.to)) c.catch_up.ensures.finder
