use Rattle.std.proofs.Common.{◌≡◌, ◌≤◌, ◌+◌, ℕ, List, ◌++◌, length, map, min, pos, sym, ◌∙◌, ap₂, subst, arith}
use Rattle.std.specs.Prelude.{filter, slice_range}
use Rattle.std.specs.List.{enumerate_from}
use Rattle.mr_defs.specs.Emission.{Pair}
use Rattle.mr_items.specs.StringMatch.{stands_in, string_match_emits}
use Rattle.mr_container.specs.Block.{block_emissions}
use Rattle.mr_text.specs.Sent.{Sent}
use Rattle.mr_text.proofs.Sending.{sent_none}
use Rattle.mr_lines.proofs.Searching.{later_next, standing-emitted}
use Rattle.mr_lines.proofs.string_match.SearchedLinesLineJobVecSearch.line.Goals as goal

pub returns-clause-ok : goal.returns-clause-ok
returns-clause-ok g c =
    let before = c.args.block.now.items in
    let after = c.push_standing.new.block.items in
    let text = c.args.self.now.input.now in
    let all : block_emissions before ++ string_match_emits c.args.self.now.patterns.now text c.args.from ≡ block_emissions after =
    ap₂ (λ (line : List ℕ) (ps : List (List ℕ)). block_emissions before
    ++ map (λ e. Pair e.0 (pos 1)) (filter (λ e. stands_in line e.1) (enumerate_from 0 ps))) c.requires.line (sym c.requires.ready.0)
    ∙ standing-emitted (map (λ x. x.finder) c.args.searches.now.items)
    (slice_range text c.args.from c.args.to) before after c.in_ok-push_standing.ensures.pairs in
    subst (λ es. Sent g.L.Local.stands c.args._out.now c.args._out.now es (block_emissions after)) (sym all)
    (sent_none g.L.Local.stands c.args._out.now (block_emissions after))

pub returns-clause-ready : goal.returns-clause-ready
returns-clause-ready g c =
    let text = c.args.self.now.input.now in
    let more : c.args.from ≤ min (c.args.to + 1) (length text) = omega (arith, c.requires.order, c.requires.inside) in (
      c.in_ok-push_standing.ensures.finders ∙ c.requires.ready.0,
      λ k d below. later_next text _ c.args.stop c.args.from (min (c.args.to + 1) (length text)) _ more
          (c.in_ok-push_standing.ensures.next k d below),
    )
