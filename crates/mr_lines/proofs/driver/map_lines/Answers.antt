use Rattle.std.proofs.Common.{◌≡◌, ◌≢◌, ◌<◌, ◌+◌, [], min, ℤ, true, length, negsuc, sym, ◌∙◌, ap, subst, arith}
use Rattle.std.proofs.lemmas.List.Elements.{All-same}
use Rattle.std.proofs.lemmas.Result.{err_from_is_err_and}
use Rattle.mr_defs.specs.Folded.{limit}
use Rattle.mr_defs.specs.Tasks.{task_emissions}
use Rattle.mr_items.specs.Lines.{begins_line, is_line_boundary, line_places}
use Rattle.mr_container.specs.Block.{block_emissions}
use Rattle.mr_split.specs.Pieces.{IsPiece}
use Rattle.mr_text.specs.Sent.{Sent}
use Rattle.mr_text.proofs.Sending.{sent_none, sent_all, sent_some, all_stands, some_stands}
use Rattle.mr_lines.specs.Ends.{is_line_end}
use Rattle.mr_lines.proofs.Driven.{some_whole, line_sent, line_some}
use Rattle.mr_lines.proofs.Emitted.{emitted-none}
use Rattle.mr_lines.proofs.NextLine.{inside, ends_here, next_later, next_between, next_within}
use Rattle.mr_lines.proofs.driver.map_lines.Given.{Over}
use Rattle.mr_lines.proofs.driver.map_lines.Goals.{After-piece, In_ok-line, then-len-ge-BLOCK+in_ok-emit_block, else-len-ge-BLOCK}
use Rattle.mr_lines.proofs.driver.map_lines.Goals as goal

is_piece : (g : Over) (c : After-piece g)
    → IsPiece (is_line_boundary c.args.text.now) (length c.args.text.now) (c.piece.inside.start, c.piece.inside.end)
is_piece g c = subst (IsPiece (is_line_boundary c.args.text.now) (length c.args.text.now)) (sym c.piece.view_is) c.requires.piece

abbrev Fine : (g : Over) → g.row.K.Denot × ℤ → Type 0
Fine g p = g.K.Key.allowed p.0 × (p.1 ≢ negsuc limit)

pub loop-at-init : goal.loop-at-init
loop-at-init g c =
    let is = is_piece g (goal.at.loop-at-init g c).After-piece in
    record {
      later = omega arith;
      inside = omega (arith, is.some);
      between = is.starts;
      ready = c.in_ok-state.ensures;
      allowed = All-same (Fine g) c.in_ok-block.block.items [] c.in_ok-block.ensures.items (λ k d below. absurd (omega (arith, below)));
      sent = subst (λ items. Sent g.L.Local.stands c.args.out.now c.args.out.now
          (task_emissions (g.J.LineJob.emits c.args.job.now) (line_places c.args.text.now) (c.piece.inside.start, c.piece.inside.start))
          (block_emissions items)) (sym c.in_ok-block.ensures.items)
          (subst (λ all. Sent g.L.Local.stands c.args.out.now c.args.out.now all [])
          (sym (emitted-none (g.J.LineJob.emits c.args.job.now) (begins_line c.args.text.now) (length c.args.text.now) c.piece.inside.start
          (omega (arith, is.some, is.inside))))
          (sent_none g.L.Local.stands c.args.out.now []));
      origin = g.met.L.Local.origin_refl _;
    }

pub line-requires-clause-ends : goal.line-requires-clause-ends
line-requires-clause-ends g c =
    let is = is_piece g (goal.at.line-requires-clause-ends g c).After-piece in
    subst (λ text. is_line_end text c.line_end-end.result ≡ true) c.requires.text
    (ends_here c.args.text.now c.loop-at.at
    (omega (arith, c.loop-at-test.true, is.inside)) c.loop-at.invariant.between c.line_end-end.result c.line_end-end.ensures.place)

pub line-requires-clause-within : goal.line-requires-clause-within
line-requires-clause-within g c =
    let is = is_piece g (goal.at.line-requires-clause-within g c).After-piece in
    let bs = c.args.text.now in
    let end = c.line_end-end.result in
    let more : c.loop-at.at < length bs = omega (arith, c.loop-at-test.true, is.inside) in
    let within = next_within bs c.loop-at.at more c.loop-at.invariant.between end c.line_end-end.ensures.place c.piece.inside.end
    c.loop-at-test.true is.inside is.ends in
    let size : length bs ≡ length (g.J.TextJob.text c.args.job.now) = ap length c.requires.text in (
      omega (arith, within, inside bs c.loop-at.at more c.loop-at.invariant.between end c.line_end-end.ensures.place),
      omega (arith, is.inside, size),
    )

pub returns-in_err-line-clause-err : goal.returns-in_err-line-clause-err
returns-in_err-line-clause-err g c =
    let is = is_piece g (goal.at.returns-in_err-line-clause-err g c).After-piece in
    let e = err_from_is_err_and c.from_residual-in_err-line.result c.from_residual-in_err-line.ensures.1 in
    let bs = c.args.text.now in
    let emits = g.J.LineJob.emits c.args.job.now in
    let at = c.loop-at.at in
    let end = c.line_end-end.result in
    let more : at < length bs = omega (arith, c.loop-at-test.true, is.inside) in
    let starts = c.loop-at.invariant.between in
    let within = next_within bs at more starts end c.line_end-end.ensures.place c.piece.inside.end c.loop-at-test.true is.inside is.ends in
    let past = next_later bs at more starts end c.line_end-end.ensures.place in
    rw (e.1, sym c.piece.view_is) (some_stands g.L.Local.stands c.args.out.now c.line.new.out _
    (some_whole g.L.Local.stands emits bs c.piece.inside.start c.args.out.now c.line.new.out (min (end + 1) (length bs)) c.piece.inside.end
    (omega (arith, past, c.loop-at.invariant.later)) within is.inside
    (line_some g.L.Local.stands emits bs c.piece.inside.start c.args.out.now c.loop-at.out c.line.new.out at
    (block_emissions c.loop-at.block.items) c.loop-at.invariant.sent c.loop-at.invariant.later more starts end c.line_end-end.ensures.place
    c.in_err-line.ensures.err)))

-- what waits behind the next line
waits : (g : Over) (c : In_ok-line g) → c.loop-at.at < length c.args.text.now
    → Sent g.L.Local.stands c.args.out.now c.line.new.out
    (task_emissions (g.J.LineJob.emits c.args.job.now) (line_places c.args.text.now)
    (c.piece.inside.start, min (c.line_end-end.result + 1) (length c.args.text.now))) (block_emissions c.line.new.block.items)
waits g c more =
    line_sent g.L.Local.stands
    (g.J.LineJob.emits c.args.job.now) c.args.text.now c.piece.inside.start c.args.out.now c.loop-at.out c.line.new.out c.loop-at.at
    (block_emissions c.loop-at.block.items) c.loop-at.invariant.sent c.loop-at.invariant.later more c.loop-at.invariant.between
    c.line_end-end.result c.line_end-end.ensures.place
    (block_emissions c.line.new.block.items) c.in_ok-line.ensures.ok

pub returns-in_err-emit_block-clause-err : goal.returns-in_err-emit_block-clause-err
returns-in_err-emit_block-clause-err g c =
    let is = is_piece g (goal.at.returns-in_err-emit_block-clause-err g c).After-piece in
    let e = err_from_is_err_and c.from_residual-in_err-emit_block.result c.from_residual-in_err-emit_block.ensures.1 in
    let bs = c.args.text.now in
    let emits = g.J.LineJob.emits c.args.job.now in
    let at = c.loop-at.at in
    let end = c.line_end-end.result in
    let more : at < length bs = omega (arith, c.loop-at-test.true, is.inside) in
    let starts = c.loop-at.invariant.between in
    let within = next_within bs at more starts end c.line_end-end.ensures.place c.piece.inside.end c.loop-at-test.true is.inside is.ends in
    let past = next_later bs at more starts end c.line_end-end.ensures.place in
    rw (e.1, sym c.piece.view_is) (some_stands g.L.Local.stands c.args.out.now c.emit_block.new.self _
    (some_whole g.L.Local.stands emits bs c.piece.inside.start c.args.out.now c.emit_block.new.self
    (min (end + 1) (length bs)) c.piece.inside.end (omega (arith, past, c.loop-at.invariant.later)) within is.inside
    (sent_some g.L.Local.stands c.args.out.now c.line.new.out _ (block_emissions c.line.new.block.items)
    (waits g (goal.at.returns-in_err-emit_block-clause-err g c).In_ok-line more) c.emit_block.new.self c.in_err-emit_block.ensures.err)))

pub returns-in_err-emit_block-clause-origin : goal.returns-in_err-emit_block-clause-origin
returns-in_err-emit_block-clause-origin g c = g.met.L.Local.origin_trans
    _ _ _ (g.met.L.Local.origin_trans _ _ _ c.loop-at.invariant.origin c.line.ensures.origin) c.emit_block.ensures.origin

pub loop-at-preserved : goal.loop-at-preserved
loop-at-preserved g c =
    let there = (goal.at.loop-at-preserved g c).In_ok-line in
    let is = is_piece g (goal.at.loop-at-preserved g c).After-piece in
    let bs = c.args.text.now in
    let at = c.loop-at.at in
    let end = c.line_end-end.result in
    let more : at < length bs = omega (arith, c.loop-at-test.true, is.inside) in
    let starts = c.loop-at.invariant.between in
    let place = c.line_end-end.ensures.place in
    let here : c.min-at.result ≡ min (end + 1) (length bs) = c.min-at.ensures in
    let past = next_later bs at more starts end place in
    let all = task_emissions (g.J.LineJob.emits c.args.job.now) (line_places bs) (c.piece.inside.start, min (end + 1) (length bs)) in
    record {
      later = omega (arith, here, past, c.loop-at.invariant.later);
      inside = let within = next_within bs at more starts end place c.piece.inside.end c.loop-at-test.true is.inside is.ends in
          omega (arith, here, within);
      between = ap (is_line_boundary bs) here ∙ next_between bs at more starts end place;
      ready = subst (g.J.LineJob.ready c.args.job.now c.line.new.state c.piece.inside.end)
          (sym (here ∙ ap (λ text. min (end + 1) (length text)) c.requires.text)) c.in_ok-line.ensures.ready;
      allowed = elim c.if-len-ge-BLOCK.branch [
        | then-len-ge-BLOCK+in_ok-emit_block w ↦ All-same (Fine g) c.if-len-ge-BLOCK.block.items []
            (ap (λ v. v.items) w.block-is ∙ w.emit_block.ensures.empty) (λ k d below. absurd (omega (arith, below)))
        | else-len-ge-BLOCK w ↦ All-same (Fine g) c.if-len-ge-BLOCK.block.items c.line.new.block.items
            (ap (λ v. v.items) w.block-is) c.in_ok-line.ensures.allowed
      ];
      sent = rw here (elim c.if-len-ge-BLOCK.branch [
        | then-len-ge-BLOCK+in_ok-emit_block w ↦ rw (w.out-is, w.block-is, w.emit_block.ensures.empty)
            (sent_all g.L.Local.stands c.args.out.now c.line.new.out all (block_emissions c.line.new.block.items)
            (waits g there more) w.emit_block.new.self w.in_ok-emit_block.ensures.ok)
        | else-len-ge-BLOCK w ↦ rw (w.out-is, w.block-is) (waits g there more)
      ]);
      origin = elim c.if-len-ge-BLOCK.branch [
        | then-len-ge-BLOCK+in_ok-emit_block w ↦ rw w.out-is
            (g.met.L.Local.origin_trans _ _ _ (g.met.L.Local.origin_trans _ _ _ c.loop-at.invariant.origin c.line.ensures.origin)
            w.emit_block.ensures.origin)
        | else-len-ge-BLOCK w ↦ rw w.out-is (g.met.L.Local.origin_trans _ _ _ c.loop-at.invariant.origin c.line.ensures.origin)
      ];
    }

pub returns-in_err-emit_block-2-clause-err : goal.returns-in_err-emit_block-2-clause-err
returns-in_err-emit_block-2-clause-err g c =
    let is = is_piece g (goal.at.returns-in_err-emit_block-2-clause-err g c).After-piece in
    let e = err_from_is_err_and c.from_residual-in_err-emit_block-2.result c.from_residual-in_err-emit_block-2.ensures.1 in
    rw (e.1, sym c.piece.view_is) (some_stands g.L.Local.stands c.args.out.now c.emit_block-2.new.self _
    (some_whole g.L.Local.stands
    (g.J.LineJob.emits c.args.job.now) c.args.text.now c.piece.inside.start c.args.out.now c.emit_block-2.new.self c.loop-at.at
    c.piece.inside.end c.loop-at.invariant.later c.loop-at.invariant.inside is.inside
    (sent_some g.L.Local.stands c.args.out.now c.loop-at.out _ (block_emissions c.loop-at.block.items) c.loop-at.invariant.sent
    c.emit_block-2.new.self c.in_err-emit_block-2.ensures.err)))

pub returns-clause-ok : goal.returns-clause-ok
returns-clause-ok g c =
    let there : c.loop-at.at ≡ c.piece.inside.end = omega (arith, c.loop-at.invariant.inside, c.loop-at-test.false) in
    rw (sym c.piece.view_is, sym there)
    (all_stands g.L.Local.stands c.args.out.now c.emit_block-2.new.self
    _ (sent_all g.L.Local.stands c.args.out.now c.loop-at.out _ (block_emissions c.loop-at.block.items) c.loop-at.invariant.sent
    c.emit_block-2.new.self c.in_ok-emit_block-2.ensures.ok))
