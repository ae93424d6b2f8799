use Rattle.std.proofs.Common.{◌≡◌, ◌++◌, ℕ, ℤ, List, ◌∙◌, ap, subst, arith}
use Rattle.std.specs.Prelude.{slice_range}
use Rattle.std.proofs.lemmas.Result.{err_from_is_err_and}
use Rattle.mr_defs.specs.Emission.{Emission}
use Rattle.mr_defs.specs.Tasks.{task_emissions}
use Rattle.mr_items.specs.Words.{word_places}
use Rattle.mr_container.specs.Block.{block_emissions}
use Rattle.mr_text.specs.Keyed.{word_emits, word_emissions}
use Rattle.mr_text.specs.Sent.{Sent, SentSome}
use Rattle.mr_text.proofs.Sending.{sent_all, sent_some, all_stands, some_stands, none_stands}
use Rattle.mr_text.proofs.Stretches.{piece_words}
use Rattle.mr_text.proofs.words.emit_piece.Given.{Over}
use Rattle.mr_text.proofs.words.emit_piece.Goals.{After-emit_words}
use Rattle.mr_text.proofs.words.emit_piece.Goals as goal

module _ (g : Over) (c : After-emit_words g) where
  abbrev text : List ℕ
  text = c.args.text.now

  abbrev pair : List ℕ → g.row.K.Denot × ℤ
  pair = g.J.WordJob.pair_of c.args.job.now

  abbrev all : List (Emission g.row.K.Denot ℤ)
  all = task_emissions (word_emits pair text) (word_places text) (c.args.from, c.args.to)

  are : block_emissions c.in_ok-block.block.items ++ word_emissions pair (slice_range text c.args.from c.args.to)
      ≡ all
  are =
      ap (λ items. block_emissions items ++ word_emissions pair (slice_range text c.args.from c.args.to))
      c.in_ok-block.ensures.items
      ∙ piece_words pair text c.args.from c.args.to
      (omega (arith, c.requires.piece.some)) c.requires.piece.inside c.requires.piece.starts c.requires.piece.ends

  -- what waits behind the last word
  sent : (left : List (Emission g.row.K.Denot ℤ))
      → Sent g.L.Local.stands c.args.out.now c.emit_words.new.out
      (block_emissions c.in_ok-block.block.items ++ word_emissions pair (slice_range text c.args.from c.args.to))
      left
      → Sent g.L.Local.stands c.args.out.now c.emit_words.new.out all left
  sent left = subst (λ es. Sent g.L.Local.stands c.args.out.now c.emit_words.new.out es left) are

pub returns-in_err-edges-clause-err : goal.returns-in_err-edges-clause-err
returns-in_err-edges-clause-err g c =
    let e = err_from_is_err_and c.from_residual.result c.from_residual.ensures.1 in
    rw e.1 (none_stands g.L.Local.stands c.args.out.now _)

pub returns-in_err-block-clause-err : goal.returns-in_err-block-clause-err
returns-in_err-block-clause-err g c =
    let e = err_from_is_err_and c.from_residual-in_err-block.result c.from_residual-in_err-block.ensures.1 in
    rw e.1 (none_stands g.L.Local.stands c.args.out.now _)

pub returns-in_err-block-clause-origin : goal.returns-in_err-block-clause-origin
returns-in_err-block-clause-origin g c = g.met.L.Local.origin_refl _

pub returns-in_err-emit_words-clause-err : goal.returns-in_err-emit_words-clause-err
returns-in_err-emit_words-clause-err g c =
    let there = (goal.at.returns-in_err-emit_words-clause-err g c).After-emit_words in
    let e = err_from_is_err_and c.from_residual-in_err-emit_words.result c.from_residual-in_err-emit_words.ensures.1 in
    rw e.1 (some_stands g.L.Local.stands c.args.out.now c.emit_words.new.out (all g there)
    (subst (SentSome g.L.Local.stands c.args.out.now c.emit_words.new.out) (are g there) c.in_err-emit_words.ensures.err))

pub returns-in_err-emit_block-clause-err : goal.returns-in_err-emit_block-clause-err
returns-in_err-emit_block-clause-err g c =
    let there = (goal.at.returns-in_err-emit_block-clause-err g c).After-emit_words in
    let e = err_from_is_err_and c.from_residual-in_err-emit_block.result c.from_residual-in_err-emit_block.ensures.1 in
    rw e.1 (some_stands g.L.Local.stands c.args.out.now c.emit_block.new.self
    _ (sent_some g.L.Local.stands c.args.out.now c.emit_words.new.out _ _ (sent g there _ c.in_ok-emit_words.ensures.ok)
    c.emit_block.new.self c.in_err-emit_block.ensures.err))

pub returns-in_err-emit_block-clause-origin : goal.returns-in_err-emit_block-clause-origin
returns-in_err-emit_block-clause-origin g c = g.met.L.Local.origin_trans _ _ _ c.emit_words.ensures.origin c.emit_block.ensures.origin

pub returns-clause-ok : goal.returns-clause-ok
returns-clause-ok g c =
    let there = (goal.at.returns-clause-ok g c).After-emit_words in
    all_stands g.L.Local.stands c.args.out.now c.emit_block.new.self
    _ (sent_all g.L.Local.stands c.args.out.now c.emit_words.new.out _ _ (sent g there _ c.in_ok-emit_words.ensures.ok)
    c.emit_block.new.self c.in_ok-emit_block.ensures.ok)

pub returns-clause-origin : goal.returns-clause-origin
returns-clause-origin g c = g.met.L.Local.origin_trans _ _ _ c.emit_words.ensures.origin c.emit_block.ensures.origin
