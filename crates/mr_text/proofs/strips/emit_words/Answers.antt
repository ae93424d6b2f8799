use Rattle.std.proofs.Common.{◌≡◌, ◌≢◌, ◌≤◌, ◌++◌, [], ℤ, ℕ, true, length, negsuc, sym, ap, subst, ◌∙◌, arith, append-nil}
use Rattle.std.proofs.Common.{append_assoc, List}
use Rattle.std.specs.Prelude.{slice_range}
use Rattle.std.proofs.lemmas.List.Elements.{All-same}
use Rattle.std.proofs.lemmas.Result.{err_from_is_err_and}
use Rattle.mr_defs.specs.Emission.{Emission}
use Rattle.mr_defs.specs.Folded.{limit}
use Rattle.mr_items.specs.Words.{is_word_boundary}
use Rattle.mr_container.specs.Block.{block_emissions}
use Rattle.mr_text.specs.Keyed.{word_emissions}
use Rattle.mr_text.specs.Sent.{Sent, SentSome}
use Rattle.mr_text.proofs.Pushed.{emitted-append, emitted-none, block-append}
use Rattle.mr_text.proofs.Sending.{sent_none, sent_more, sent_all, sent_some, sent_before, some_more}
use Rattle.mr_text.proofs.strips.emit_words.Given.{Over}
use Rattle.mr_text.proofs.strips.emit_words.Goals.{In_ok-push_words}
use Rattle.mr_text.proofs.strips.emit_words.Goals as goal

pub loop-at-init : goal.loop-at-init
loop-at-init g c = record {
  later = omega arith;
  inside = c.requires.order;
  between = c.requires.starts;
  room = c.requires.room;
  allowed = c.requires.allowed;
  sent = subst (λ all. Sent g.L.Local.stands c.args.out.now c.args.out.now all (block_emissions c.args.block.now.items))
      (sym (ap (λ l. block_emissions c.args.block.now.items ++ l)
      (emitted-none (g.J.WordJob.pair_of c.args.job.now) c.args.text.now c.args.from)
      ∙ append-nil (block_emissions c.args.block.now.items)))
      (sent_none g.L.Local.stands c.args.out.now (block_emissions c.args.block.now.items));
  origin = g.met.L.Local.origin_refl _;
}

-- what is emitted up to a place, and what is left behind it
module _ (g : Over) where
  abbrev Fine : g.row.K.Denot × ℤ → Type 0
  Fine p = g.K.Key.allowed p.0 × (p.1 ≢ negsuc limit)

  module _ (job : g.row.J.Denot) (before : List (g.row.K.Denot × ℤ)) (text : List ℕ) (from : ℕ) where
    abbrev pair : List ℕ → g.row.K.Denot × ℤ
    pair = g.J.WordJob.pair_of job

    abbrev upto : ℕ → List (Emission g.row.K.Denot ℤ)
    upto at = block_emissions before ++ word_emissions pair (slice_range text from at)

    upto-next : (at next : ℕ) → from ≤ at → at ≤ next → next ≤ length text → is_word_boundary text from ≡ true
        → is_word_boundary text at ≡ true → is_word_boundary text next ≡ true
        → upto at ++ word_emissions pair (slice_range text at next) ≡ upto next
    upto-next at next le ge inside starts between ends =
        append_assoc (block_emissions before) (word_emissions pair (slice_range text from at))
        (word_emissions pair (slice_range text at next))
        ∙ ap (λ l. block_emissions before ++ l) (emitted-append pair text from at next le ge inside starts between ends)

module _ (g : Over) (c : In_ok-push_words g) where
  abbrev next : List (Emission g.row.K.Denot ℤ)
  next = word_emissions (g.J.WordJob.pair_of c.args.job.now) (slice_range c.args.text.now c.loop-at.at c.strip_end-next.result)

  waits : Sent g.L.Local.stands c.args.out.now c.loop-at.out
      (upto g c.args.job.now c.args.block.now.items c.args.text.now c.args.from c.strip_end-next.result)
      (block_emissions c.push_words.new.block.items)
  waits =
      let place = c.strip_end-next.ensures.place in
      subst (λ all. Sent g.L.Local.stands c.args.out.now c.loop-at.out all (block_emissions c.push_words.new.block.items))
      (upto-next g c.args.job.now c.args.block.now.items c.args.text.now c.args.from c.loop-at.at c.strip_end-next.result
      c.loop-at.invariant.later (omega (arith, place.0))
      (omega (arith, place.1, c.requires.inside)) c.requires.starts c.loop-at.invariant.between c.strip_end-next.ensures.between)
      (subst (λ left. Sent g.L.Local.stands c.args.out.now c.loop-at.out
      (upto g c.args.job.now c.args.block.now.items c.args.text.now c.args.from c.loop-at.at ++ next) left)
      (sym (block-append (g.J.WordJob.pair_of c.args.job.now) c.loop-at.block.items c.push_words.new.block.items
      (slice_range c.args.text.now c.loop-at.at c.strip_end-next.result) c.in_ok-push_words.ensures.ok))
      (sent_more g.L.Local.stands c.args.out.now c.loop-at.out _ (block_emissions c.loop-at.block.items) c.loop-at.invariant.sent next))

-- some of what is emitted up to a boundary is some of all
whole_of : (g : Over) (old new : g.row.L.Denot) (job : g.row.J.Denot) (before : List (g.row.K.Denot × ℤ)) (text : List ℕ) (from at to : ℕ)
    → from ≤ at → at ≤ to → to ≤ length text → is_word_boundary text from ≡ true → is_word_boundary text at ≡ true
    → is_word_boundary text to ≡ true
    → SentSome g.L.Local.stands old new (upto g job before text from at)
    → SentSome g.L.Local.stands old new (upto g job before text from to)
whole_of g old new job before text from at to le ge inside starts between ends some =
    subst (SentSome g.L.Local.stands old new) (upto-next g job before text from at to le ge inside starts between ends)
    (some_more g.L.Local.stands old new _ _ some)

pub returns-in_err-push_words-clause-err : goal.returns-in_err-push_words-clause-err
returns-in_err-push_words-clause-err g c =
    let e = err_from_is_err_and c.from_residual.result c.from_residual.ensures.1 in
    let is = c.loop-at.invariant in
    rw e.1 (subst (SentSome g.L.Local.stands c.args.out.now c.loop-at.out)
    (upto-next g c.args.job.now c.args.block.now.items c.args.text.now c.args.from c.loop-at.at c.args.to is.later is.inside
    c.requires.inside c.requires.starts is.between c.requires.ends)
    (sent_before g.L.Local.stands c.args.out.now c.loop-at.out _ (block_emissions c.loop-at.block.items) is.sent _))

pub emit_block-requires : goal.emit_block-requires
emit_block-requires g c = c.in_ok-push_words.ensures.allowed

pub returns-in_err-emit_block-clause-err : goal.returns-in_err-emit_block-clause-err
returns-in_err-emit_block-clause-err g c =
    let there = (goal.at.returns-in_err-emit_block-clause-err g c).In_ok-push_words in
    let e = err_from_is_err_and c.from_residual-in_err-emit_block.result c.from_residual-in_err-emit_block.ensures.1 in
    let place = c.strip_end-next.ensures.place in
    rw e.1 (whole_of g c.args.out.now c.emit_block.new.self c.args.job.now c.args.block.now.items c.args.text.now c.args.from
    c.strip_end-next.result c.args.to
    (omega (arith, c.loop-at.invariant.later, place.0)) place.1 c.requires.inside c.requires.starts c.strip_end-next.ensures.between
    c.requires.ends
    (sent_some g.L.Local.stands c.args.out.now c.loop-at.out _ (block_emissions c.push_words.new.block.items)
    (waits g there) c.emit_block.new.self c.in_err-emit_block.ensures.err))

pub returns-in_err-emit_block-clause-origin : goal.returns-in_err-emit_block-clause-origin
returns-in_err-emit_block-clause-origin g c = g.met.L.Local.origin_trans _ _ _ c.loop-at.invariant.origin c.emit_block.ensures.origin

pub loop-at-preserved-in_ok-emit_block : goal.loop-at-preserved-in_ok-emit_block
loop-at-preserved-in_ok-emit_block g c =
    let there = (goal.at.loop-at-preserved-in_ok-emit_block g c).In_ok-push_words in
    record {
      later = omega (arith, c.loop-at.invariant.later, c.strip_end-next.ensures.place.0);
      inside = c.strip_end-next.ensures.place.1;
      between = c.strip_end-next.ensures.between;
      room = c.push_words.ensures.room;
      allowed = All-same (Fine g) c.emit_block.new.block.items [] c.emit_block.ensures.empty (λ k d below. absurd (omega (arith, below)));
      sent = subst (λ left. Sent g.L.Local.stands c.args.out.now c.emit_block.new.self
          (upto g c.args.job.now c.args.block.now.items c.args.text.now c.args.from c.strip_end-next.result) (block_emissions left))
          (sym c.emit_block.ensures.empty)
          (sent_all g.L.Local.stands c.args.out.now c.loop-at.out _ (block_emissions c.push_words.new.block.items)
          (waits g there) c.emit_block.new.self c.in_ok-emit_block.ensures.ok);
      origin = g.met.L.Local.origin_trans _ _ _ c.loop-at.invariant.origin c.emit_block.ensures.origin;
    }

pub loop-at-preserved : goal.loop-at-preserved
loop-at-preserved g c =
    let there = (goal.at.loop-at-preserved g c).In_ok-push_words in
    record {
      later = omega (arith, c.loop-at.invariant.later, c.strip_end-next.ensures.place.0);
      inside = c.strip_end-next.ensures.place.1;
      between = c.strip_end-next.ensures.between;
      room = c.push_words.ensures.room;
      allowed = c.in_ok-push_words.ensures.allowed;
      sent = waits g there;
      origin = c.loop-at.invariant.origin;
    }

pub returns-clause-ok : goal.returns-clause-ok
returns-clause-ok g c =
    let there : c.loop-at.at ≡ c.args.to = omega (arith, c.loop-at.invariant.inside, c.loop-at-test.false) in
    subst (λ at. Sent g.L.Local.stands c.args.out.now c.loop-at.out
    (upto g c.args.job.now c.args.block.now.items c.args.text.now c.args.from at)
    (block_emissions c.loop-at.block.items)) there c.loop-at.invariant.sent
