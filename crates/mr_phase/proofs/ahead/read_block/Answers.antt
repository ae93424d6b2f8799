use Rattle.std.proofs.Common.{◌≡◌, ◌+◌, ◌<◌, ◌++◌, ◌∷◌, [], length, refl, sym, ap, subst, ◌∙◌, length-append, slice_index_or, rules}
use Rattle.std.specs.Prelude.{All}
use Rattle.std.proofs.lemmas.List.Elements.{All-push}
use Rattle.mr_phase.proofs.InTurn.{pairs_more, picked_more, place_at, place_inside}
use Rattle.mr_phase.proofs.ahead.read_block.Goals as goal

pub offset_bounds-entries-place : goal.offset_bounds-entries-place
offset_bounds-entries-place g c =
    let i = c.loop-place.place-index in
    let inside : slice_index_or c.as_slice-place-items.result.now i 0 < length c.args.entries.now
    = place_inside (length c.args.entries.now) c.args.words.now c.as_slice-place-items.result.now i
    (slice_index_or c.as_slice-place-items.result.now i 0) c.loop-place.invariant.places c.loop-place-test.true refl c.requires in
    search rules

pub bounds-entries-place : goal.bounds-entries-place
bounds-entries-place g c =
    let i = c.loop-place.place-index in
    place_inside (length c.args.entries.now) c.args.words.now c.as_slice-place-items.result.now i
    (slice_index_or c.as_slice-place-items.result.now i 0) c.loop-place.invariant.places c.loop-place-test.true refl c.requires

pub loop-place-preserved : goal.loop-place-preserved
loop-place-preserved g c =
    let i = c.loop-place.place-index in
    let w = slice_index_or c.args.words.now i 0 in
    let e = c.index-entries-place.result in
    let block = c.loop-place.block.items in
    let put = c.in_ok-push.ensures.items in
    let so_far = c.loop-place.invariant in
    let at = place_at (length c.args.entries.now) c.args.words.now c.as_slice-place-items.result.now i
    (slice_index_or c.as_slice-place-items.result.now i 0) so_far.places c.loop-place-test.true refl in
    record {
      places = so_far.places;
      leads = subst (All (λ e. e.0 ≡ g.K.Key.lead_of e.1.now)) (sym put)
          (All-push (λ e. e.0 ≡ g.K.Key.lead_of e.1.now) block (c.lead.result, e.0, e.1) so_far.leads c.lead.ensures);
      all = pairs_more block c.push.new.self.items (c.lead.result, e.0, e.1) put ∙ ap (λ l. l ++ e ∷ []) so_far.all
          ∙ sym (picked_more c.args.entries.now c.args.words.now i w e at.1 refl c.requires
          (c.index-entries-place.is ∙ ap (λ p. slice_index_or c.args.entries.now p e) at.0));
      len = ap length put ∙ length-append block ((c.lead.result, e.0, e.1) ∷ []) ∙ ap (λ n. n + 1) so_far.len;
    }
