use Rattle.std.proofs.Common.{[], ◌∷◌, ◌++◌, map, take, sym, ◌∙◌, ap, arith}
use Rattle.std.proofs.lemmas.List.{map-append, take_more}
use Rattle.std.proofs.lemmas.Option.{get_or_from_slice_get}
use Rattle.std.proofs.lemmas.List.Elements.{All-push, All-same}
use Rattle.mr_lines.specs.Searches.{IsNext}
use Rattle.mr_lines.specs.declared.search.Search.{Search}
use Rattle.mr_lines.proofs.string_match.searches.Goals as goal

pub loop-number-preserved : goal.loop-number-preserved
loop-number-preserved c =
    let before = c.loop-number.searches.items in
    let added : Search = record { finder = c.new-finder.result; next = c.next_place-next.result } in
    let pushed = c.in_ok-push.ensures.items in
    record {
      next =
          All-same (λ s. IsNext c.args.text.now s.finder c.args.stop c.args.from s.next) c.push.new.self.items (before ++ added ∷ []) pushed
          (All-push (λ s. IsNext c.args.text.now s.finder c.args.stop c.args.from s.next) before added c.loop-number.invariant.next
          c.next_place-next.ensures.next);
      finders = ap (map (λ s. s.finder)) pushed ∙ map-append (λ s. s.finder) before (added ∷ [])
          ∙ ap (λ l. l ++ c.new-finder.result ∷ []) c.loop-number.invariant.finders
          ∙ ap (λ l. take c.loop-number.number c.args.patterns.now ++ l ∷ [])
          (c.new-finder.ensures ∙ sym (get_or_from_slice_get c.args.patterns.now c.loop-number.number c.get.result.now [] c.get.ensures))
          ∙ sym (take_more c.args.patterns.now c.loop-number.number [] (omega (arith, c.loop-number-test.true, c.len-number-end.ensures)));
    }
