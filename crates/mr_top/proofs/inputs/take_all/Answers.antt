use Rattle.std.proofs.Common.{rules, ◌+◌, ◌≤◌, [], ◌∷◌, Ok, length, subst, sym, ◌∙◌, ap}
use Rattle.std.specs.Prelude.{All}
use Rattle.std.proofs.lemmas.List.{length-append}
use Rattle.mr_defs.specs.Limits.{input_limit}
use Rattle.mr_top.specs.Halts.{Halts}
use Rattle.mr_top.specs.RunEnding.{input_at}
use Rattle.mr_top.specs.Stages.{ComesTo}
use Rattle.mr_top.proofs.InTurn.{Reads, reads_more, reads_stop, reads_end, short_more}
use Rattle.mr_top.proofs.Stages.{carried}
use Rattle.mr_top.proofs.inputs.take_all.Goals as goal

pub returns-clause-ok : goal.returns-clause-ok
returns-clause-ok g c =
    reads_end _ c.args.names.now c.loop-place.place c.loop-place.inputs.items c.loop-place.invariant.reads (search rules)

pub returns-in-Err-clause-err : goal.returns-in-Err-clause-err
returns-in-Err-clause-err g c =
    carried _ _ _ (reads_stop _ c.args.names.now c.loop-place.place c.loop-place.inputs.items c.text_at.result.now
    (search rules) c.text_at.ensures c.loop-place.invariant.reads)
    c.in-Err.halt _ _ _ c.loop-place.invariant.later
    (subst (λ k. Halts c.in-Err.halt k (input_at (c.loop-place.place + 1) c.text_at.result.now) (g.H.Shelf.count c.loop-place.shelf)
    (g.H.Shelf.count c.take_input.new.shelf)) c.loop-place.invariant.kept
    c.in-Err.ensures.err)

pub loop-place-preserved : goal.loop-place-preserved
loop-place-preserved g c =
    record {
      kept = search rules;
      later = search rules;
      count = ap length c.in_ok-keep-in-Ok.ensures ∙ length-append c.loop-place.inputs.items (c.in-Ok.taken ∷ [])
          ∙ ap (λ n. n + 1) c.loop-place.invariant.count;
      short = subst (λ taken. All (λ bytes. length bytes ≤ input_limit) taken) (sym c.in_ok-keep-in-Ok.ensures)
          (short_more c.loop-place.inputs.items c.in-Ok.taken c.loop-place.invariant.short c.in-Ok.ensures.short);
      reads = subst (λ taken. Reads (g.H.Shelf.contents c.args.shelf.now) c.args.names.now (c.loop-place.place + 1) taken)
          (sym c.in_ok-keep-in-Ok.ensures)
          (reads_more _ c.args.names.now c.loop-place.place c.loop-place.inputs.items c.text_at.result.now c.in-Ok.taken
          (search rules) c.text_at.ensures c.loop-place.invariant.reads
          (subst (λ k. ComesTo k (input_at (c.loop-place.place + 1) c.text_at.result.now)
          (Ok c.in-Ok.taken)) c.loop-place.invariant.kept c.in-Ok.ensures.ok));
    }
