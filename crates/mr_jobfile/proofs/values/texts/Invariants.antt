use Rattle.std.proofs.Common.{◌≡◌, ◌++◌, drop, option_map}
use Rattle.toml.specs.View.{items_view}
use Rattle.mr_jobfile.specs.Forms.{texts_of}
use Rattle.mr_jobfile.proofs.values.texts.Given as goal

abbrev pub invariant-loop-item : goal.invariant-loop-item
invariant-loop-item l =
    texts_of (items_view l.item-items) ≡ option_map (λ rest. l.texts ++ rest) (texts_of (items_view (drop l.item-index l.item-items)))
