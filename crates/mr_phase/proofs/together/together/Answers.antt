use Rattle.std.proofs.Common.{length, map, flat_map, sym, ap, subst, ◌∙◌, arith}
use Rattle.std.specs.Prelude.{All}
use Rattle.std.proofs.lemmas.List.{length-map}
use Rattle.mr_defs.specs.Commutative.{joined, joined_by}
use Rattle.mr_defs.specs.Keyed.{lesser}
use Rattle.mr_defs.specs.Stands.{StandsFor}
use Rattle.mr_base.specs.Noting.{noted_of}
use Rattle.mr_phase.specs.Spread.{IsSpreadOf}
use Rattle.mr_phase.proofs.Everyone.{spread, by_recursion, each_map, tasks_emitted}
use Rattle.std.specs.List.Sorted.{IsStrictlySortedBy}
use Rattle.std.specs.FinMap.{find}
use Rattle.std.specs.List.{IsDistinct}
use Rattle.std.specs.Ordering.{eq_by_cmp}
use Rattle.mr_defs.specs.Partitions.{concatenated}
use Rattle.mr_phase.proofs.Partitions.{cells, rows_differ}
use Rattle.mr_phase.proofs.Finish.{pair_of, rows_same, over_same, parts}
use Rattle.mr_phase.proofs.together.together.Goals as goal

pub returns-clause-tasks : goal.returns-clause-tasks
returns-clause-tasks g c pairs tasks all p =
    let es = flat_map pairs tasks in
    let same = tasks_emitted pairs (λ h. h.tasks.items) c.args.mapped.now tasks p in
    let fold = g.L.Fold.Combiner in
    let o = g.met.L.Key.Ord.total in
    let one = g.met.L.Key.Key.only_equal_tie in
    let hands = c.args.mapped.now in
    let ps = c.args.partitions.items in
    let qs = map pair_of ps in
    let facts = c.in_ok-reduced.ensures in
    let made = parts o one (λ k. joined_by fold.merged (λ h. g.L.Parted.cell h.local k) hands)
    (g.L.Parted.part_of c.args.parts) fold.over g.R.Reducer.answer ps c.requires.each in
    subst (λ lists. IsSpreadOf g.L.Key.Ord.cmp g.L.Parted.inside g.R.Reducer.folded lists (noted_of c.in_ok-reduced.reduced.faults) es)
    (rows_same ps ∙ sym facts.lists)
    (spread o one g.L.Parted.inside fold.unit_of g.met.L.Fold.Combiner.laws (λ h. g.L.Parted.cell h.local)
    (λ h. g.L.Local.cell_count h.local) (λ h. g.L.Local.noted h.local)
    (λ h. flat_map pairs h.tasks.items) fold.over g.R.Reducer.answer g.R.Reducer.folded g.met.R.Reducer.is_fold
    (g.L.Parted.part_of c.args.parts)
    hands
    (each_map (λ h. g.L.Local.stands h.local (flat_map pairs h.tasks.items))
    (λ h. StandsFor g.L.Key.Ord.cmp g.L.Parted.inside fold.unit_of fold.merged (g.L.Parted.cell h.local) (g.L.Local.cell_count h.local)
    (g.L.Local.noted h.local) (flat_map pairs h.tasks.items)) (λ h s. g.met.L.Parted.means h.local (flat_map pairs h.tasks.items) s) hands
    (by_recursion (λ h. g.L.Local.stands h.local (flat_map pairs h.tasks.items)) hands all))
    es same qs made.0
    (λ k. let below = g.met.L.Parted.parts_below c.args.parts k c.requires.some in
    omega (arith, below, length-map ps pair_of, c.requires.count))
    made.1
    (noted_of c.in_ok-reduced.reduced.faults)
    (facts.malformed ∙ ap (λ n. n.malformed) c.in_ok-faults.ensures)
    (facts.outside ∙ ap (λ n. n.outside) c.in_ok-faults.ensures)
    (facts.twice ∙ ap (λ n. n.twice) c.in_ok-faults.ensures)
    (facts.over ∙ ap (λ f. joined (lesser g.L.Key.Ord.cmp) f (joined_by (lesser g.L.Key.Ord.cmp) (λ p. p.over) ps))
    (ap (λ n. n.over) c.in_ok-faults.ensures)
    ∙ ap (joined (lesser g.L.Key.Ord.cmp) (joined_by (lesser g.L.Key.Ord.cmp) (λ h. (g.L.Local.noted h.local).over) hands))
    (sym (over_same (lesser g.L.Key.Ord.cmp) ps))))

pub returns-clause-ascend : goal.returns-clause-ascend
returns-clause-ascend g c =
    let fold = g.L.Fold.Combiner in
    let ps = c.args.partitions.items in
    let made = parts g.met.L.Key.Ord.total g.met.L.Key.Key.only_equal_tie
    (λ k. joined_by fold.merged (λ h. g.L.Parted.cell h.local k) c.args.mapped.now)
    (g.L.Parted.part_of c.args.parts) fold.over g.R.Reducer.answer ps c.requires.each in
    subst (λ lists. All (λ list. IsStrictlySortedBy g.L.Key.Ord.cmp (map (λ row. row.0) list)) lists)
    (rows_same ps ∙ sym c.in_ok-reduced.ensures.lists) made.1

pub returns-clause-cells : goal.returns-clause-cells
returns-clause-cells g c k =
    let fold = g.L.Fold.Combiner in
    let o = g.met.L.Key.Ord.total in
    let one = g.met.L.Key.Key.only_equal_tie in
    let ps = c.args.partitions.items in
    let made = parts o one (λ k. joined_by fold.merged (λ h. g.L.Parted.cell h.local k) c.args.mapped.now)
    (g.L.Parted.part_of c.args.parts) fold.over g.R.Reducer.answer ps c.requires.each in
    ap (λ lists. find g.L.Key.Ord.cmp k (concatenated lists)) (c.in_ok-reduced.ensures.lists ∙ sym (rows_same ps))
    ∙ cells o one (λ k. joined_by fold.merged (λ h. g.L.Parted.cell h.local k) c.args.mapped.now)
    (g.L.Parted.part_of c.args.parts) fold.over g.R.Reducer.answer (map pair_of ps) made.0
    (λ k. let below = g.met.L.Parted.parts_below c.args.parts k c.requires.some in
    omega (arith, below, length-map ps pair_of, c.requires.count)) k

pub returns-clause-differ : goal.returns-clause-differ
returns-clause-differ g c =
    let fold = g.L.Fold.Combiner in
    let o = g.met.L.Key.Ord.total in
    let one = g.met.L.Key.Key.only_equal_tie in
    let ps = c.args.partitions.items in
    let made = parts o one (λ k. joined_by fold.merged (λ h. g.L.Parted.cell h.local k) c.args.mapped.now)
    (g.L.Parted.part_of c.args.parts) fold.over g.R.Reducer.answer ps c.requires.each in
    subst (λ lists. IsDistinct (eq_by_cmp g.L.Key.Ord.cmp) (map (λ row. row.0) (concatenated lists)))
    (rows_same ps ∙ sym c.in_ok-reduced.ensures.lists)
    (rows_differ o one (λ k. joined_by fold.merged (λ h. g.L.Parted.cell h.local k) c.args.mapped.now)
    (g.L.Parted.part_of c.args.parts) fold.over g.R.Reducer.answer (map pair_of ps) made.0)

pub returns-clause-count : goal.returns-clause-count
returns-clause-count g c = ap length c.in_ok-reduced.ensures.lists ∙ length-map c.args.partitions.items (λ p. p.rows) ∙ c.requires.count
