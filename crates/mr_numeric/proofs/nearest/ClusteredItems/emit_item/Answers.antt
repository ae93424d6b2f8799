use Rattle.std.proofs.Common.{◌≡◌, ◌++◌, ◌∷◌, ℕ, [], List, get_or, ap, sym, subst, append-nil, ◌∙◌}
use Rattle.std.specs.Prelude.{OnOk}
use Rattle.std.proofs.lemmas.Option.{get_or_from_slice_get}
use Rattle.std.proofs.lemmas.Result.{on_err_weaker}
use Rattle.mr_defs.specs.Emission.{Emission, Pair}
use Rattle.mr_items.specs.KMeans.{Point, kmeans_emits, nearest}
use Rattle.mr_numeric.proofs.nearest.ClusteredItems.emit_item.Given.{Over}
use Rattle.mr_numeric.proofs.nearest.ClusteredItems.emit_item.Goals.{After-emit}
use Rattle.mr_numeric.proofs.nearest.ClusteredItems.emit_item.Goals as goal

-- a point emits itself for the nearest mean
point_emits : (means grid : List Point) (i cluster : ℕ) (row point : Point) → get_or grid i [] ≡ row → cluster ≡ nearest means row → point
    ≡ row → Pair cluster point ∷ [] ≡ kmeans_emits means grid i
point_emits means grid i cluster row point is near same = λ k. Pair ((near ∙ ap (nearest means) (sym is)) k) ((same ∙ sym is) k) ∷ []

emits : (g : Over) (c : After-emit g) → Pair c.nearest_mean-cluster.result c.in_ok-point.point ∷ []
    ≡ kmeans_emits c.args.self.now.means.now c.args.self.now.grid.now c.args.item
emits g c =
    point_emits c.args.self.now.means.now c.args.self.now.grid.now c.args.item c.nearest_mean-cluster.result c.row-row.result.now
    c.in_ok-point.point
    (get_or_from_slice_get c.args.self.now.grid.now c.args.item c.row-row.result.now [] c.row-row.ensures.row)
    c.nearest_mean-cluster.ensures.nearest c.in_ok-point.ensures

pub returns-clause-ok : goal.returns-clause-ok
returns-clause-ok g c =
    subst (λ l. OnOk c.emit.result ((es : List (Emission ℕ Point)) → g.L.Local.stands c.args.out.now es
    → g.L.Local.stands c.emit.new.self (es ++ l))) (emits g c) c.emit.ensures.ok

pub returns-clause-err : goal.returns-clause-err
returns-clause-err g c = on_err_weaker c.emit.result (λ same es h.
    (0, subst (g.L.Local.stands c.emit.new.self) (sym (append-nil es)) ((g.met.L.Local.same_keeps _ _ same).0 es h))) c.emit.ensures.err
