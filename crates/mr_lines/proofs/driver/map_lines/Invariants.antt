use Rattle.std.proofs.Common.{◌≡◌, ◌≢◌, ◌≤◌, ◌-◌, true, negsuc}
use Rattle.std.specs.List.{All}
use Rattle.mr_defs.specs.Folded.{limit}
use Rattle.mr_defs.specs.Tasks.{task_emissions}
use Rattle.mr_items.specs.Lines.{is_line_boundary, line_places}
use Rattle.mr_container.specs.Block.{block_emissions}
use Rattle.mr_text.specs.Sent.{Sent}
use Rattle.mr_lines.proofs.driver.map_lines.Given as goal

abbrev pub invariant-loop-at : goal.invariant-loop-at
invariant-loop-at g l = record {
  later : l.piece-inside.start ≤ l.at;
  inside : l.at ≤ l.piece-inside.end;
  between : is_line_boundary l.text l.at ≡ true;
  ready : g.J.LineJob.ready l.job l.state l.piece-inside.end l.at;
  allowed : All (λ p. g.K.Key.allowed p.0 × (p.1 ≢ negsuc limit)) l.block.items;
  sent : Sent g.L.Local.stands l.initial.out l.out
      (task_emissions (g.J.LineJob.emits l.job) (line_places l.text) (l.piece-inside.start, l.at)) (block_emissions l.block.items);
  origin : g.L.Local.same_origin l.initial.out l.out;
}

abbrev pub decreases-loop-at : goal.decreases-loop-at
decreases-loop-at g l = l.piece-inside.end - l.at
