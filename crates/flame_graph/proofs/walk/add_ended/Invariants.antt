use Rattle.std.proofs.Common.{◌≡◌, ◌+◌, ◌-◌, Ok, map, take}
use Rattle.std.specs.List.{flat_map}
use Rattle.function_names.specs.Name.{naming}
use Rattle.xray_io.specs.Text.{AddsText}
use Rattle.stack_rebuild.specs.Stacks.{told}
use Rattle.flame_graph.specs.FlameText.{frame_text}
use Rattle.flame_graph.specs.Frames.{capped}
use Rattle.flame_graph.specs.private.Walking.{count_left, ended_at}
use Rattle.flame_graph.proofs.walk.add_ended.Given as goal

abbrev pub invariant-frames : goal.invariant-frames
invariant-frames g l = record {
  adds : AddsText g.S.Sink.written g.S.Sink.faults g.S.Sink.along l.fn.to l.to
      (flat_map (frame_text (naming l.picture.names) (map told l.picture.rows.now)) (take (l.outer - l.walk.standing) (ended_at (map told l.picture.rows.now) l.at))) (Ok tt);
  left : l.left ≡ capped (l.fn.left + count_left (map told l.picture.rows.now) (take (l.outer - l.walk.standing) (ended_at (map told l.picture.rows.now) l.at)));
}
