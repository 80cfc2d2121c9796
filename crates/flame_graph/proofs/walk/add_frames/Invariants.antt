use Rattle.std.proofs.Common.{◌≡◌, ◌++◌, List, ℕ, Ok, drop, map}
use Rattle.std.specs.List.{flat_map}
use Rattle.function_names.specs.Name.{naming}
use Rattle.xray_io.specs.Text.{AddsText}
use Rattle.stack_rebuild.specs.Stacks.{told}
use Rattle.flame_graph.specs.FlameText.{frame_text}
use Rattle.flame_graph.specs.Frames.{capped, frames}
use Rattle.flame_graph.specs.private.Walking.{Stands, count_left}
use Rattle.flame_graph.proofs.walk.add_frames.Given as goal

abbrev pub invariant-rows : goal.invariant-rows
invariant-rows g l = (done : List (List ℕ))
    × (frames (map told l.picture.rows.now) ≡ done ++ frames (drop l.at (map told l.picture.rows.now)))
    × AddsText g.S.Sink.written g.S.Sink.faults g.S.Sink.along l.fn.to l.to
    (flat_map (frame_text (naming l.picture.names) (map told l.picture.rows.now)) done) (Ok tt)
    × (l.left ≡ capped (count_left (map told l.picture.rows.now) done))
    × Stands (map told l.picture.rows.now) l.at l.walk
