use Rattle.std.proofs.Common.{◌++◌, append_assoc, map, refl, sym}
use Rattle.std.specs.List.{flat_map}
use Rattle.function_names.specs.Name.{naming}
use Rattle.xray_io.specs.Text.{adds_failed, adds_more, adds_stop, adds_within}
use Rattle.stack_rebuild.specs.Stacks.{told}
use Rattle.flame_graph.specs.FlameText.{foot_text, frame_text, head_text}
use Rattle.flame_graph.specs.Frames.{frames}
use Rattle.flame_graph.specs.Picture.{left_out, levels_of}
use Rattle.flame_graph.proofs.flame.FlameGraphPrinted.add_to.Goals as goal

pub returns-in_err-add_head : goal.returns-in_err-add_head
returns-in_err-add_head g c =
    let rows = map told c.args.self.now.rows.now in
    let head = head_text c.args.self.now.frequency c.levels_of.result c.total_of.result in
    let middle = flat_map (frame_text (naming c.args.self.now.names) rows) (frames rows) in
    let foot = foot_text (levels_of rows) (left_out rows) in
    record {
      adds = adds_failed (rw (c.levels_of.ensures, c.total_of.ensures) at (rw (sym (append_assoc head middle foot)) at (adds_stop (middle ++ foot) c.in_err-add_head.ensures)))
          c.from_residual.result c.from_residual.ensures.1;
    }

pub returns-in_err-add_frames : goal.returns-in_err-add_frames
returns-in_err-add_frames g c =
    let rows = map told c.args.self.now.rows.now in
    let foot = foot_text (levels_of rows) (left_out rows) in
    record {
      adds = adds_failed (rw (c.levels_of.ensures, c.total_of.ensures) at (adds_within g.met.S.Sink.along_both foot c.in_ok-add_head.ensures c.in_err-add_frames.ensures.adds refl))
          c.from_residual-in_err-add_frames.result c.from_residual-in_err-add_frames.ensures.1;
    }

pub returns : goal.returns
returns g c = record {
  adds = rw (c.levels_of.ensures, c.total_of.ensures, c.in_ok-add_frames.ensures.left) at
      (adds_more g.met.S.Sink.along_both (adds_more g.met.S.Sink.along_both c.in_ok-add_head.ensures c.in_ok-add_frames.ensures.adds) c.add_foot.ensures);
}
