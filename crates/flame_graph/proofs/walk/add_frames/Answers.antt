use Rattle.std.proofs.Common.{◌++◌, ◌<◌, ◌≤◌, List, ℕ, [], Ok, ap, arith, length, rules, map, refl, subst, sym, ◌∙◌}
use Rattle.std.specs.List.{flat_map}
use Rattle.function_names.specs.Name.{naming}
use Rattle.std.proofs.lemmas.Grind.{flat_map-append}
use Rattle.std.proofs.lemmas.List.{length-map}
use Rattle.xray_io.specs.Text.{AddsText, adds_failed, adds_more, adds_nothing, adds_within}
use Rattle.stack_rebuild.specs.Stacks.{told}
use Rattle.flame_graph.specs.FlameText.{frame_text}
use Rattle.flame_graph.specs.Frames.{capped}
use Rattle.flame_graph.specs.private.Walking.{count_left, ended_at}
use Rattle.flame_graph.proofs.OpenFrames.{frames_done, frames_more, left_more, stands_first, texts_more}
use Rattle.flame_graph.proofs.Orders.{ascends}
use Rattle.flame_graph.proofs.walk.add_frames.Goals as goal

pub rows-init : goal.rows-init
rows-init g c =
    let rows = map told c.args.picture.now.rows.now in
    ([], refl, adds_nothing g.met.S.Sink.along_none c.args.to.now, omega (arith, c.requires.none), stands_first rows _)

pub rows-preserved : goal.rows-preserved
rows-preserved g c =
    let rows = map told c.args.picture.now.rows.now in
    let text = frame_text (naming c.args.picture.now.names) rows in
    let done = c.rows.invariant.0 in
    let at = c.rows.at in
    let within : at < length rows = omega (arith, c.rows-test.true, length-map c.args.picture.now.rows.now told) in (
      done ++ ended_at rows at,
      frames_more rows at done (ascends rows c.requires.ascending) within c.rows.invariant.1,
      subst (λ (t : List ℕ). AddsText g.S.Sink.written g.S.Sink.faults g.S.Sink.along c.args.to.now c.add_row.new.to t (Ok tt)) (sym (flat_map-append text done (ended_at rows at)))
          (adds_more g.met.S.Sink.along_both c.rows.invariant.2 c.in_ok-add_row.ensures.adds),
      left_more rows done (ended_at rows at) _ _ c.rows.invariant.3 c.in_ok-add_row.ensures.left,
      c.in_ok-add_row.ensures.stands,
    )

pub returns-in_err-add_row : goal.returns-in_err-add_row
returns-in_err-add_row g c = record {
  adds =
      let rows = map told c.args.picture.now.rows.now in
      let text = frame_text (naming c.args.picture.now.names) rows in
      let done = c.rows.invariant.0 in
      let at = c.rows.at in
      let within : at < length rows = omega (arith, c.rows-test.true, length-map c.args.picture.now.rows.now told) in
      let whole = frames_more rows at done (ascends rows c.requires.ascending) within c.rows.invariant.1 in
      adds_failed (adds_within g.met.S.Sink.along_both _ c.rows.invariant.2 c.in_err-add_row.ensures.adds (texts_more text rows at done (ended_at rows at) whole))
      c.from_residual.result c.from_residual.ensures.1;
  left = search rules;
}

pub returns : goal.returns
returns g c =
    let rows = map told c.args.picture.now.rows.now in
    let text = frame_text (naming c.args.picture.now.names) rows in
    let after : length rows ≤ c.rows.at = omega (arith, c.rows-test.false, length-map c.args.picture.now.rows.now told) in
    let all = frames_done rows c.rows.at c.rows.invariant.0 after c.rows.invariant.1 in record {
      adds =
          subst (λ (t : List (List ℕ)). AddsText g.S.Sink.written g.S.Sink.faults g.S.Sink.along c.args.to.now c.rows.to (flat_map text t) (Ok tt)) all c.rows.invariant.2;
      left = c.rows.invariant.3 ∙ ap (λ (some : List (List ℕ)). capped (count_left rows some)) all;
    }
