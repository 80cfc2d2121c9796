use Rattle.std.proofs.Common.{◌∙◌, ◌<◌, ◌≤◌, List, ℕ, Ok, ap, arith, length, map, subst, sym}
use Rattle.std.proofs.lemmas.List.{length-map}
use Rattle.function_names.specs.Name.{naming}
use Rattle.xray_io.specs.Text.{AddsText, adds_nothing}
use Rattle.stack_rebuild.specs.declared.stack_row.StackRow.{StackRow}
use Rattle.stack_rebuild.specs.Stacks.{PathRow, told}
use Rattle.flame_graph.specs.Picture.{least_width, most_levels, width_of}
use Rattle.flame_graph.proofs.DrawnFrames.{is_wide, line_drawn, not_left, on_ok_from, text_none, too_long, too_thin}
use Rattle.flame_graph.specs.private.Walking.{calls_by}
use Rattle.flame_graph.proofs.Measures.{told_at}
use Rattle.flame_graph.proofs.walk.add_frame.Goals as goal

pub returns-then-frame-gt-MOST_LEVELS-clause-adds : goal.returns-then-frame-gt-MOST_LEVELS-clause-adds
returns-then-frame-gt-MOST_LEVELS-clause-adds g c =
    let rows = map told c.args.picture.now.rows.now in
    let names = naming c.args.picture.now.names in
    let long : most_levels < length c.args.frame.now = omega arith in
    let P : List ℕ → Type 0 = λ t. AddsText g.S.Sink.written g.S.Sink.faults g.S.Sink.along c.args.to.now c.args.to.now t (Ok tt) in
    subst P (sym (text_none names rows c.args.frame.now (too_long rows c.args.frame.now long))) (adds_nothing g.met.S.Sink.along_none c.args.to.now)

pub returns-then-place-lt-LEAST_WIDTH-clause-adds : goal.returns-then-place-lt-LEAST_WIDTH-clause-adds
returns-then-place-lt-LEAST_WIDTH-clause-adds g c =
    let rows = map told c.args.picture.now.rows.now in
    let names = naming c.args.picture.now.names in
    let thin : width_of rows c.args.frame.now < least_width = omega (arith, c.if-place-lt-LEAST_WIDTH.true, c.place_of-place.ensures.width) in
    let P : List ℕ → Type 0 = λ t. AddsText g.S.Sink.written g.S.Sink.faults g.S.Sink.along c.args.to.now c.args.to.now t (Ok tt) in
    subst P (sym (text_none names rows c.args.frame.now (too_thin rows c.args.frame.now thin))) (adds_nothing g.met.S.Sink.along_none c.args.to.now)

pub returns-clause-adds : goal.returns-clause-adds
returns-clause-adds g c =
    let rows = map told c.args.picture.now.rows.now in
    let names = naming c.args.picture.now.names in
    let frame = c.args.frame.now in
    let few : length frame ≤ most_levels = omega arith in
    let wide : least_width ≤ width_of rows frame = omega (arith, c.if-place-lt-LEAST_WIDTH.false, c.place_of-place.ensures.width) in
    let place = c.place_of-place.ensures in
    let kept = c.requires.kept few in
    let row = c.index-picture-walk.result in
    let calls = c.of_frame-calls.ensures
    ∙ (ap (λ (r : StackRow). calls_by (told r) (length frame)) (sym c.index-picture-walk.is)
    ∙ (ap (λ (r : PathRow). calls_by r (length frame)) (sym (told_at c.args.picture.now.rows.now _ row (omega (arith, kept.first, length-map c.args.picture.now.rows.now told)) c.index-picture-walk.is))
    ∙ kept.calls (told row))) in
    let P : List ℕ → Type 0 = λ t. AddsText g.S.Sink.written g.S.Sink.faults g.S.Sink.along c.args.to.now c.add_frame_line.new.to t c.add_frame_line.result in
    subst P (line_drawn names rows frame _ _ _ _ (is_wide rows frame few wide) place.left place.width place.top calls) c.add_frame_line.ensures

pub returns-clause-left : goal.returns-clause-left
returns-clause-left g c =
    let rows = map told c.args.picture.now.rows.now in
    let few : length c.args.frame.now ≤ most_levels = omega arith in
    let wide : least_width ≤ width_of rows c.args.frame.now = omega (arith, c.if-place-lt-LEAST_WIDTH.false, c.place_of-place.ensures.width) in
    on_ok_from c.add_frame_line.result (not_left rows c.args.frame.now c.args.left.now (is_wide rows c.args.frame.now few wide) (omega arith))
