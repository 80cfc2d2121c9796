use Rattle.std.proofs.Common.{◌≡◌, ◌∙◌, ◌+◌, ◌-◌, ◌<◌, ◌≤◌, List, [], ℕ, Ok, ap, arith, get_or, length, map, subst, suc, sym, take}
use Rattle.std.specs.List.{flat_map}
use Rattle.function_names.specs.Name.{naming}
use Rattle.std.proofs.lemmas.List.{length-map, length-take-le, take_all}
use Rattle.xray_io.proofs.ItemTexts.{adds_broken, adds_next}
use Rattle.xray_io.specs.Text.{AddsText, adds_nothing}
use Rattle.stack_rebuild.specs.declared.stack_row.StackRow.{StackRow}
use Rattle.stack_rebuild.specs.Stacks.{told}
use Rattle.flame_graph.specs.FlameText.{frame_text}
use Rattle.flame_graph.specs.Frames.{capped, end_of}
use Rattle.flame_graph.specs.private.Walking.{IsKept, count_left, ended_at, opening_at, path_at, shared_at}
use Rattle.flame_graph.proofs.OpenFrames.{closes_at, ended_is, frame_cut, left_step, length-ended}
use Rattle.flame_graph.proofs.Measures.{path_told}
use Rattle.flame_graph.proofs.Orders.{ascends}
use Rattle.flame_graph.proofs.walk.add_ended.Goals as goal

pub frames-init : goal.frames-init
frames-init g c =
    let rows = map told c.args.picture.now.rows.now in
    let text = frame_text (naming c.args.picture.now.names) rows in
    let some = ended_at rows c.args.at in
    let zero : c.args.walk.now.standing - c.args.walk.now.standing ≡ 0 = omega arith in
    let none : take (c.args.walk.now.standing - c.args.walk.now.standing) some ≡ [] = ap (λ (k : ℕ). take k some) zero in
    let P : List (List ℕ) → Type 0 = λ l. AddsText g.S.Sink.written g.S.Sink.faults g.S.Sink.along c.args.to.now c.args.to.now (flat_map text l) (Ok tt) in
    let Q : List (List ℕ) → Type 0 = λ l. c.args.left.now ≡ capped (c.args.left.now + count_left rows l) in
    record { adds = subst P (sym none) (adds_nothing g.met.S.Sink.along_none c.args.to.now); left = subst Q (sym none) (omega arith) }

pub add_frame-requires-clause-kept : goal.add_frame-requires-clause-kept
add_frame-requires-clause-kept g c = λ few.
    let all = c.args.picture.now.rows.now in
    let rows = map told all in
    let cut = c.as_slice-path.result.now in
    let outer = c.frames.outer in
    let path = path_at rows c.args.at in
    let same : cut ≡ path = c.as_slice-path.ensures.value
    ∙ (ap (λ (r : StackRow). r.path.items) (sym c.index-picture-at.is) ∙ sym (path_told all c.args.at c.index-picture-at.result c.requires.within c.index-picture-at.is)) in
    let sizes = ap (λ (p : List ℕ). length p) same in
    let size : length (take (outer + 1) cut) ≡ outer + 1 = length-take-le (outer + 1) cut (omega (arith, c.frames-test.true)) in
    let at_end : outer ≡ length (take (outer + 1) cut) - 1 = omega (arith, size) in
    let kept = c.requires.opened.kept outer (omega (arith, c.frames-test.true, sizes)) (omega (arith, few, size)) in
    let P : ℕ → Type 0 = λ k. IsKept rows (take (suc outer) path) (opening_at c.args.walk.now.openings k) in
    let Q : List ℕ → Type 0 = λ f. IsKept rows f (opening_at c.args.walk.now.openings (length (take (outer + 1) cut) - 1)) in
    subst Q (frame_cut cut path outer same) (subst P at_end kept)

pub add_frame-requires-clause-end : goal.add_frame-requires-clause-end
add_frame-requires-clause-end g c =
    let all = c.args.picture.now.rows.now in
    let rows = map told all in
    let cut = c.as_slice-path.result.now in
    let outer = c.frames.outer in
    let path = path_at rows c.args.at in
    let same : cut ≡ path = c.as_slice-path.ensures.value
    ∙ (ap (λ (r : StackRow). r.path.items) (sym c.index-picture-at.is) ∙ sym (path_told all c.args.at c.index-picture-at.result c.requires.within c.index-picture-at.is)) in
    let sizes = ap (λ (p : List ℕ). length p) same in
    let within : c.args.at < length rows = omega (arith, c.requires.within, length-map all told) in
    let over : shared_at rows (suc c.args.at) ≤ outer = omega (arith, c.requires.standing, c.frames.auto.outer) in
    c.requires.opened.place
    ∙ (sym (closes_at rows c.args.at outer (ascends rows c.requires.ascending) within over (omega (arith, c.frames-test.true, sizes)))
    ∙ ap (λ (f : List ℕ). end_of rows f) (frame_cut cut path outer same))

pub returns-in_err-add_frame-clause-adds : goal.returns-in_err-add_frame-clause-adds
returns-in_err-add_frame-clause-adds g c =
    let all = c.args.picture.now.rows.now in
    let rows = map told all in
    let text = frame_text (naming c.args.picture.now.names) rows in
    let some = ended_at rows c.args.at in
    let cut = c.as_slice-path.result.now in
    let outer = c.frames.outer in
    let path = path_at rows c.args.at in
    let same : cut ≡ path = c.as_slice-path.ensures.value
    ∙ (ap (λ (r : StackRow). r.path.items) (sym c.index-picture-at.is) ∙ sym (path_told all c.args.at c.index-picture-at.result c.requires.within c.index-picture-at.is)) in
    let sizes = ap (λ (p : List ℕ). length p) same in
    let over : shared_at rows (suc c.args.at) ≤ outer = omega (arith, c.requires.standing, c.frames.auto.outer) in
    let few : outer < length path = omega (arith, c.frames-test.true, sizes) in
    let from : outer - shared_at rows (suc c.args.at) ≡ outer - c.args.walk.now.standing = omega (arith, c.requires.standing) in
    let within : outer - c.args.walk.now.standing < length some = omega (arith, length-ended rows c.args.at, over, few, from) in
    let is : take (outer + 1) cut ≡ get_or some (outer - c.args.walk.now.standing) [] =
    sym (ap (λ (k : ℕ). get_or some k []) (sym from) ∙ (ended_is rows c.args.at outer [] over few ∙ frame_cut cut path outer same)) in
    adds_broken g.met.S.Sink.along_both text some (outer - c.args.walk.now.standing) [] (take (outer + 1) cut) within is c.frames.invariant.adds c.in_err-add_frame.ensures.adds
    c.from_residual.result c.from_residual.ensures.1

pub frames-preserved : goal.frames-preserved
frames-preserved g c =
    let all = c.args.picture.now.rows.now in
    let rows = map told all in
    let text = frame_text (naming c.args.picture.now.names) rows in
    let some = ended_at rows c.args.at in
    let cut = c.as_slice-path.result.now in
    let outer = c.frames.outer in
    let path = path_at rows c.args.at in
    let same : cut ≡ path = c.as_slice-path.ensures.value
    ∙ (ap (λ (r : StackRow). r.path.items) (sym c.index-picture-at.is) ∙ sym (path_told all c.args.at c.index-picture-at.result c.requires.within c.index-picture-at.is)) in
    let sizes = ap (λ (p : List ℕ). length p) same in
    let over : shared_at rows (suc c.args.at) ≤ outer = omega (arith, c.requires.standing, c.frames.auto.outer) in
    let few : outer < length path = omega (arith, c.frames-test.true, sizes) in
    let from : outer - shared_at rows (suc c.args.at) ≡ outer - c.args.walk.now.standing = omega (arith, c.requires.standing) in
    let within : outer - c.args.walk.now.standing < length some = omega (arith, length-ended rows c.args.at, over, few, from) in
    let there : get_or some (outer - c.args.walk.now.standing) [] ≡ take (outer + 1) cut =
    ap (λ (k : ℕ). get_or some k []) (sym from) ∙ (ended_is rows c.args.at outer [] over few ∙ frame_cut cut path outer same) in
    let seam : outer - c.args.walk.now.standing + 1 ≡ outer + 1 - c.args.walk.now.standing = omega (arith, c.frames.auto.outer) in
    let P : ℕ → Type 0 = λ k. AddsText g.S.Sink.written g.S.Sink.faults g.S.Sink.along c.args.to.now c.add_frame.new.to (flat_map text (take k some)) (Ok tt) in
    let Q : ℕ → Type 0 = λ k. c.add_frame.new.left ≡ capped (c.args.left.now + count_left rows (take k some)) in
    record {
      adds = subst P seam (adds_next g.met.S.Sink.along_both text some (outer - c.args.walk.now.standing) [] (take (outer + 1) cut) within (sym there) c.frames.invariant.adds c.in_ok-add_frame.ensures.adds);
      left = subst Q seam (left_step rows some (outer - c.args.walk.now.standing) [] (take (outer + 1) cut) c.args.left.now c.frames.left c.add_frame.new.left within there c.frames.invariant.left c.in_ok-add_frame.ensures.left);
    }

pub returns-clause-adds : goal.returns-clause-adds
returns-clause-adds g c =
    let all = c.args.picture.now.rows.now in
    let rows = map told all in
    let text = frame_text (naming c.args.picture.now.names) rows in
    let some = ended_at rows c.args.at in
    let same : c.as_slice-path.result.now ≡ path_at rows c.args.at = c.as_slice-path.ensures.value
    ∙ (ap (λ (r : StackRow). r.path.items) (sym c.index-picture-at.is) ∙ sym (path_told all c.args.at c.index-picture-at.result c.requires.within c.index-picture-at.is)) in
    let sizes = ap (λ (p : List ℕ). length p) same in
    let whole : take (c.frames.outer - c.args.walk.now.standing) some ≡ some =
    take_all (c.frames.outer - c.args.walk.now.standing) some (omega (arith, length-ended rows c.args.at, sizes, c.frames-test.false, c.requires.standing)) in
    let P : List (List ℕ) → Type 0 = λ l. AddsText g.S.Sink.written g.S.Sink.faults g.S.Sink.along c.args.to.now c.frames.to (flat_map text l) (Ok tt) in
    subst P whole c.frames.invariant.adds

pub returns-clause-left : goal.returns-clause-left
returns-clause-left g c =
    let all = c.args.picture.now.rows.now in
    let rows = map told all in
    let some = ended_at rows c.args.at in
    let same : c.as_slice-path.result.now ≡ path_at rows c.args.at = c.as_slice-path.ensures.value
    ∙ (ap (λ (r : StackRow). r.path.items) (sym c.index-picture-at.is) ∙ sym (path_told all c.args.at c.index-picture-at.result c.requires.within c.index-picture-at.is)) in
    let sizes = ap (λ (p : List ℕ). length p) same in
    let whole : take (c.frames.outer - c.args.walk.now.standing) some ≡ some =
    take_all (c.frames.outer - c.args.walk.now.standing) some (omega (arith, length-ended rows c.args.at, sizes, c.frames-test.false, c.requires.standing)) in
    let Q : List (List ℕ) → Type 0 = λ l. c.frames.left ≡ capped (c.args.left.now + count_left rows l) in
    subst Q whole c.frames.invariant.left
