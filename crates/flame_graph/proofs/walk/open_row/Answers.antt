use Rattle.std.proofs.Common.{◌≡◌, ◌∙◌, ◌<◌, ℕ, List, add-one, ap, arith, length, map, take}
use Rattle.std.proofs.lemmas.List.{length-map}
use Rattle.stack_rebuild.specs.declared.stack_row.StackRow.{StackRow}
use Rattle.stack_rebuild.specs.Stacks.{told}
use Rattle.flame_graph.specs.Frames.{own_sum, frames_total}
use Rattle.flame_graph.specs.Picture.{thousandths_at}
use Rattle.flame_graph.specs.private.Walking.{Opening}
use Rattle.flame_graph.proofs.OpenFrames.{begins_within, row_opens}
use Rattle.flame_graph.proofs.Measures.{own_step, path_told}
use Rattle.flame_graph.proofs.Orders.{ascends}
use Rattle.flame_graph.proofs.walk.open_row.Goals as goal

pub thousandths_at-left-requires : goal.thousandths_at-left-requires
thousandths_at-left-requires c =
    let within = begins_within (map told c.args.picture.now.rows.now) c.args.at in
    omega (arith, within, c.requires.stands.place)

pub returns : goal.returns
returns c =
    let all = c.args.picture.now.rows.now in
    let rows = map told all in
    let at = c.args.at in
    let row = c.index-picture-at.result in
    let within : at < length rows = omega (arith, c.requires.within, length-map all told) in
    let path = path_told all at row c.requires.within c.index-picture-at.is in
    let step = own_step all at row c.requires.within c.index-picture-at.is in
    let seam = ap (λ (n : ℕ). own_sum (take n rows)) (add-one at) in
    let size = ap (λ (p : List ℕ). length p) path in
    let own = ap (λ (r : StackRow). r.own) c.index-picture-at.is in
    let long = ap (λ (r : StackRow). length r.path.items) c.index-picture-at.is in
    let total : c.args.picture.now.total ≡ frames_total rows = omega arith in
    let left = c.thousandths_at-left.ensures.at
    ∙ (ap (λ (whole : ℕ). thousandths_at whole c.args.walk.now.place) total ∙ ap (λ (place : ℕ). thousandths_at (frames_total rows) place) c.requires.stands.place) in
    record {
      place = omega (arith, step, seam, own, c.requires.stands.place, c.saturating_add-walk.ensures);
      kept = row_opens rows at c.args.walk.now c.open_frames.new.openings (ascends rows c.requires.ascending) within c.requires.stands c.open_frames.ensures.stay
          (λ n low few up. c.open_frames.ensures.opened n low (omega (arith, few, size, long)) up
          ∙ ap (λ (l : ℕ). let one : Opening = record { left = l; first = at } in one) left);
    }
