-- Whether a frame is drawn, and where.
use Rattle.std.proofs.Common.{◌≡◌, ◌∙◌, ◌<◌, ◌≤◌, ◌+◌, ◌^◌, Bool, true, false, cond, ℕ, List, [], length, ap, sym, arith, leb}
use Rattle.std.specs.Prelude.{Err, Ok, OnOk, Result}
use Rattle.std.proofs.lemmas.Bool.{and_from, and_left, and_right, cond-false, cond-true, le-leb, lt-leb}
use Rattle.map_names.specs.Naming.{Naming}
use Rattle.function_names.specs.Name.{plain_name}
use Rattle.stack_rebuild.specs.Stacks.{PathRow}
use Rattle.flame_graph.specs.declared.frame.Calls.{Calls}
use Rattle.flame_graph.specs.FlameText.{frame_text, func_of, frame_line, top_of}
use Rattle.flame_graph.specs.Frames.{calls_of, capped, end_of, frames_total}
use Rattle.flame_graph.specs.Picture.{is_drawn, least_width, left_of, levels_of, most_levels, width_of}
use Rattle.flame_graph.proofs.FramePlaces.{span_within}

pub too_long : (rows : List PathRow) (frame : List ℕ) → most_levels < length frame → is_drawn rows frame ≡ false
too_long rows frame long = and_left (leb (length frame) most_levels) (leb least_width (width_of rows frame)) (lt-leb (length frame) most_levels long)

pub too_thin : (rows : List PathRow) (frame : List ℕ) → width_of rows frame < least_width → is_drawn rows frame ≡ false
too_thin rows frame thin = and_right (leb (length frame) most_levels) (leb least_width (width_of rows frame)) (lt-leb least_width (width_of rows frame) thin)

pub is_wide : (rows : List PathRow) (frame : List ℕ) → length frame ≤ most_levels → least_width ≤ width_of rows frame → is_drawn rows frame ≡ true
is_wide rows frame few wide =
    and_from (leb (length frame) most_levels) (leb least_width (width_of rows frame)) (le-leb (length frame) most_levels few) (le-leb least_width (width_of rows frame) wide)

-- what is printed of it
pub text_none : (names : Naming) (rows : List PathRow) (frame : List ℕ) → is_drawn rows frame ≡ false → frame_text names rows frame ≡ []
text_none names rows frame misses =
    cond-false (is_drawn rows frame)
    (frame_line (left_of rows frame) (width_of rows frame) (top_of (levels_of rows) (length frame)) (func_of frame) (plain_name names (func_of frame)) (calls_of rows frame)) [] misses

pub text_line : (names : Naming) (rows : List PathRow) (frame : List ℕ) → is_drawn rows frame ≡ true
    → frame_text names rows frame ≡ frame_line (left_of rows frame) (width_of rows frame) (top_of (levels_of rows) (length frame)) (func_of frame) (plain_name names (func_of frame)) (calls_of rows frame)
text_line names rows frame is =
    cond-true (is_drawn rows frame)
    (frame_line (left_of rows frame) (width_of rows frame) (top_of (levels_of rows) (length frame)) (func_of frame) (plain_name names (func_of frame)) (calls_of rows frame)) [] is

-- it is within all rows
pub end_within : (rows : List PathRow) (frame : List ℕ) → end_of rows frame ≤ frames_total rows
end_within rows frame = let span = span_within frame rows in omega (arith, span)

-- and it isn't counted with those that are left out
pub not_left : (rows : List PathRow) (frame : List ℕ) (left : ℕ) → is_drawn rows frame ≡ true → left < 2 ^ 128 → left ≡ capped (left + cond (is_drawn rows frame) 0 1)
not_left rows frame left is low = let none = ap {B = ℕ} (λ (t : Bool). cond t 0 1) is in omega (arith, none, low)

-- what is true is true after a success
pub on_ok_from : {T E P : Type 0} (result : Result T E) → P → OnOk result P
on_ok_from (Ok value) is = is
on_ok_from (Err error) is = tt

-- the line with the frame's own place and calls is its text
pub line_drawn : (names : Naming) (rows : List PathRow) (frame : List ℕ) (left width top : ℕ) (calls : Calls) → is_drawn rows frame ≡ true → left ≡ left_of rows frame
    → width ≡ width_of rows frame → top ≡ top_of (levels_of rows) (length frame) → calls ≡ calls_of rows frame
    → frame_line left width top (func_of frame) (plain_name names (func_of frame)) calls ≡ frame_text names rows frame
line_drawn names rows frame left width top calls is lefts widths tops all =
    let func : ℕ = func_of frame in
    let name : List ℕ = plain_name names func in
    ap (λ (n : ℕ). frame_line n width top func name calls) lefts
    ∙ (ap (λ (n : ℕ). frame_line (left_of rows frame) n top func name calls) widths
    ∙ (ap (λ (n : ℕ). frame_line (left_of rows frame) (width_of rows frame) n func name calls) tops
    ∙ (ap (λ (some : Calls). frame_line (left_of rows frame) (width_of rows frame) (top_of (levels_of rows) (length frame)) func name some) all
    ∙ sym (text_line names rows frame is))))
