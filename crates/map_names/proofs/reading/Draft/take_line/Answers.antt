use Rattle.std.proofs.Common.{◌≡◌, ◌∙◌, ℕ, Bool, List, sym, ap, subst}
use Rattle.std.specs.Prelude.{Result, Ok}
use Rattle.xray_io.specs.Rows.{First}
use Rattle.map_names.specs.declared.fault.MapFault.{MapFault}
use Rattle.map_names.specs.declared.reading.Part.{Part}
use Rattle.map_names.specs.Maps.{Before, Start, map_line_rows, said_line_rows}
use Rattle.map_names.specs.private.Drafts.{Takes, before_in}
use Rattle.map_names.proofs.reading.Draft.take_line.Goals as goal

pub returns-in-Head : goal.returns-in-Head
returns-in-Head c = λ entries before.
    let line : ℕ × List ℕ = (c.args.line.now.number, c.args.line.now.bytes.now) in
    let rows : map_line_rows (before_in c.args.self.now.part entries) line ≡ said_line_rows Start line =
    ap (λ (p : Part). map_line_rows (before_in p entries) line) c.in-Head.is
    ∙ ap (λ (t : Bool). First t (Ok Start) (said_line_rows Start line)) (sym c.is_comment.ensures ∙ c.if-is_comment.false) in
    subst (λ (r : Result Before MapFault). Takes c.take_head.result r c.take_head.new.self) (sym rows) (c.take_head.ensures entries before)
