use Rattle.std.proofs.Common.{◌++◌, List, ℕ, subst}
use Rattle.xray_io.specs.Text.{AddsText, adds_more}
use Rattle.stack_rebuild.specs.Stacks.{told}
use Rattle.stack_rebuild.specs.StackText.{stack_head, path_row_text}
use Rattle.stack_rebuild.proofs.Lines.{lines_of}
use Rattle.function_names.specs.Name.{naming}
use Rattle.stack_rebuild.proofs.stack_text.StackTextPrinted.add_to.Goals as goal

pub returns : goal.returns
returns g c = record {
  adds =
      let stacks = c.args.self.now in
      let names = naming stacks.names in
      let head = rw c.head_line.ensures at c.in_ok-bytes.ensures.adds in
      subst (λ (t : List ℕ). AddsText g.S.Sink.written g.S.Sink.faults g.S.Sink.along c.args.to.now c.add_rows.new.text (stack_head stacks.form ++ t) c.add_rows.result)
      (lines_of (path_row_text stacks.form names) told stacks.rows.now) (adds_more g.met.S.Sink.along_both head c.add_rows.ensures);
}
