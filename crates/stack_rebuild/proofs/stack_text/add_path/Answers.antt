use Rattle.std.proofs.Common.{List, ℕ, subst}
use Rattle.xray_io.specs.Text.{AddsText, adds_more}
use Rattle.stack_rebuild.proofs.Lines.{path_from}
use Rattle.function_names.specs.Name.{naming}
use Rattle.stack_rebuild.proofs.stack_text.add_path.Goals as goal

pub returns-in_ok-add_name-in-len1-up : goal.returns-in_ok-add_name-in-len1-up
returns-in_ok-add_name-in-len1-up g c =
    subst (λ (t : List ℕ). AddsText g.S.Sink.written g.S.Sink.faults g.S.Sink.along c.args.text.now c.add_callee_names.new.text t c.add_callee_names.result)
    (path_from (naming c.args.names) c.args.path.now c.in-len1-up.len_at_least)
    (adds_more g.met.S.Sink.along_both c.in_ok-add_name-in-len1-up.ensures c.add_callee_names.ensures)
