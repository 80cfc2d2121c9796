use Rattle.std.proofs.Common.{List, ℕ, Ok, sym, subst}
use Rattle.xray_io.specs.Text.{AddsText, adds_nothing}
use Rattle.function_names.specs.Name.{naming}
use Rattle.call_rows.proofs.CallLines.{no_call, unwanted_call}
use Rattle.call_rows.proofs.printing.add_wanted.Goals as goal

pub returns-else-wants : goal.returns-else-wants
returns-else-wants g c =
    subst (λ (t : List ℕ). AddsText g.S.Sink.written g.S.Sink.faults g.S.Sink.along c.args.to.now c.args.to.now t (Ok tt))
    (unwanted_call c.args.format (naming c.args.names) c.args.wanted.now c.args.row.now c.in-Some.row c.in-Some.is (sym c.if-wants.ensures))
    (adds_nothing g.met.S.Sink.along_none c.args.to.now)

pub returns-in_default : goal.returns-in_default
returns-in_default g c =
    subst (λ (t : List ℕ). AddsText g.S.Sink.written g.S.Sink.faults g.S.Sink.along c.args.to.now c.args.to.now t (Ok tt))
    (no_call c.args.format (naming c.args.names) c.args.wanted.now c.args.row.now c.in_default.is)
    (adds_nothing g.met.S.Sink.along_none c.args.to.now)
