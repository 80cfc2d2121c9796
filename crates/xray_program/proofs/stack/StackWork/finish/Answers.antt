use Rattle.std.proofs.Common.{◌≡◌, ◌∙◌, ℕ, List, [], None, codes, map, option_map, ap, refl, sym, subst}
use Rattle.fdr_file.specs.declared.trace.Trace.{Trace}
use Rattle.flame_graph.specs.Frames.{AreStacks}
use Rattle.stack_rebuild.specs.declared.stack_row.StackRow.{StackRow}
use Rattle.stack_rebuild.specs.Stacks.{PathRow, stack_of, told}
use Rattle.function_names.specs.Name.{naming}
use Rattle.map_names.specs.Naming.{Naming}
use Rattle.xray_io.specs.World.{desk_view, sink_view}
use Rattle.xray_program.specs.Outcomes.{Done}
use Rattle.xray_program.specs.Stack.{rows_text, stacks_text}
use Rattle.xray_program.specs.private.NamesTaken.{named_by}
use Rattle.command_words.specs.Views.{source_view}
use Rattle.command_words.specs.Words as words
use Rattle.stack_rebuild.specs.FaultWords.{deep_words}
use Rattle.stack_rebuild.specs.Stacks.{deep_in, most_open}
use Rattle.xray_program.specs.Commands.{doing_of}
use Rattle.xray_program.specs.Doings.{MayLeave}
use Rattle.xray_program.proofs.WorkEndings.{finishes, goes_on}
use Rattle.xray_program.proofs.StackLaws.{stacks_told}
use Rattle.xray_program.proofs.stack.StackWork.finish.Goals as goal

pub returns-in-Ok-clause-finishes : goal.returns-in-Ok-clause-finishes
returns-in-Ok-clause-finishes g c =
    let seen = desk_view g.D.Desk.held g.D.Desk.read_faults g.D.Desk.write_faults in
    let got = sink_view g.O.Sink.written g.O.Sink.faults in
    let s = c.args.self.now in
    let inputs = c.args.inputs.now in
    let names = named_by inputs.names in
    let shown = naming c.as_names.result in
    let rows = map told c.deref.result.now in
    let text = rows_text s.format inputs.log.frequency shown rows in
    let same : (trace : Trace) → rows ≡ stack_of trace.blocks → inputs.log.frequency ≡ trace.header.frequency → text ≡ stacks_text s.format names trace =
    λ trace are often.
    ap (λ (given : Naming). rows_text s.format inputs.log.frequency given rows) c.as_names.ensures
    ∙ (ap (λ (frequency : ℕ). rows_text s.format frequency names rows) often
    ∙ ap (λ (all : List PathRow). rows_text s.format trace.header.frequency names all) are) in
    finishes _ [] text None (seen c.args.desk.now)
    (seen c.deliver.new.desk) (got c.args.out.now) (got c.deliver.new.out) (g.D.Desk.along c.args.desk.now c.deliver.new.desk) c.deliver.result
    (λ read says.
    let trace = read.0 in
    let told_so = stacks_told inputs.log.rows c.in-Ok.rows trace c.in-Ok.is says.0.rows in
    subst (λ (given : Naming). MayLeave ((doing_of (words.Stack s.trace.now (source_view s.names) s.format)).leaves (trace, given)) (Done [] text)) says.1
    (goes_on (option_map deep_words (deep_in most_open trace.blocks)) s.trace.now (codes "trace") (λ outcome. outcome ≡ Done [] (stacks_text s.format names trace)) _
    (ap (option_map deep_words) told_so.1)
    (ap (Done []) (same trace (ap (λ (rs : List StackRow). map told rs) c.deref.ensures.value ∙ told_so.0) says.0.frequency)))) c.deliver.ensures.delivers

pub deliver-requires : goal.deliver-requires
deliver-requires g c =
    let trace = c.requires.0 in
    let told_so = stacks_told c.args.inputs.now.log.rows c.in-Ok.rows trace c.in-Ok.is c.requires.1.rows in
    let are : map told c.deref.result.now ≡ stack_of trace.blocks = ap (λ (rs : List StackRow). map told rs) c.deref.ensures.value ∙ told_so.0 in
    λ k. ((refl, tt), (tt, subst (λ (rs : List PathRow). AreStacks rs) (sym are) (c.stacks_can_be_drawn.ensures trace.blocks)))
