use Rattle.std.proofs.Common.{◌≡◌, ◌++◌, ◌∙◌, ℕ, List, [], None, Some, length, map, option_map, ap, arith, refl, subst, sym}
use Rattle.std.specs.List.{All, flat_map}
use Rattle.call_trie.specs.Merging.{AllStandFor}
use Rattle.call_trie.specs.Tries.{Trie}
use Rattle.fault_words.specs.Words.{words_text}
use Rattle.flame_graph.specs.Frames.{AreStacks}
use Rattle.function_names.specs.Name.{program_names}
use Rattle.machine_step.specs.EndedText.{thread_text}
use Rattle.machine_step.specs.Traced.{IsDone, Traced}
use Rattle.stack_rebuild.specs.Stacks.{PathRow, stack_of_threads, told}
use Rattle.traced_run.specs.Runs.{events_of}
use Rattle.xray_image.specs.Program.{Program}
use Rattle.xray_io.specs.World.{desk_view, sink_view}
use Rattle.xray_program.specs.Commands.{doing_of}
use Rattle.xray_program.specs.private.Profiled.{HaveProfiled, said_by}
use Rattle.xray_program.specs.Profile.{states_before, trouble_of}
use Rattle.xray_program.specs.Stack.{rows_text}
use Rattle.xray_program.specs.Traced.{state_texts}
use Rattle.xray_program.specs.declared.stop.Stop.TheVariants as stops
use Rattle.xray_program.proofs.WorkEndings.{finishes_with, refuses}
use Rattle.xray_program.proofs.ProfiledThreads.{all_live, profile_done, profile_fell, were_profiled}
use Rattle.xray_program.proofs.RunWritten.{threads_ended, threads_printed}
use Rattle.xray_program.proofs.StartedThreads.{delivers_something, none_at_memory, ran_out}
use Rattle.xray_program.proofs.profile.finish.Goals as goal

pub returns-in_err-steps-clause-finishes : goal.returns-in_err-steps-clause-finishes
returns-in_err-steps-clause-finishes g c =
    refuses _ (desk_view g.D.Desk.held g.D.Desk.read_faults g.D.Desk.write_faults c.args.desk.now)
    (sink_view g.O.Sink.written g.O.Sink.faults c.args.out.now) (g.D.Desk.along c.args.desk.now c.args.desk.now) stops.NoMemory c.from_residual.result c.from_residual.ensures.1
    ((refl, refl), record { calls = []; way = g.met.D.Desk.along_none c.args.desk.now; are = refl })

pub returns-in_err-end-clause-finishes : goal.returns-in_err-end-clause-finishes
returns-in_err-end-clause-finishes g c =
    refuses _ (desk_view g.D.Desk.held g.D.Desk.read_faults g.D.Desk.write_faults c.args.desk.now)
    (sink_view g.O.Sink.written g.O.Sink.faults c.args.out.now) (g.D.Desk.along c.args.desk.now c.args.desk.now) stops.NoMemory c.from_residual-in_err-end.result c.from_residual-in_err-end.ensures.1
    ((refl, refl), record { calls = []; way = g.met.D.Desk.along_none c.args.desk.now; are = refl })

pub returns-in_err-rows-in-None-clause-finishes : goal.returns-in_err-rows-in-None-clause-finishes
returns-in_err-rows-in-None-clause-finishes g c =
    refuses _ (desk_view g.D.Desk.held g.D.Desk.read_faults g.D.Desk.write_faults c.args.desk.now)
    (sink_view g.O.Sink.written g.O.Sink.faults c.args.out.now) (g.D.Desk.along c.args.desk.now c.args.desk.now) stops.NoMemory c.from_residual-in_err-rows-in-None.result c.from_residual-in_err-rows-in-None.ensures.1
    ((refl, refl), record { calls = []; way = g.met.D.Desk.along_none c.args.desk.now; are = refl })

pub trouble_of-requires : goal.trouble_of-requires
trouble_of-requires g c = omega (arith, ap length c.deref.ensures.value, c.in_ok-end.ensures.few)

pub deliver_states-requires : goal.deliver_states-requires
deliver_states-requires g c =
    let have = c.in_ok-end.ensures.profiled in
    record {
      done = subst (All (λ t. IsDone t.want)) (sym c.deref-in-Some.ensures.value) (threads_ended have.runs c.in_ok-end.end.cpus.items have.count have.cpus_are);
    }

pub returns-in-Some-clause-finishes : goal.returns-in-Some-clause-finishes
returns-in-Some-clause-finishes g c =
    let seen = desk_view g.D.Desk.held g.D.Desk.read_faults g.D.Desk.write_faults in
    let got = sink_view g.O.Sink.written g.O.Sink.faults in
    let s = c.args.command.now in
    let program = c.args.inputs.image in
    let have : HaveProfiled s.options program c.args.inputs.script c.in_ok-end.end.cpus.items c.in_ok-end.end.recorders.items =
    subst (λ (p : Program). HaveProfiled s.options p c.args.inputs.script c.in_ok-end.end.cpus.items c.in_ok-end.end.recorders.items) c.in_ok-steps.ensures.program
    c.in_ok-end.ensures.profiled in
    let trouble = words_text c.in-Some.trouble in
    let text = flat_map thread_text c.deref-in-Some.result.now in
    let is : text ≡ _ = ap (λ (ts : List Traced). flat_map thread_text ts) c.deref-in-Some.ensures.value ∙ threads_printed have.runs c.in_ok-end.end.cpus.items have.count have.cpus_are in
    let wrong : Some trouble ≡ trouble_of 1 (map (λ (t : Trie). t.state) c.deref.result.now) = ap (option_map words_text) (sym c.in-Some.is) ∙ c.trouble_of.ensures in
    finishes_with (doing_of (said_by s)).leaves (c.args.inputs.image, c.args.inputs.script) [] text (Some trouble) (seen c.args.desk.now) (seen c.deliver_states.new.desk) (got c.args.out.now)
    (got c.deliver_states.new.out) (g.D.Desk.along c.args.desk.now c.deliver_states.new.desk) c.deliver_states.result (
      have.runs,
      were_profiled c.what_runs_leave.ensures c.each_was_accepted.ensures.0 s.options program c.args.inputs.script c.in_ok-end.end.cpus.items
          c.in_ok-end.end.recorders.items c.each_was_accepted.ensures.1 have,
      profile_fell s.options program have.runs text trouble is
          (wrong ∙ ap (λ (ts : List Trie). trouble_of 1 (map (λ (t : Trie). t.state) ts)) c.deref.ensures.value ∙ ap (trouble_of 1) have.states),
    )
    c.deliver_states.ensures.delivers

pub merged-requires : goal.merged-requires
merged-requires g c =
    let none : None ≡ trouble_of 1 (map (λ (t : Trie). t.state) c.deref.result.now) = ap (option_map words_text) (sym c.in-None.is) ∙ c.trouble_of.ensures in
    all_live 1 c.deref-in-None.result.now
    (ap (λ (ts : List Trie). trouble_of 1 (map (λ (t : Trie). t.state) ts)) (c.deref-in-None.ensures.value ∙ sym c.deref.ensures.value) ∙ sym none)

pub deliver_report-requires-clause-done : goal.deliver_report-requires-clause-done
deliver_report-requires-clause-done g c =
    let have = c.in_ok-end.ensures.profiled in
    subst (All (λ t. IsDone t.want)) (sym c.deref-in-None-2.ensures.value) (threads_ended have.runs c.in_ok-end.end.cpus.items have.count have.cpus_are)

pub deliver_report-requires-clause-rows : goal.deliver_report-requires-clause-rows
deliver_report-requires-clause-rows g c =
    let have = c.in_ok-end.ensures.profiled in
    let threads = map events_of have.runs in
    let stand = subst (λ (ts : List Trie). AllStandFor ts threads) (sym c.deref-in-None.ensures.value) have.stand in
    let rows : map told c.deref-in-None-3.result.now ≡ stack_of_threads threads =
    ap (map told) c.deref-in-None-3.ensures.value ∙ c.in_ok-rows-in-None.ensures threads stand in
    subst AreStacks (sym rows) (c.stacks_of_threads_can_be_drawn.ensures threads)

pub returns-clause-finishes : goal.returns-clause-finishes
returns-clause-finishes g c =
    let seen = desk_view g.D.Desk.held g.D.Desk.read_faults g.D.Desk.write_faults in
    let got = sink_view g.O.Sink.written g.O.Sink.faults in
    let s = c.args.command.now in
    let program = c.args.inputs.image in
    let cpus = c.in_ok-end.end.cpus.items in
    let have : HaveProfiled s.options program c.args.inputs.script cpus c.in_ok-end.end.recorders.items =
    subst (λ (p : Program). HaveProfiled s.options p c.args.inputs.script cpus c.in_ok-end.end.recorders.items) c.in_ok-steps.ensures.program
    c.in_ok-end.ensures.profiled in
    let threads = map events_of have.runs in
    let states = flat_map thread_text c.deref-in-None-2.result.now in
    let printed : states ≡ state_texts 1 have.runs =
    ap (λ (ts : List Traced). flat_map thread_text ts) c.deref-in-None-2.ensures.value ∙ threads_printed have.runs cpus have.count have.cpus_are in
    let stand = subst (λ (ts : List Trie). AllStandFor ts threads) (sym c.deref-in-None.ensures.value) have.stand in
    let rows : map told c.deref-in-None-3.result.now ≡ stack_of_threads threads =
    ap (map told) c.deref-in-None-3.ensures.value ∙ c.in_ok-rows-in-None.ensures threads stand in
    let shown : List PathRow → List ℕ = λ rs. rows_text s.options.format 0 (program_names program) rs in
    let before : List ℕ → List ℕ = λ t. states_before s.options.format t in
    let text = before states ++ shown (map told c.deref-in-None-3.result.now) in
    let is : text ≡ before (state_texts 1 have.runs) ++ shown (stack_of_threads threads) =
    ap (λ (t : List ℕ). before t ++ shown (map told c.deref-in-None-3.result.now)) printed
    ∙ ap (λ (rs : List PathRow). before (state_texts 1 have.runs) ++ shown rs) rows in
    let none : None ≡ trouble_of 1 (map (λ (t : Trie). t.state) c.deref.result.now) = ap (option_map words_text) (sym c.in-None.is) ∙ c.trouble_of.ensures in
    finishes_with (doing_of (said_by s)).leaves (c.args.inputs.image, c.args.inputs.script) [] text None (seen c.args.desk.now) (seen c.deliver_report.new.desk) (got c.args.out.now)
    (got c.deliver_report.new.out) (g.D.Desk.along c.args.desk.now c.deliver_report.new.desk) c.deliver_report.result (
      have.runs,
      were_profiled c.what_runs_leave.ensures c.each_was_accepted.ensures.0 s.options program c.args.inputs.script c.in_ok-end.end.cpus.items
          c.in_ok-end.end.recorders.items c.each_was_accepted.ensures.1 have,
      profile_done s.options program have.runs text is
          (none ∙ ap (λ (ts : List Trie). trouble_of 1 (map (λ (t : Trie). t.state) ts)) c.deref.ensures.value ∙ ap (trouble_of 1) have.states),
    )
    c.deliver_report.ensures.delivers

pub returns-in_err-steps-clause-stops : goal.returns-in_err-steps-clause-stops
returns-in_err-steps-clause-stops g c = ran_out c.from_residual.result c.from_residual.ensures.1

pub returns-in_err-end-clause-stops : goal.returns-in_err-end-clause-stops
returns-in_err-end-clause-stops g c = ran_out c.from_residual-in_err-end.result c.from_residual-in_err-end.ensures.1

pub returns-in_err-rows-in-None-clause-stops : goal.returns-in_err-rows-in-None-clause-stops
returns-in_err-rows-in-None-clause-stops g c = ran_out c.from_residual-in_err-rows-in-None.result c.from_residual-in_err-rows-in-None.ensures.1

pub returns-in-Some-clause-stops : goal.returns-in-Some-clause-stops
returns-in-Some-clause-stops g c unwriting =
    let seen = desk_view g.D.Desk.held g.D.Desk.read_faults g.D.Desk.write_faults in
    let got = sink_view g.O.Sink.written g.O.Sink.faults in
    absurd (delivers_something [] (flat_map thread_text c.deref-in-Some.result.now) (Some (words_text c.in-Some.trouble))
    (seen c.args.desk.now) (seen c.deliver_states.new.desk) (got c.args.out.now) (got c.deliver_states.new.out)
    (g.D.Desk.along c.args.desk.now c.deliver_states.new.desk) c.deliver_states.result c.deliver_states.ensures.delivers unwriting)

pub returns-clause-stops : goal.returns-clause-stops
returns-clause-stops g c unwriting =
    let seen = desk_view g.D.Desk.held g.D.Desk.read_faults g.D.Desk.write_faults in
    let got = sink_view g.O.Sink.written g.O.Sink.faults in
    let format = c.args.command.now.options.format in
    let text = states_before format (flat_map thread_text c.deref-in-None-2.result.now)
    ++ rows_text format 0 (program_names c.args.inputs.image) (map told c.deref-in-None-3.result.now) in
    absurd (delivers_something [] text None
    (seen c.args.desk.now) (seen c.deliver_report.new.desk) (got c.args.out.now) (got c.deliver_report.new.out)
    (g.D.Desk.along c.args.desk.now c.deliver_report.new.desk) c.deliver_report.result c.deliver_report.ensures.delivers unwriting)

pub returns-in_err-steps-clause-started : goal.returns-in_err-steps-clause-started
returns-in_err-steps-clause-started g c came = absurd (none_at_memory c.from_residual.result c.from_residual.ensures.1 came)

pub returns-in_err-end-clause-started : goal.returns-in_err-end-clause-started
returns-in_err-end-clause-started g c came = absurd (none_at_memory c.from_residual-in_err-end.result c.from_residual-in_err-end.ensures.1 came)

pub returns-in_err-rows-in-None-clause-started : goal.returns-in_err-rows-in-None-clause-started
returns-in_err-rows-in-None-clause-started g c came = absurd (none_at_memory c.from_residual-in_err-rows-in-None.result c.from_residual-in_err-rows-in-None.ensures.1 came)
