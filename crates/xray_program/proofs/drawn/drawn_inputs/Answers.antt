use Rattle.std.proofs.Common.{◌<◌, ◌∙◌, ℕ, List, Result, All, length, ap, arith, refl, subst, sym}
use Rattle.std.specs.Prelude.{IfOk, Ok}
use Rattle.std.specs.Str.Lines.{lines}
use Rattle.asm_text.specs.Assembling.{statements_said}
use Rattle.patch_script.specs.FaultWords.{script_words}
use Rattle.patch_script.specs.Plans.{Plan}
use Rattle.patch_script.specs.declared.fault.ScriptFault.TheVariants as script_faults
use Rattle.soak_inputs.specs.Inputs.{soak_schedule, soak_turns}
use Rattle.soak_inputs.specs.Said.{soak_said}
use Rattle.step_sim.specs.FaultWords.{schedule_words}
use Rattle.step_sim.specs.Schedules.{AreTurnsOf}
use Rattle.step_sim.specs.declared.fault.ScheduleFault.{ScheduleFault}
use Rattle.step_sim.specs.declared.fault.ScheduleFault.TheVariants as schedule_faults
use Rattle.step_sim.specs.declared.turns.Turns.{Turns}
use Rattle.xray_image.specs.Program.{Program}
use Rattle.xray_program.specs.Soak.{AreInputs}
use Rattle.xray_program.proofs.SoakLaws.{inputs_read, soak_plan, soak_program}
use Rattle.xray_program.proofs.SoakReads.{plan_is, schedule_answer, script_answer, turns_are, unrefused_by}
use Rattle.xray_program.proofs.drawn.drawn_inputs.Goals as goal

pub image_of-requires-clause-said : goal.image_of-requires-clause-said
image_of-requires-clause-said c =
    let number = c.args.number in
    (soak_said number, ap statements_said (c.deref.ensures.value ∙ c.in_ok-text.ensures.text) ∙ c.each_input_is_read.ensures.laws.said number)

pub read_script-requires-clause-few_lines : goal.read_script-requires-clause-few_lines
read_script-requires-clause-few_lines c =
    let few = c.each_input_is_read.ensures.script_lines c.args.number in
    subst (λ (text : List ℕ). length (lines text) < 4294967295) (sym (c.deref-2.ensures.value ∙ c.in_ok-text.ensures.script)) (omega (arith, few))

pub unrefused-requires : goal.unrefused-requires
unrefused-requires c =
    let laws = c.each_input_is_read.ensures.laws in
    let number = c.args.number in
    let image = c.in_ok-image.ensures (soak_said number) (ap statements_said (c.deref.ensures.value ∙ c.in_ok-text.ensures.text) ∙ laws.said number) in
    unrefused_by script_words script_faults.NoMemory refl c.read_script.result (soak_plan number)
    (script_answer laws number c.in_ok-image.image c.deref-2.result.now image (c.deref-2.ensures.value ∙ c.in_ok-text.ensures.script)
    c.read_script.result c.read_script.ensures.reads)

pub unrefused-requires-2 : goal.unrefused-requires-2
unrefused-requires-2 c =
    let laws = c.each_input_is_read.ensures.laws in
    let number = c.args.number in
    unrefused_by schedule_words schedule_faults.NoMemory refl c.read_schedule.result (soak_turns number)
    (schedule_answer laws number c.deref-3.result.now (c.deref-3.ensures.value ∙ c.in_ok-text.ensures.schedule)
    c.read_schedule.result c.read_schedule.ensures.reads)

pub returns-clause-inputs : goal.returns-clause-inputs
returns-clause-inputs c =
    let laws = c.each_input_is_read.ensures.laws in
    let number = c.args.number in
    let image = c.in_ok-image.ensures (soak_said number) (ap statements_said (c.deref.ensures.value ∙ c.in_ok-text.ensures.text) ∙ laws.said number) in
    let plan = plan_is laws number c.in_ok-image.image c.deref-2.result.now image (c.deref-2.ensures.value ∙ c.in_ok-text.ensures.script)
    c.read_script.result c.read_script.ensures.reads c.in_ok-script.script c.in_ok-script.ensures in
    let turns = turns_are laws number c.deref-3.result.now (c.deref-3.ensures.value ∙ c.in_ok-text.ensures.schedule)
    c.read_schedule.result c.read_schedule.ensures.reads c.in_ok-schedule.schedule c.in_ok-schedule.ensures in
    subst (λ (p : Program). AreInputs number p c.in_ok-script.script c.in_ok-schedule.schedule) (sym image)
    (subst (λ (p : Plan). AreInputs number (soak_program number) p c.in_ok-schedule.schedule) (sym plan)
    (subst (λ (t : List Turns). AreInputs number (soak_program number) (soak_plan number) t) (sym turns) (inputs_read laws number)))

pub returns-clause-fit : goal.returns-clause-fit
returns-clause-fit c =
    let laws = c.each_input_is_read.ensures.laws in
    let text = ap statements_said (c.deref.ensures.value ∙ c.in_ok-text.ensures.text) ∙ laws.said c.args.number in
    let image = c.in_ok-image.ensures (soak_said c.args.number) text in
    let P : Result (List Turns) ScheduleFault → Type 0 = λ read. IfOk read (All (AreTurnsOf 4)) in
    let plan = plan_is laws c.args.number c.in_ok-image.image c.deref-2.result.now image (c.deref-2.ensures.value ∙ c.in_ok-text.ensures.script)
    c.read_script.result c.read_script.ensures.reads c.in_ok-script.script c.in_ok-script.ensures in
    let turns = turns_are laws c.args.number c.deref-3.result.now (c.deref-3.ensures.value ∙ c.in_ok-text.ensures.schedule)
    c.read_schedule.result c.read_schedule.ensures.reads c.in_ok-schedule.schedule c.in_ok-schedule.ensures in
    record {
      program_is = ap (λ (p : Plan). p.program) plan ∙ sym image;
      threads_are = ap (λ (p : Plan). p.threads) plan;
      turns_of_threads = subst P c.in_ok-schedule.ensures c.read_schedule.ensures.within;
      schedule_read = (soak_schedule c.args.number, laws.schedule c.args.number ∙ ap as_read (sym turns));
    }
  where
    as_read : List Turns → Result (List Turns) ScheduleFault
    as_read turns = Ok turns
