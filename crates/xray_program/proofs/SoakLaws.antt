-- `soak`: the summary of a number is there, and is only one thing.
use Rattle.std.proofs.Common.{◌≡◌, ◌≤◌, ◌∙◌, ℕ, false, List, Ok, Result, refl, sym, ap, subst, arith}
use Rattle.asm_text.specs.Assembling.{assembled, image_of, statements_said}
use Rattle.asm_text.specs.Layout.{StatementLines}
use Rattle.asm_text.specs.Programs.{program_said}
use Rattle.asm_text.specs.Writing.{image_bytes}
use Rattle.fdr_file.specs.Grammar.{IsTrace}
use Rattle.fdr_file.specs.Traces.{trace_of}
use Rattle.fdr_file.specs.declared.trace.Trace.{Trace}
use Rattle.machine_step.specs.declared.setup.Setup.{Setup}
use Rattle.patch_script.specs.Plans.{Plan, plan_of}
use Rattle.patch_script.specs.Refusals.{commands_of}
use Rattle.patch_script.specs.WrittenScripts.{written_plan}
use Rattle.soak_inputs.specs.Inputs.{soak_commands, soak_script, soak_text, soak_turns}
use Rattle.soak_inputs.specs.Said.{soak_said}
use Rattle.step_sim.specs.declared.turns.Turns.{Turns}
use Rattle.trace_flush.specs.Flush.{IsTraceOf, trace_bytes}
use Rattle.machine_step.specs.Setups.{IsSetup}
use Rattle.traced_run.specs.Runs.{IsRun, ThreadRun}
use Rattle.xray_image.specs.Ids.{id_count}
use Rattle.xray_image.specs.Program.{IsAccepted, Program}
use Rattle.xray_program.specs.Inputs.{image_form}
use Rattle.xray_program.specs.Soak.{AreInputs, IsSummary, soak_setup, soak_summary}
use Rattle.xray_program.specs.private.Drawn.{InputLaws}
use Rattle.xray_program.specs.private.Lawful.{IsUnique}
use Rattle.xray_program.proofs.RunSetups.{soak_is_setup}
use Rattle.xray_program.proofs.SimLaws.{OneRun, StillRun}

-- what the crates below say: of the inputs of a number, and of the traces of runs
abbrev pub RunTraced : Type 0
RunTraced = (bytes : List ℕ) (program : Program) (setup : Setup) (runs : List ThreadRun)
    → IsAccepted bytes program → IsSetup setup → IsRun program setup runs → IsTraceOf setup runs (trace_bytes setup runs)

pub record DrawnLaws : Type 0 where
  pub inputs : InputLaws
  pub traced : RunTraced
  pub reads : (bytes : List ℕ) (trace : Trace) → IsTrace bytes trace → trace_of bytes ≡ Ok trace

-- ---- the inputs

-- the program of a number
abbrev pub soak_program : (number : ℕ) → Program
soak_program number = program_said 1 (soak_said number)

-- its script, as it is read
abbrev pub soak_plan : (number : ℕ) → Plan
soak_plan number = written_plan (soak_program number) 4 (soak_commands number)

-- it has enough functions for the script
pub enough : InputLaws → (number : ℕ) → 64 ≤ id_count (soak_program number)
enough laws number = omega (arith, laws.ids number 1)

pub assembled_as : (text : List ℕ) (said : StatementLines) → statements_said text ≡ Ok said → assembled text 1 false ≡ Ok (image_bytes (image_of 1 false said))
assembled_as text said is = rw is refl

pub inputs_read : InputLaws → (number : ℕ) → AreInputs number (soak_program number) (soak_plan number) (soak_turns number)
inputs_read laws number = record {
  image = image_bytes (image_of 1 false (soak_said number));
  assembles = assembled_as (soak_text number) (soak_said number) (laws.said number);
  accepted = laws.assembles (soak_text number) 1 false (soak_said number) (laws.said number);
  script_reads = laws.plan number (soak_program number) (enough laws number);
  nobody_waits = laws.waits number (soak_program number) (enough laws number);
  schedule_reads = laws.schedule number;
}

-- ---- one summary

pub same_value : {X F : Type 0} (a b : X) → ◌≡◌ {A = Result X F} (Ok a) (Ok b) → a ≡ b
same_value a b e = cc

-- the inputs of a number are read in only one way
one_program : IsUnique image_form → (number : ℕ) (program other : Program) (plan plan' : Plan) (turns turns' : List Turns)
    → AreInputs number program plan turns → AreInputs number other plan' turns' → program ≡ other
one_program is number program other plan plan' turns turns' x y =
    let image = same_value x.image y.image (sym x.assembles ∙ y.assembles) in
    is.one y.image program other (subst (λ (bytes : List ℕ). IsAccepted bytes program) image x.accepted) y.accepted

one_plan : IsUnique image_form → (number : ℕ) (program other : Program) (plan plan' : Plan) (turns turns' : List Turns)
    → AreInputs number program plan turns → AreInputs number other plan' turns' → plan ≡ plan'
one_plan is number program other plan plan' turns turns' x y =
    let same = one_program is number program other plan plan' turns turns' x y in
    same_value plan plan' (sym x.script_reads ∙ ap (λ (p : Program). plan_of p 4 (soak_script number)) same ∙ y.script_reads)

one_turns : (number : ℕ) (program other : Program) (plan plan' : Plan) (turns turns' : List Turns)
    → AreInputs number program plan turns → AreInputs number other plan' turns' → turns ≡ turns'
one_turns number program other plan plan' turns turns' x y = same_value turns turns' (sym x.schedule_reads ∙ y.schedule_reads)

pub one_summary : IsUnique image_form → OneRun → (number : ℕ) (t u : List ℕ) → IsSummary number t → IsSummary number u → u ≡ t
one_summary is one number t u x y =
    let program = one_program is number x.program y.program x.plan y.plan x.turns y.turns x.inputs y.inputs in
    let plan = one_plan is number x.program y.program x.plan y.plan x.turns y.turns x.inputs y.inputs in
    let turns = one_turns number x.program y.program x.plan y.plan x.turns y.turns x.inputs y.inputs in
    let runs : x.runs ≡ y.runs =
    one y.inputs.image y.program (commands_of y.plan.lines) y.turns soak_setup x.runs y.runs y.inputs.accepted
    (rw (program, plan, turns) at x.replayed) y.replayed in
    let trace : x.trace ≡ y.trace =
    same_value x.trace y.trace (sym x.reads_back ∙ ap (λ rs. trace_of (trace_bytes soak_setup rs)) runs ∙ y.reads_back) in
    y.is ∙ rw (sym runs, sym trace) refl ∙ sym x.is

-- ---- some summary

pub some_summary : StillRun → DrawnLaws → (number : ℕ) → (text : List ℕ) × IsSummary number text
some_summary some laws number =
    let inputs = inputs_read laws.inputs number in
    let program = soak_program number in
    let plan = soak_plan number in
    let run = some inputs.image program (commands_of plan.lines) (soak_turns number) soak_setup plan.lines inputs.accepted refl inputs.nobody_waits in
    let traced = laws.traced inputs.image program soak_setup run.0 inputs.accepted soak_is_setup run.1.run in (
      soak_summary number run.0 traced.trace,
      record {
        program = program;
        plan = plan;
        turns = soak_turns number;
        inputs = inputs;
        runs = run.0;
        replayed = run.1;
        trace = traced.trace;
        reads_back = laws.reads (trace_bytes soak_setup run.0) traced.trace traced.reads;
        is = refl;
      },
    )
