-- The inputs of a number as they are read, and the summary of their replay.
use Rattle.std.proofs.Common.{◌≡◌, ◌⊎◌, ◌↔◌, ◌∙◌, ℕ, false, List, length, None, Option, Some, Ok, Err, Result, inl, inr, refl, sym, ap, subst}
use Rattle.std.specs.Prelude.{IfErr, IfOk, Vec}
use Rattle.std.specs.declared.alloc.Global.{Global}
use Rattle.account_report.specs.declared.row.AccountRow.{AccountRow}
use Rattle.asm_text.specs.Assembling.{assembled, statements_said, seen}
use Rattle.asm_text.specs.FaultWords.{asm_words}
use Rattle.asm_text.specs.Layout.{StatementLines}
use Rattle.asm_text.specs.Programs.{IsProgramOf, program_said}
use Rattle.asm_text.specs.declared.fault.AsmFault.{AsmFault}
use Rattle.asm_text.specs.declared.fault.AsmFault.TheVariants as asm_faults
use Rattle.fdr_buffer.specs.Filled.{Filled}
use Rattle.fdr_file.specs.Files.{file_bytes}
use Rattle.fdr_file.specs.Traces.{trace_of}
use Rattle.machine_step.specs.Traced.{Traced}
use Rattle.patch_script.specs.Plans.{Plan, plan_of}
use Rattle.patch_script.specs.declared.fault.ScriptFault.{ScriptFault}
use Rattle.patch_script.specs.declared.fault.ScriptFault.TheVariants as script_faults
use Rattle.soak_inputs.specs.Inputs.{soak_schedule, soak_script, soak_turns}
use Rattle.step_sim.specs.FaultWords.{sim_words}
use Rattle.step_sim.specs.Schedules.{schedule_of}
use Rattle.step_sim.specs.Starts.{Start}
use Rattle.step_sim.specs.declared.fault.ScheduleFault.{ScheduleFault}
use Rattle.step_sim.specs.declared.fault.ScheduleFault.TheVariants as schedule_faults
use Rattle.step_sim.specs.declared.turns.Turns.{Turns}
use Rattle.step_sim.specs.declared.sim_fault.SimFault.{SimFault}
use Rattle.step_sim.specs.declared.sim_fault.SimFault.TheVariants as sim_faults
use Rattle.trace_flush.specs.Audit.{ThreadAudit}
use Rattle.trace_flush.specs.Flush.{run_header, trace_bytes}
use Rattle.trace_flush.specs.Lines.{audits_of}
use Rattle.traced_run.specs.Kept.{kept_buffers}
use Rattle.traced_run.specs.Left.{Leaves}
use Rattle.traced_run.specs.Losses.{recycled_of}
use Rattle.traced_run.specs.Runs.{ThreadRun}
use Rattle.xray_image.specs.Program.{Program}
use Rattle.xray_program.specs.Sim.{Replayed}
use Rattle.xray_program.specs.Soak.{AreInputs, IsSummary, soak_setup}
use Rattle.xray_program.specs.private.Drawn.{InputLaws, IsReadBack, summary_with}
use Rattle.xray_program.proofs.SoakLaws.{assembled_as, enough, same_value, soak_plan, soak_program}

-- ---- what readers answer

same_fault : {X F : Type 0} (f g : F) → ◌≡◌ {A = Result X F} (Err f) (Err g) → f ≡ g
same_fault f g e = cc

no_value : {X F : Type 0} (f : F) (x : X) → ◌≡◌ {A = Result X F} (Err f) (Ok x) → ⊥
no_value f x e = cc

-- a value, or out of memory, which has no words
pub unrefused_by : {X F : Type 0} (told : F → Option (List ℕ)) (wanting : F) → told wanting ≡ None → (answer : Result X F) (value : X)
    → (answer ≡ Ok value) ⊎ (answer ≡ Err wanting) → IfErr answer (λ fault. told fault ≡ None)
unrefused_by told wanting none (Ok x) value either = tt
unrefused_by told wanting none (Err fault) value (inl same) = absurd (no_value fault value same)
unrefused_by {X = X} told wanting none (Err fault) value (inr same) = subst (λ f. told f ≡ None) (sym (same_fault {X = X} fault wanting same)) none

-- the answer is the verdict, which is a value
pub either_way : {X F : Type 0} (wanting : F) (answer verdict : Result X F) (value : X) → (answer ≡ Err wanting) ⊎ (answer ≡ verdict)
    → verdict ≡ Ok value → (answer ≡ Ok value) ⊎ (answer ≡ Err wanting)
either_way wanting answer verdict value (inl same) is = inr same
either_way wanting answer verdict value (inr same) is = inl (same ∙ is)

-- the value that was answered is this one
pub value_is : {X F : Type 0} (wanting : F) (answer : Result X F) (value x : X) → (answer ≡ Ok value) ⊎ (answer ≡ Err wanting)
    → answer ≡ Ok x → x ≡ value
value_is {F = F} wanting answer value x (inl same) is = same_value {F = F} x value (sym is ∙ same)
value_is wanting answer value x (inr same) is = absurd (no_value wanting x (sym same ∙ is))

-- so each value that is handed on is this one
pub each_value : {X F E : Type 0} (wanting : F) (handed : Result X E) (answer : Result X F) (value : X) → IfOk handed (λ v. answer ≡ Ok v)
    → (answer ≡ Ok value) ⊎ (answer ≡ Err wanting) → IfOk handed (λ v. v ≡ value)
each_value wanting (Ok v) answer value is either = value_is wanting answer value v either is
each_value wanting (Err e) answer value is either = tt

-- ---- the text

abbrev pub Made : List ℕ → Result (Vec ℕ Global) AsmFault → Type 0
Made text answer = (answer ≡ Err asm_faults.NoMemory) ⊎ (seen answer ≡ assembled text 1 false)

pub text_unrefused : (text : List ℕ) (said : StatementLines) (answer : Result (Vec ℕ Global) AsmFault) → statements_said text ≡ Ok said → Made text answer
    → IfErr answer (λ fault. asm_words fault ≡ None)
text_unrefused text said (Ok file) is made = tt
text_unrefused text said (Err fault) is (inl same) =
    subst (λ f. asm_words f ≡ None) (sym (same_fault {X = Vec ℕ Global} fault asm_faults.NoMemory same)) refl
text_unrefused text said (Err fault) is (inr same) = absurd (no_value fault _ (same ∙ assembled_as text said is))

-- the file holds the program that the text says
pub program_in : (text : List ℕ) (answer : Result (Vec ℕ Global) AsmFault) (file : Vec ℕ Global) → IfOk answer (λ f. IsProgramOf text 1 f.items)
    → answer ≡ Ok file → IsProgramOf text 1 file.items
program_in text answer file held is = let P : Result (Vec ℕ Global) AsmFault → Type 0 = λ r. IfOk r (λ f. IsProgramOf text 1 f.items) in subst P is held

-- it is the one of what the text says
pub program_same : (text : List ℕ) (file : List ℕ) (said : StatementLines) (of : IsProgramOf text 1 file) → statements_said text ≡ Ok said
    → program_said 1 of.said ≡ program_said 1 said
program_same text file said of is = ap (program_said 1) (same_value {F = AsmFault} of.said said (sym of.read ∙ is))

-- ---- the script and the schedule

pub script_answer : InputLaws → (number : ℕ) (image : Program) (text : List ℕ) → image ≡ soak_program number → text ≡ soak_script number
    → (answer : Result Plan ScriptFault) → (answer ≡ Err script_faults.NoMemory) ⊎ (answer ≡ plan_of image 4 text)
    → (answer ≡ Ok (soak_plan number)) ⊎ (answer ≡ Err script_faults.NoMemory)
script_answer laws number image text same_image same_text answer reads =
    either_way script_faults.NoMemory answer (plan_of image 4 text) (soak_plan number) reads
    (ap (plan_of image 4) same_text ∙ ap (λ (p : Program). plan_of p 4 (soak_script number)) same_image
    ∙ laws.plan number (soak_program number) (enough laws number))

pub schedule_answer : InputLaws → (number : ℕ) (text : List ℕ) → text ≡ soak_schedule number
    → (answer : Result (List Turns) ScheduleFault) → (answer ≡ Err schedule_faults.NoMemory) ⊎ (answer ≡ schedule_of 4 text)
    → (answer ≡ Ok (soak_turns number)) ⊎ (answer ≡ Err schedule_faults.NoMemory)
schedule_answer laws number text same_text answer reads =
    either_way schedule_faults.NoMemory answer (schedule_of 4 text) (soak_turns number) reads (ap (schedule_of 4) same_text ∙ laws.schedule number)

-- so what is handed on is the script and the schedule of the number
pub plan_is : InputLaws → (number : ℕ) (image : Program) (text : List ℕ) → image ≡ soak_program number → text ≡ soak_script number
    → (answer : Result Plan ScriptFault) → (answer ≡ Err script_faults.NoMemory) ⊎ (answer ≡ plan_of image 4 text)
    → (plan : Plan) → answer ≡ Ok plan → plan ≡ soak_plan number
plan_is laws number image text same_image same_text answer reads plan is =
    value_is script_faults.NoMemory answer (soak_plan number) plan (script_answer laws number image text same_image same_text answer reads) is

pub turns_are : InputLaws → (number : ℕ) (text : List ℕ) → text ≡ soak_schedule number
    → (answer : Result (List Turns) ScheduleFault) → (answer ≡ Err schedule_faults.NoMemory) ⊎ (answer ≡ schedule_of 4 text)
    → (turns : List Turns) → answer ≡ Ok turns → turns ≡ soak_turns number
turns_are laws number text same_text answer reads turns is =
    value_is schedule_faults.NoMemory answer (soak_turns number) turns (schedule_answer laws number text same_text answer reads) is

-- ---- the replay

-- the replay of a script in which nobody waits isn't refused
pub still_unrefused : {S : Type 0} (waiting : Option ℕ) (answer : Result S SimFault) → waiting ≡ None
    → ((line : ℕ) → (answer ≡ Err (sim_faults.Waits line)) ↔ (waiting ≡ Some line)) → IfErr answer (λ fault. sim_words fault ≡ None)
still_unrefused waiting (Ok start) none waits = tt
still_unrefused waiting (Err (sim_faults.Waits line)) none waits = absurd (some (sym none ∙ (waits line).0 refl))
  where
    some : None ≡ Some line → ⊥
    some e = cc
still_unrefused waiting (Err sim_faults.NoMemory) none waits = refl

-- what is started is what was asked for
pub started : (answer : Result Start SimFault) (start wanted : Start) → IfOk answer (λ s. s ≡ wanted) → answer ≡ Ok start → start ≡ wanted
started answer start wanted held is = let P : Result Start SimFault → Type 0 = λ r. IfOk r (λ s. s ≡ wanted) in subst P is held

-- ---- the summary

-- the summary of what is left of a replay, and of what is read back of it, is that of the number
pub summary_is : (number : ℕ) (program : Program) (plan : Plan) (turns : List Turns) → AreInputs number program plan turns
    → (runs : List ThreadRun) → Replayed program plan turns soak_setup runs → (cpus : List Traced) (segments first : List ℕ) (buffers : List Filled)
    → Leaves soak_setup runs cpus segments first buffers → (bytes : ℕ) (rows : List AccountRow)
    → IsReadBack (file_bytes (run_header soak_setup) buffers) bytes rows
    → (threads : List ThreadAudit) → threads ≡ audits_of soak_setup runs → (recycled : ℕ) → recycled ≡ recycled_of runs
    → (text : List ℕ) → text ≡ summary_with number threads recycled bytes rows
    → IsSummary number text
summary_is number program plan turns inputs runs replayed cpus segments first buffers leaves bytes rows back threads accounted recycled lost text is =
    let kept : buffers ≡ kept_buffers soak_setup runs = leaves.buffers_are in
    let file : file_bytes (run_header soak_setup) buffers ≡ trace_bytes soak_setup runs = ap (file_bytes (run_header soak_setup)) kept in
    let length_is : bytes ≡ length (trace_bytes soak_setup runs) = back.bytes_are ∙ ap length file in
    record {
      program = program;
      plan = plan;
      turns = turns;
      inputs = inputs;
      runs = runs;
      replayed = replayed;
      trace = back.trace;
      reads_back = sym (ap trace_of file) ∙ back.reads;
      is = is ∙ rw (accounted, lost, length_is, back.rows_are) refl;
    }
