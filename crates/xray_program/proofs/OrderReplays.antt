-- What `order` writes is replayed by `sim`.
use Rattle.std.proofs.Common.{◌≡◌, ◌<◌, ◌≤◌, ◌+◌, ◌-◌, ◌∙◌, ℕ, List, [], ◌∷◌, length, Option, Some, None, Result, Ok, Err, option_map, refl, sym, ap, subst, codes, arith}
use Rattle.std.specs.Prelude.{slice_get}
use Rattle.std.proofs.lemmas.Option.{slice_get_within}
use Rattle.audit_check.specs.declared.fault.AuditFault.{AuditFault}
use Rattle.audit_check.specs.Reading.{ReadsAsAudit}
use Rattle.audit_check.specs.Statements.{MayState, AuditStatement}
use Rattle.machine_step.specs.Buffers.{spare_of}
use Rattle.machine_step.specs.declared.limits.Limits.{Limits}
use Rattle.machine_step.specs.declared.setup.Setup.{Setup}
use Rattle.machine_step.specs.PlainStep.{PlainRun}
use Rattle.patch_script.specs.declared.command.PatchCommand.{PatchCommand}
use Rattle.patch_script.specs.Plans.{Plan, plan_of, waiting_line}
use Rattle.patch_script.specs.Refusals.{commands_of}
use Rattle.run_order.specs.Answers.{AllEndsAgree, IsOrdered, AllMarksAgree}
use Rattle.run_order.specs.declared.fault.OrderFault.{OrderFault}
use Rattle.run_order.specs.FreeScripts.{free_commands, free_text}
use Rattle.run_order.specs.RunOrders.{IsOrderOf}
use Rattle.step_sim.specs.declared.turns.Turns.{Turns}
use Rattle.step_sim.specs.FaultWords.{waits_words}
use Rattle.step_sim.specs.Replayed.{IsReplayOf}
use Rattle.step_sim.specs.Schedules.{schedule_of}
use Rattle.step_sim.specs.WrittenSchedules.{schedule_text}
use Rattle.trace_flush.specs.Audit.{ThreadAudit}
use Rattle.traced_run.specs.Losses.{AreLost, without_losses}
use Rattle.traced_run.specs.Runs.{IsRun, ThreadRun}
use Rattle.xray_image.specs.Program.{IsAccepted, Program}
use Rattle.xray_io.specs.Desk.{Entry, Holds}
use Rattle.xray_program.specs.Inputs.{WholeScript, audit_form, image_form, image_limit, schedule_form, script_form, whole_script_form}
use Rattle.command_words.specs.Words.{Order, Sim}
use Rattle.command_words.specs.declared.run_options.RunOptions.{RunOptions}
use Rattle.xray_program.specs.Commands.{doing_of}
use Rattle.xray_program.specs.Doings.{Comes, MayLeave}
use Rattle.xray_program.specs.LoadOrder.{order_outcome}
use Rattle.xray_program.specs.OrderReplays.{HaveSameThreads, LeavesRunsOf}
use Rattle.xray_program.specs.Outcomes.{Outcome, Done}
use Rattle.xray_program.specs.Setups.{setup_of}
use Rattle.xray_program.specs.Sim.{RanReplayed, Replayed, left_of_replay}
use Rattle.xray_program.specs.Taking.{IsAcceptedAs, MayHold, RefuseIf, Take}
use Rattle.xray_program.specs.Traced.{IsTraced, state_texts, written_of}
use Rattle.xray_program.specs.private.CallLaws.{CallLaws}
use Rattle.xray_program.proofs.Audits.{OneReading}
use Rattle.xray_program.proofs.CheckYes.{holding, outputs_same, taken}
use Rattle.xray_program.proofs.LawfulRuns.{ran_replayed}
use Rattle.xray_program.proofs.OrderEndings.{AfterAudit, AfterImage, Ordered}
use Rattle.xray_program.proofs.OtherLosses.{nothing_lost, stated_same, texts_same}
use Rattle.xray_program.proofs.SimLaws.{AfterReplayScript, Written}
use Rattle.xray_program.proofs.Turns.{again}

-- what the crates below say
pub record ReplayedOrders : Type 0 where
  pub lawful : CallLaws
  pub reading : OneReading
  pub free : (program : Program) (threads : ℕ) (text : List ℕ) (plan : Plan) → plan_of program threads text ≡ Ok plan
      → (free : Plan) × (plan_of program threads (free_text text) ≡ Ok free)
      × (commands_of free.lines ≡ free_commands (commands_of plan.lines)) × (waiting_line free.lines ≡ None)
  pub short : (text : List ℕ) → length (free_text text) ≤ length text
  pub leaves : (program : Program) (text : List ℕ) (plan : Plan) (setup : Setup) (runs : List ThreadRun) (schedule : List Turns)
      → plan_of program setup.threads text ≡ Ok plan → IsRun program setup runs
      → IsOrderOf program setup.threads (commands_of plan.lines) runs schedule
      → (replayed : List ThreadRun) × IsReplayOf program (free_commands (commands_of plan.lines)) schedule setup replayed
      × (without_losses replayed ≡ without_losses runs)
  pub reads : (bytes : List ℕ) (program : Program) (text : List ℕ) (plan : Plan) (statement : AuditStatement) (schedule : List Turns)
      → IsAccepted bytes program → MayState statement → plan_of program statement.setup.threads text ≡ Ok plan
      → IsOrdered program (commands_of plan.lines) statement (Ok schedule)
      → schedule_of statement.setup.threads (schedule_text schedule) ≡ Ok schedule
  pub few : (bytes : List ℕ) (program : Program) (text : List ℕ) (plan : Plan) (statement : AuditStatement) (schedule : List Turns)
      → IsAccepted bytes program → MayState statement → plan_of program statement.setup.threads text ≡ Ok plan
      → IsOrdered program (commands_of plan.lines) statement (Ok schedule) → length (schedule_text schedule) ≤ 16777216

-- an answer whose outcome is that both were written
record IsWritten (f o free schedule text : List ℕ) (answer : Result (List Turns) OrderFault) : Type 0 where
  turns : List Turns
  answer_is : answer ≡ Ok turns
  free_is : free ≡ free_text text
  schedule_is : schedule ≡ schedule_text turns

is_written : (a f o free schedule text : List ℕ) (answer : Result (List Turns) OrderFault)
    → Done ((f, free) ∷ (o, schedule) ∷ []) [] ≡ order_outcome a f o text answer → IsWritten f o free schedule text answer
is_written a f o free schedule text (Ok turns) e =
    let left : ◌≡◌ {A = List (List ℕ × List ℕ)} ((f, free) ∷ (o, schedule) ∷ []) ((f, free_text text) ∷ (o, schedule_text turns) ∷ []) = cc in
    let same = outputs_same f o free schedule (free_text text) (schedule_text turns) left in
    record { turns = turns; answer_is = refl; free_is = same.0; schedule_is = same.1 }
is_written a f o free schedule text (Err fault) e = absurd cc

-- a script at which nothing waits isn't refused
goes_on : (line : Option ℕ) (name : List ℕ) (next : Outcome → Type 0) (outcome : Outcome) → line ≡ None → next outcome
    → RefuseIf (option_map waits_words line) name (codes "script") next outcome
goes_on None name next outcome e is = is
goes_on (Some line) name next outcome e is = absurd cc

-- what is stated of a thread whose ends and marks agree
said_at : (program : Program) (script : List PatchCommand) (statement : AuditStatement) (runs : List ThreadRun) → length statement.threads ≡ statement.setup.threads
    → AllEndsAgree program script statement runs → AllMarksAgree program script statement runs → (i : ℕ) (said : ThreadAudit) (run : ThreadRun)
    → slice_get statement.threads i ≡ Some said → slice_get runs i ≡ Some run → (said.end ≡ run.end) × (length said.marks ≡ said.passings)
said_at program script statement runs count ends marks i said run at at' =
    let within = slice_get_within statement.threads i said at in
    let low : 0 < i + 1 = omega arith in
    let high : i + 1 ≤ statement.setup.threads = omega (arith, within, count) in
    let back : i + 1 - 1 ≡ i = omega arith in
    let here : slice_get statement.threads (i + 1 - 1) ≡ Some said = ap (slice_get statement.threads) back ∙ at in
    let here' : slice_get runs (i + 1 - 1) ≡ Some run = ap (slice_get runs) back ∙ at' in
    ((ends (i + 1) low high said run here here').end, (marks (i + 1) low high said run here here').each)

module _ (laws : ReplayedOrders) (after : List ℕ → Entry) (i f o t b : List ℕ) (options : RunOptions) where
  abbrev setup : Setup
  setup = setup_of options

  -- the script without waits and the schedule are taken again
  sim_again : (image : List ℕ) (program : Program) (statement : AuditStatement) (text : List ℕ) (plan : Plan) (turns : List Turns)
      → HaveSameThreads setup statement.setup → after i ≡ Holds image → length image ≤ image_limit → IsAccepted image program
      → MayState statement → length text ≤ 1048576
      → plan_of program statement.setup.threads text ≡ Ok plan → IsOrdered program (commands_of plan.lines) statement (Ok turns)
      → after f ≡ Holds (free_text text) → after o ≡ Holds (schedule_text turns)
      → LeavesRunsOf (Comes (doing_of (Sim i f o t b options)) after) image t b setup statement
  sim_again image program statement text plan turns alike image_held image_short accepted may within e ordered free_held schedule_held =
      let runs = ordered.runs in
      let run : IsRun program setup runs = record {
        count = ordered.are.run.count ∙ sym alike.threads;
        plain = λ n own at.
            subst (λ (l : Limits). PlainRun program l (n + 1) own.passed own.end own.last) (sym alike.limits) (ordered.are.run.plain n own at);
      } in
      let reads : plan_of program setup.threads text ≡ Ok plan =
      subst (λ n. plan_of program n text ≡ Ok plan) (sym alike.threads) e in
      let free = laws.free program setup.threads text plan reads in
      let order : IsOrderOf program setup.threads (commands_of plan.lines) runs turns =
      subst (λ n. IsOrderOf program n (commands_of plan.lines) runs turns) (sym alike.threads) ordered.answer_is.2 in
      let replay = laws.leaves program text plan setup runs turns reads run order in
      let replayed : List ThreadRun = replay.0 in
      let lawful : Replayed program free.0 turns setup replayed =
      subst (λ (script : List PatchCommand). IsReplayOf program script turns setup replayed) (sym free.2) replay.1 in
      let Are = IsTraced (RanReplayed program free.0 turns setup) setup t b in
      let turns_read : schedule_of setup.threads (schedule_text turns) ≡ Ok turns =
      subst (λ n. schedule_of n (schedule_text turns) ≡ Ok turns) (sym alike.threads) (laws.reads image program text plan statement turns accepted may e ordered) in
      let losses : AreLost setup.size (spare_of setup) replayed =
      laws.lawful.loses program (commands_of free.0.lines) (schedule_text turns) turns setup replayed turns_read lawful in
      let traces : Are (written_of t b setup replayed) (state_texts 1 runs) =
      record {
        runs = replayed;
        ran = ran_replayed laws.lawful image program free.0 (schedule_text turns) turns setup replayed accepted turns_read lawful;
        losses = losses;
        outputs_are = refl;
        text_is = texts_same 1 runs replayed (sym replay.2);
      } in
      let done : Outcome = Done (written_of t b setup replayed) (state_texts 1 runs) in
      let leaves : (written : Written) × Are written.0 written.1 × (done ≡ Done written.0 written.1) =
      ((written_of t b setup replayed, state_texts 1 runs), traces, refl) in
      let short = laws.short text in
      let comes : Comes (doing_of (Sim i f o t b options)) after done =
      again image_form after i (λ p. Take (script_form p setup.threads) after f (AfterReplayScript after f o t b setup p)) program done
      (holding image_form (after i) image program image_held image_short accepted)
      (again (script_form program setup.threads) after f (AfterReplayScript after f o t b setup program) free.0 done
      (holding (script_form program setup.threads) (after f) (free_text text) free.0 free_held (omega (arith, short, within)) free.1)
      (again (schedule_form setup.threads) after o (λ ts. MayLeave (left_of_replay f t b setup program free.0 ts)) turns done
      (holding (schedule_form setup.threads) (after o) (schedule_text turns) turns schedule_held
      (laws.few image program text plan statement turns accepted may e ordered) turns_read)
      (goes_on (waiting_line free.0.lines) f _ done free.3 leaves))) in
      record {
        program = program;
        accepted = accepted;
        runs = runs;
        are = ordered.are;
        replayed = replayed;
        same = replay.2;
        left = comes;
        stated = stated_same setup replayed runs statement.threads replay.2 (ordered.are.run.count ∙ sym may.names.count) ordered.are.marks
            (said_at program (commands_of plan.lines) statement runs may.names.count ordered.answer_is.0 ordered.answer_is.1);
        whole = λ equal lost none.
            nothing_lost setup.size (spare_of setup) runs replayed lost losses replay.2 none;
      }

  pub order_replays : (held : List ℕ → Entry) (s a image audit free schedule : List ℕ) (statement : AuditStatement) → held i ≡ Holds image → held a ≡ Holds audit
      → ReadsAsAudit audit (Ok statement) → HaveSameThreads setup statement.setup → Comes (doing_of (Order i s a f o)) held (Done ((f, free) ∷ (o, schedule) ∷ []) [])
      → after i ≡ held i → after f ≡ Holds free → after o ≡ Holds schedule
      → LeavesRunsOf (Comes (doing_of (Sim i f o t b options)) after) image t b setup statement
  order_replays held s a image audit free schedule statement image_is audit_held audit_reads alike comes image_held free_held schedule_held =
      let left : List (List ℕ × List ℕ) = (f, free) ∷ (o, schedule) ∷ [] in
      let one = taken image_form held i (AfterImage held s a f o) left [] comes in
      let program : Program = one.0 in
      let two = taken audit_form held a (AfterAudit held s a f o program) left [] one.2 in
      let three = taken (whole_script_form program two.0.setup.threads) held s (λ whole. Ordered a f o program two.0 whole) left [] two.2 in
      by_statement program one.1 two.0 two.1 three.0 three.1 three.2
    where
      by_statement : (program : Program) → IsAcceptedAs image_form (held i) program → (said : AuditStatement) → IsAcceptedAs audit_form (held a) said
          → (whole : WholeScript) → IsAcceptedAs (whole_script_form program said.setup.threads) (held s) whole
          → Ordered a f o program said whole (Done ((f, free) ∷ (o, schedule) ∷ []) [])
          → LeavesRunsOf (Comes (doing_of (Sim i f o t b options)) after) image t b setup statement
      by_statement program of_image said of_audit whole of_script orders =
          let same_image : of_image.bytes ≡ image = subst (λ (entry : Entry). MayHold entry of_image.bytes) image_is of_image.held in
          let accepted : IsAccepted image program = subst (λ (bytes : List ℕ). IsAccepted bytes program) same_image of_image.reads in
          let image_short : length image ≤ image_limit = subst (λ (bytes : List ℕ). length bytes ≤ image_limit) same_image of_image.within in
          let same_bytes : of_audit.bytes ≡ audit = subst (λ (entry : Entry). MayHold entry of_audit.bytes) audit_held of_audit.held in
          let read : ReadsAsAudit audit (Ok said) = subst (λ (bytes : List ℕ). ReadsAsAudit bytes (Ok said)) same_bytes of_audit.reads in
          let same : said ≡ statement = same_statement said statement (laws.reading audit (Ok said) (Ok statement) read audit_reads) in
          let written = is_written a f o free schedule whole.text orders.0 orders.2 in
          let ordered : IsOrdered program (commands_of whole.plan.lines) said (Ok written.turns) =
          subst (λ (answer : Result (List Turns) OrderFault). IsOrdered program (commands_of whole.plan.lines) said answer) written.answer_is orders.1 in
          let reads : plan_of program said.setup.threads whole.text ≡ Ok whole.plan =
          subst (λ (bytes : List ℕ). plan_of program said.setup.threads bytes ≡ Ok whole.plan) (sym of_script.reads.0) of_script.reads.1 in
          let within : length whole.text ≤ 1048576 = subst (λ (bytes : List ℕ). length bytes ≤ 1048576) (sym of_script.reads.0) of_script.within in
          let alike_said : HaveSameThreads setup said.setup = subst (λ (st : AuditStatement). HaveSameThreads setup st.setup) (sym same) alike in
          let leaves = sim_again image program said whole.text whole.plan written.turns alike_said (image_held ∙ image_is) image_short accepted of_audit.reads.0
          within reads ordered (free_held ∙ ap Holds written.free_is) (schedule_held ∙ ap Holds written.schedule_is) in
          subst (λ (st : AuditStatement). LeavesRunsOf (Comes (doing_of (Sim i f o t b options)) after) image t b setup st) same leaves
        where
          same_statement : (x y : AuditStatement) → (let v : Result AuditStatement AuditFault = Ok x in let w : Result AuditStatement AuditFault = Ok y in v ≡ w) → x ≡ y
          same_statement x y e = cc
