-- A run can be replayed: `order` takes its audit, and the replay of the order prints the same text.
use Rattle.std.proofs.Common.{◌≡◌, ◌≤◌, ◌∙◌, ℕ, List, [], ◌∷◌, length, Result, Ok, Err, inl, inr, refl, sym, ap, subst}
use Rattle.audit_check.specs.declared.fault.AuditFault.{AuditFault}
use Rattle.audit_check.specs.Reading.{ReadsAsAudit}
use Rattle.audit_check.specs.Rows.{AreRunsOf}
use Rattle.audit_check.specs.Statements.{MayState, AuditStatement, run_statement, text_of}
use Rattle.audit_check.proofs.LawfulRuns.{runs_stated}
use Rattle.audit_check.proofs.OneVerdict.{OneEnd, runs_same}
use Rattle.command_words.specs.declared.run_options.RunOptions.{RunOptions}
use Rattle.machine_step.specs.Buffers.{spare_of}
use Rattle.machine_step.specs.declared.setup.Setup.{Setup}
use Rattle.machine_step.specs.Setups.{IsSetup}
use Rattle.patch_script.specs.declared.command.PatchCommand.{PatchCommand}
use Rattle.patch_script.specs.Plans.{Plan}
use Rattle.patch_script.specs.Refusals.{commands_of}
use Rattle.run_order.specs.Answers.{IsOrderOrLong, IsOrdered}
use Rattle.run_order.specs.declared.fault.OrderFault.{OrderFault}
use Rattle.run_order.specs.declared.fault.OrderFault.TheVariants.{Ends, Long, Marks, NoMemory}
use Rattle.run_order.specs.FreeScripts.{free_text}
use Rattle.step_sim.specs.declared.turns.Turns.{Turns}
use Rattle.step_sim.specs.WrittenSchedules.{schedule_text}
use Rattle.trace_flush.specs.Flush.{trace_bytes}
use Rattle.trace_flush.specs.Lines.{audit_of_run}
use Rattle.traced_run.specs.Following.{AllMarksFollow}
use Rattle.traced_run.specs.Losses.{AreLost, recycled_of}
use Rattle.traced_run.specs.Runs.{IsRun, ThreadRun}
use Rattle.xray_image.specs.Program.{IsAccepted, Program}
use Rattle.xray_io.specs.Desk.{Entry, Holds}
use Rattle.xray_program.specs.Inputs.{WholeScript, audit_form, audit_limit, image_form, image_limit, script_form, whole_script_form}
use Rattle.command_words.specs.Words.{Order, Run, Sim}
use Rattle.xray_program.specs.Commands.{doing_of}
use Rattle.xray_program.specs.Doings.{Comes, MayLeave}
use Rattle.xray_program.specs.LoadOrder.{order_outcome}
use Rattle.xray_program.specs.OrderReplays.{HaveSameThreads, IsLeftByOrder, IsLeftByRun, IsOrderedOrLong, LeavesRunsOf}
use Rattle.xray_program.specs.Outcomes.{Outcome, Done}
use Rattle.xray_program.specs.Run.{LoadsFollowPlan, RanBeside, left_of_runs}
use Rattle.xray_program.specs.Setups.{setup_of}
use Rattle.xray_program.specs.Taking.{IsAcceptedAs, MayHold, Take}
use Rattle.xray_program.specs.Traced.{IsTraced, state_texts, written_of}
use Rattle.xray_program.proofs.AuditLengths.{statement_short}
use Rattle.xray_program.proofs.CheckYes.{holding, outputs_same, taken}
use Rattle.xray_program.proofs.LawfulRuns.{is_run, marks_follow}
use Rattle.xray_program.proofs.OrderEndings.{AfterAudit, AfterImage, Ordered}
use Rattle.xray_program.proofs.OrderReplays.{ReplayedOrders, order_replays}
use Rattle.xray_program.proofs.RunSetups.{options_make_a_setup}
use Rattle.xray_program.proofs.Turns.{again}

-- what the crates below say
pub record RunReplays : Type 0 where
  pub orders : ReplayedOrders
  pub read : (program : Program) (script : List PatchCommand) (setup : Setup) (runs : List ThreadRun) → IsSetup setup → IsRun program setup runs
      → AllMarksFollow program setup.threads script runs → AreLost setup.size (spare_of setup) runs
      → MayState (run_statement setup runs) × (audit_of_run setup runs ≡ text_of (run_statement setup runs))
  pub ordered : (program : Program) (script : List PatchCommand) (setup : Setup) (runs : List ThreadRun) → IsRun program setup runs
      → AllMarksFollow program setup.threads script runs → AreLost setup.size (spare_of setup) runs
      → (answer : Result (List Turns) OrderFault) × IsOrdered program script (run_statement setup runs) answer × IsOrderOrLong answer
  pub image : (bytes : List ℕ) (one other : Program) → IsAccepted bytes one → IsAccepted bytes other → one ≡ other
  pub end : (bytes : List ℕ) (program : Program) → IsAccepted bytes program → OneEnd program

-- what a run that left files and a text was made of
pub record RunOf (held : List ℕ → Entry) (s : List ℕ) (setup : Setup) (image trace audit text : List ℕ) : Type 0 where
  pub program : Program
  pub accepted : IsAccepted image program
  pub image_short : length image ≤ image_limit
  pub plan : Plan
  pub script : IsAcceptedAs (script_form program setup.threads) (held s) plan
  pub runs : List ThreadRun
  pub run : IsRun program setup runs
  pub follow : AllMarksFollow program setup.threads (commands_of plan.lines) runs
  pub losses : AreLost setup.size (spare_of setup) runs
  pub trace_is : trace ≡ trace_bytes setup runs
  pub audit_is : audit ≡ audit_of_run setup runs
  pub text_is : text ≡ state_texts 1 runs

pub run_of : (held : List ℕ → Entry) (i s t a : List ℕ) (options : RunOptions) (image trace audit text : List ℕ) → held i ≡ Holds image
    → Comes (doing_of (Run i s t a options)) held (Done ((t, trace) ∷ (a, audit) ∷ []) text) → RunOf held s (setup_of options) image trace audit text
run_of held i s t a options image trace audit text image_is comes =
    let setup : Setup = setup_of options in
    let left : List (List ℕ × List ℕ) = (t, trace) ∷ (a, audit) ∷ [] in
    let one = taken image_form held i (λ p. Take (script_form p setup.threads) held s (λ plan. MayLeave (left_of_runs t a setup p plan))) left text comes in
    let program : Program = one.0 in
    let of_image = one.1 in
    let two = taken (script_form program setup.threads) held s (λ plan. MayLeave (left_of_runs t a setup program plan)) left text one.2 in
    let plan : Plan = two.0 in
    let script : List PatchCommand = commands_of plan.lines in
    let traces : IsTraced (RanBeside program script setup.threads setup.limits) setup t a two.2.0.0 two.2.0.1 = two.2.1 in
    let same_image : of_image.bytes ≡ image = subst (λ (entry : Entry). MayHold entry of_image.bytes) image_is of_image.held in
    let both = done_same left two.2.0.0 text two.2.0.1 two.2.2 in
    let same = outputs_same t a trace audit (trace_bytes setup traces.runs) (audit_of_run setup traces.runs) (both.0 ∙ traces.outputs_are) in
    record {
      program = program;
      accepted = subst (λ (bytes : List ℕ). IsAccepted bytes program) same_image of_image.reads;
      image_short = subst (λ (bytes : List ℕ). length bytes ≤ image_limit) same_image of_image.within;
      plan = plan;
      script = two.1;
      runs = traces.runs;
      run = is_run (LoadsFollowPlan program setup.threads script) program script setup traces.runs traces.ran;
      follow = marks_follow program script setup.threads setup.limits traces.runs traces.ran;
      losses = traces.losses;
      trace_is = same.0;
      audit_is = same.1;
      text_is = both.1 ∙ traces.text_is;
    }
  where
    done_same : (x y : List (List ℕ × List ℕ)) (u v : List ℕ) → Done x u ≡ Done y v → (x ≡ y) × (u ≡ v)
    done_same x y u v e =
        let one : x ≡ y = cc in
        let two : u ≡ v = cc in
        (one, two)

module _ (laws : RunReplays) (held after : List ℕ → Entry) (i s t a : List ℕ) (options : RunOptions) (image trace audit text : List ℕ)
    (left : IsLeftByRun held after i s t a options image trace audit text) where
  abbrev setup : Setup
  setup = setup_of options

  its : RunOf held s setup image trace audit text
  its = run_of held i s t a options image trace audit text left.image_held left.meant

  -- what its audit reads as
  stated : MayState (run_statement setup its.runs) × (audit ≡ text_of (run_statement setup its.runs))
  stated =
      let read = laws.read its.program (commands_of its.plan.lines) setup its.runs (options_make_a_setup options left.ranges) its.run its.follow its.losses in
      (read.0, its.audit_is ∙ read.1)

  -- ---- it is ordered, or the order is too long

  by_answer : (f o script : List ℕ) (answer : Result (List Turns) OrderFault) → IsOrderOrLong answer
      → Comes (doing_of (Order i s a f o)) after (order_outcome a f o script answer) → IsOrderedOrLong (Comes (doing_of (Order i s a f o)) after) a f o
  by_answer f o script (Ok turns) is comes = inl (free_text script, schedule_text turns, comes)
  by_answer f o script (Err Long) is comes = inr comes
  by_answer f o script (Err (Ends n)) is comes = absurd is
  by_answer f o script (Err (Marks n)) is comes = absurd is
  by_answer f o script (Err NoMemory) is comes = absurd is

  pub ordered_or_long : (f o : List ℕ) → IsOrderedOrLong (Comes (doing_of (Order i s a f o)) after) a f o
  ordered_or_long f o =
      let program : Program = its.program in
      let statement : AuditStatement = run_statement setup its.runs in
      let whole : WholeScript = record { text = its.script.bytes; plan = its.plan } in
      let answer = laws.ordered program (commands_of its.plan.lines) setup its.runs its.run its.follow its.losses in
      let outcome : Outcome = order_outcome a f o whole.text answer.0 in
      let short : length audit ≤ audit_limit =
      subst (λ (bytes : List ℕ). length bytes ≤ audit_limit) (sym stated.1) (statement_short statement stated.0) in
      let of_script : IsAcceptedAs (whole_script_form program setup.threads) (after s) whole = record {
        bytes = its.script.bytes;
        held = subst (λ (e : Entry). MayHold e its.script.bytes) (sym left.script_stays) its.script.held;
        within = its.script.within;
        reads = (refl, its.script.reads);
      } in
      by_answer f o its.script.bytes answer.0 answer.2
      (again image_form after i (AfterImage after s a f o) program outcome
      (holding image_form (after i) image program (left.image_stays ∙ left.image_held) its.image_short its.accepted)
      (again audit_form after a (AfterAudit after s a f o program) statement outcome (holding audit_form (after a) audit statement left.audit_held short stated)
      (again (whole_script_form program setup.threads) after s (λ w. Ordered a f o program statement w) whole outcome of_script
      (answer.0, answer.1, refl))))

  -- ---- the replay of the order

  module _ (last : List ℕ → Entry) (f o free schedule : List ℕ) (order : IsLeftByOrder after last i s a f o free schedule) (u b : List ℕ) (options_again : RunOptions) where
    abbrev other : Setup
    other = setup_of options_again

    leaves : HaveSameThreads other setup → LeavesRunsOf (Comes (doing_of (Sim i f o u b options_again)) last) image u b other (run_statement setup its.runs)
    leaves alike =
        order_replays laws.orders last i f o u b options_again after s a image audit free schedule (run_statement setup its.runs)
        (left.image_stays ∙ left.image_held) left.audit_held stated alike order.meant order.image_stays order.free_held order.schedule_held

    -- the runs are those of the run
    runs_are : (alike : HaveSameThreads other setup) → (leaves alike).runs ≡ its.runs
    runs_are alike =
        let made = leaves alike in
        let same : made.program ≡ its.program = laws.image image made.program its.program made.accepted its.accepted in
        let are : AreRunsOf its.program (run_statement setup its.runs) made.runs =
        subst (λ (p : Program). AreRunsOf p (run_statement setup its.runs) made.runs) same made.are in
        runs_same its.program (laws.end image its.program its.accepted) (run_statement setup its.runs) made.runs its.runs are
        (runs_stated its.program setup its.runs its.run)

    pub text_again : HaveSameThreads other setup → (outputs : List (List ℕ × List ℕ)) × Comes (doing_of (Sim i f o u b options_again)) last (Done outputs text)
    text_again alike =
        let made = leaves alike in
        let same : state_texts 1 made.runs ≡ text = ap (state_texts 1) (runs_are alike) ∙ sym its.text_is in
        let outputs : List (List ℕ × List ℕ) = written_of u b other made.replayed in
        (outputs, subst (λ (x : List ℕ). Comes (doing_of (Sim i f o u b options_again)) last (Done outputs x)) same made.left)

    pub whole_again : other ≡ setup → (statement : AuditStatement) → ReadsAsAudit audit (Ok statement) → statement.recycled ≡ 0
        → Comes (doing_of (Sim i f o u b options_again)) last (Done ((u, trace) ∷ (b, audit) ∷ []) text)
    whole_again equal statement reads none =
        let alike : HaveSameThreads other setup = record { threads = ap (λ (x : Setup). x.threads) equal; limits = ap (λ (x : Setup). x.limits) equal } in
        let made = leaves alike in
        let same = runs_are alike in
        let read : statement ≡ run_statement setup its.runs =
        same_statement statement (run_statement setup its.runs) (laws.orders.reading audit (Ok statement) (Ok (run_statement setup its.runs)) reads stated) in
        let lost : AreLost other.size (spare_of other) made.runs =
        subst (λ (rs : List ThreadRun). AreLost other.size (spare_of other) rs) (sym same)
        (subst (λ (x : Setup). AreLost x.size (spare_of x) its.runs) (sym equal) its.losses) in
        let recycled = ap (λ (st : AuditStatement). st.recycled) (sym read) ∙ none in
        let replayed : made.replayed ≡ its.runs =
        made.whole equal lost (subst (λ (rs : List ThreadRun). recycled_of rs ≡ 0) (sym same) recycled) ∙ same in
        let outputs : written_of u b other made.replayed ≡ (u, trace) ∷ (b, audit) ∷ [] =
        ap (λ (rs : List ThreadRun). written_of u b other rs) replayed ∙ ap (λ (x : Setup). written_of u b x its.runs) equal
        ∙ ap (λ (x : List ℕ). (u, x) ∷ (b, audit_of_run setup its.runs) ∷ []) (sym its.trace_is)
        ∙ ap (λ (x : List ℕ). (u, trace) ∷ (b, x) ∷ []) (sym its.audit_is) in
        let same_text : state_texts 1 made.runs ≡ text = ap (state_texts 1) same ∙ sym its.text_is in
        subst (λ (x : List ℕ). Comes (doing_of (Sim i f o u b options_again)) last (Done ((u, trace) ∷ (b, audit) ∷ []) x)) same_text
        (subst (λ (os : List (List ℕ × List ℕ)). Comes (doing_of (Sim i f o u b options_again)) last (Done os (state_texts 1 made.runs))) outputs made.left)
      where
        same_statement : (x y : AuditStatement) → (let v : Result AuditStatement AuditFault = Ok x in let w : Result AuditStatement AuditFault = Ok y in v ≡ w) → x ≡ y
        same_statement x y e = cc
