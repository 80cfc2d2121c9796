-- What `sim` and `run` leave is accepted by `check`.
use Rattle.std.proofs.Common.{◌≡◌, ◌≤◌, ◌∙◌, ℕ, List, [], ◌∷◌, length, Option, Some, None, Ok, option_map, inl, inr, refl, sym, ap, subst, codes}
use Rattle.audit_check.specs.declared.verdict.Verdict.TheVariants.{Yes}
use Rattle.audit_check.specs.Statements.{MayState, AuditStatement, run_statement, text_of}
use Rattle.audit_check.specs.Texts.{verdict_text}
use Rattle.audit_check.specs.Verdicts.{IsJudged}
use Rattle.command_words.specs.Limits.{trace_limit}
use Rattle.machine_step.specs.Buffers.{spare_of}
use Rattle.machine_step.specs.declared.setup.Setup.{Setup}
use Rattle.machine_step.specs.Setups.{IsSetup}
use Rattle.patch_script.specs.declared.command.PatchCommand.{PatchCommand}
use Rattle.patch_script.specs.Plans.{Plan, waiting_line}
use Rattle.patch_script.specs.Refusals.{Lines, commands_of}
use Rattle.step_sim.specs.declared.turns.Turns.{Turns}
use Rattle.step_sim.specs.FaultWords.{waits_words}
use Rattle.step_sim.specs.Replayed.{IsReplayOf}
use Rattle.step_sim.specs.Schedules.{schedule_of}
use Rattle.trace_flush.specs.Flush.{trace_bytes}
use Rattle.trace_flush.specs.Lines.{audit_of_run}
use Rattle.traced_run.specs.Following.{AllMarksFollow}
use Rattle.traced_run.specs.Losses.{AreLost}
use Rattle.traced_run.specs.Runs.{IsRun, ThreadRun}
use Rattle.xray_image.specs.Program.{IsAccepted, Program}
use Rattle.xray_io.specs.Desk.{Entry, Holds}
use Rattle.command_words.specs.Words.{Check, Run, Sim}
use Rattle.command_words.specs.declared.run_options.RunOptions.{RunOptions}
use Rattle.xray_program.specs.Commands.{doing_of}
use Rattle.xray_program.specs.Doings.{Comes, MayLeave}
use Rattle.xray_program.specs.Inputs.{audit_form, audit_limit, image_form, schedule_form, script_form, unread_trace_form}
use Rattle.xray_program.specs.Outcomes.{Outcome, Done, Refused, TooLong, Unread}
use Rattle.xray_program.specs.Run.{LoadsFollowPlan, RanBeside, left_of_runs}
use Rattle.xray_program.specs.Setups.{setup_of}
use Rattle.xray_program.specs.Sim.{RanReplayed, left_of_replay}
use Rattle.xray_program.specs.Taking.{Form, IsAcceptedAs, MayHold, RefuseIf, Take}
use Rattle.xray_program.specs.Traced.{IsTraced, written_of}
use Rattle.xray_program.proofs.AuditLengths.{statement_short}
use Rattle.xray_program.proofs.LawfulRuns.{is_run, marks_follow}
use Rattle.xray_program.proofs.SimLaws.{AfterReplayScript}
use Rattle.xray_program.proofs.Turns.{again}

-- what the crates below say
pub record YesLaws : Type 0 where
  pub short : (bytes : List ℕ) (program : Program) (setup : Setup) (runs : List ThreadRun) → IsAccepted bytes program → IsSetup setup
      → IsRun program setup runs → AreLost setup.size (spare_of setup) runs → length (trace_bytes setup runs) ≤ trace_limit
  pub read : (program : Program) (script : List PatchCommand) (setup : Setup) (runs : List ThreadRun) → IsSetup setup → IsRun program setup runs
      → AllMarksFollow program setup.threads script runs → AreLost setup.size (spare_of setup) runs
      → MayState (run_statement setup runs) × (audit_of_run setup runs ≡ text_of (run_statement setup runs))
  pub yes : (program : Program) (script : List PatchCommand) (setup : Setup) (runs : List ThreadRun) → IsRun program setup runs
      → AllMarksFollow program setup.threads script runs → AreLost setup.size (spare_of setup) runs
      → IsJudged program script (run_statement setup runs) (trace_bytes setup runs) Yes

abbrev pub ReplaysFollow : Type 0
ReplaysFollow = (program : Program) (lines : Lines) (text : List ℕ) (schedule : List Turns) (setup : Setup) (runs : List ThreadRun)
    → schedule_of setup.threads text ≡ Ok schedule → waiting_line lines ≡ None → IsReplayOf program (commands_of lines) schedule setup runs
    → AllMarksFollow program setup.threads (commands_of lines) runs

-- ---- what was taken, if all is done

-- an input that led to outputs and a text was accepted
pub taken : {X : Type 0} (form : Form X) (held : List ℕ → Entry) (name : List ℕ) (next : X → Outcome → Type 0) (outputs : List (List ℕ × List ℕ))
    (text : List ℕ) → Take form held name next (Done outputs text)
    → (value : X) × IsAcceptedAs form (held name) value × next value (Done outputs text)
taken form held name next outputs text (inl (gone, is)) = absurd (never is)
  where
    never : Done outputs text ≡ Unread name → ⊥
    never e = cc
taken form held name next outputs text (inr (bytes, may, inl (long, is))) = absurd (never is)
  where
    never : Done outputs text ≡ TooLong name → ⊥
    never e = cc
taken form held name next outputs text (inr (bytes, may, inr (within, inl (refusal, refused, is)))) = absurd (never is)
  where
    never : Done outputs text ≡ Refused name form.kind refusal → ⊥
    never e = cc
taken form held name next outputs text (inr (bytes, may, inr (within, inr (value, reads, comes)))) =
    (value, record { bytes = bytes; held = may; within = within; reads = reads }, comes)

-- so it was not refused after all inputs
pub unrefused : (line : Option ℕ) (name kind : List ℕ) (next : Outcome → Type 0) (outputs : List (List ℕ × List ℕ)) (text : List ℕ)
    → RefuseIf (option_map waits_words line) name kind next (Done outputs text) → (line ≡ None) × next (Done outputs text)
unrefused None name kind next outputs text comes = (refl, comes)
unrefused (Some line) name kind next outputs text is = absurd (never is)
  where
    never : Done outputs text ≡ Refused name kind (waits_words line) → ⊥
    never e = cc

-- ---- what is taken again

-- bytes that a name holds
pub holding : {X : Type 0} (form : Form X) (entry : Entry) (bytes : List ℕ) (value : X) → entry ≡ Holds bytes → length bytes ≤ form.limit → form.Reads bytes value
    → IsAcceptedAs form entry value
holding form entry bytes value held within reads = record {
  bytes = bytes;
  held = subst (λ (e : Entry). MayHold e bytes) (sym held) refl;
  within = within;
  reads = reads;
}

-- the outputs are what they are called
pub outputs_same : (t a x y p q : List ℕ) → ◌≡◌ {A = List (List ℕ × List ℕ)} ((t, x) ∷ (a, y) ∷ []) ((t, p) ∷ (a, q) ∷ []) → (x ≡ p) × (y ≡ q)
outputs_same t a x y p q e =
    let one : ◌≡◌ {A = List ℕ × List ℕ} (t, x) (t, p) = cc in
    let two : ◌≡◌ {A = List ℕ × List ℕ} (a, y) (a, q) = cc in
    (ap (λ (o : List ℕ × List ℕ). o.1) one, ap (λ (o : List ℕ × List ℕ). o.1) two)

-- ---- lawful runs

-- what comes of a script, of an audit, and of an image
abbrev AfterScript : (held : List ℕ → Entry) (i s t a : List ℕ) → Program → AuditStatement → Plan → Outcome → Type 0
AfterScript held i s t a program statement plan =
    Take unread_trace_form held t (λ bytes. MayLeave ((doing_of (Check i s t a)).leaves (program, statement, plan, bytes)))

abbrev AfterAudit : (held : List ℕ → Entry) (i s t a : List ℕ) → Program → AuditStatement → Outcome → Type 0
AfterAudit held i s t a program statement = Take (script_form program statement.setup.threads) held s (AfterScript held i s t a program statement)

abbrev AfterImage : (held : List ℕ → Entry) (i s t a : List ℕ) → Program → Outcome → Type 0
AfterImage held i s t a program = Take audit_form held a (AfterAudit held i s t a program)

module _ (laws : YesLaws) (held : List ℕ → Entry) (i s t a : List ℕ) (setup : Setup) (is_setup : IsSetup setup) where
  -- the desk holds what the runs were made from, and what they left
  pub judged_yes : (program : Program) (plan : Plan) (runs : List ThreadRun) → IsAcceptedAs image_form (held i) program
      → IsAcceptedAs (script_form program setup.threads) (held s) plan → IsRun program setup runs
      → AllMarksFollow program setup.threads (commands_of plan.lines) runs → AreLost setup.size (spare_of setup) runs
      → held t ≡ Holds (trace_bytes setup runs) → held a ≡ Holds (audit_of_run setup runs)
      → Comes (doing_of (Check i s t a)) held (Done [] (verdict_text Yes))
  judged_yes program plan runs image script run follow lost trace audit =
      let read = laws.read program (commands_of plan.lines) setup runs is_setup run follow lost in
      let few : length (audit_of_run setup runs) ≤ audit_limit =
      subst (λ (b : List ℕ). length b ≤ audit_limit) (sym read.1) (statement_short (run_statement setup runs) read.0) in
      let yes : Outcome = Done [] (verdict_text Yes) in
      let statement : AuditStatement = run_statement setup runs in
      let judged = laws.yes program (commands_of plan.lines) setup runs run follow lost in
      again image_form held i (AfterImage held i s t a) program yes image
      (again audit_form held a (AfterAudit held i s t a program) statement yes (holding audit_form (held a) (audit_of_run setup runs) statement audit few read)
      (again (script_form program setup.threads) held s (AfterScript held i s t a program statement) plan yes script
      (again unread_trace_form held t (λ bytes. MayLeave ((doing_of (Check i s t a)).leaves (program, statement, plan, bytes))) (trace_bytes setup runs) yes
      (holding unread_trace_form (held t) (trace_bytes setup runs) (trace_bytes setup runs) trace
      (laws.short image.bytes program setup runs image.reads is_setup run lost) refl) (Yes, judged, refl))))

-- ---- of a command

module _ (laws : YesLaws) (held after : List ℕ → Entry) (i s t a : List ℕ) (options : RunOptions) (is_setup : IsSetup (setup_of options)) (trace audit text : List ℕ)
    (image_held : after i ≡ held i) (script_held : after s ≡ held s) (trace_held : after t ≡ Holds trace) (audit_held : after a ≡ Holds audit) where
  abbrev setup : Setup
  setup = setup_of options

  abbrev left : List (List ℕ × List ℕ)
  left = (t, trace) ∷ (a, audit) ∷ []

  pub yes_of_runs : (program : Program) (plan : Plan) (runs : List ThreadRun) → IsAcceptedAs image_form (held i) program
      → IsAcceptedAs (script_form program setup.threads) (held s) plan → IsRun program setup runs
      → AllMarksFollow program setup.threads (commands_of plan.lines) runs → AreLost setup.size (spare_of setup) runs
      → left ≡ written_of t a setup runs → Comes (doing_of (Check i s t a)) after (Done [] (verdict_text Yes))
  yes_of_runs program plan runs image script run follow lost is =
      let same = outputs_same t a trace audit (trace_bytes setup runs) (audit_of_run setup runs) is in
      judged_yes laws after i s t a setup is_setup program plan runs (subst (λ (e : Entry). IsAcceptedAs image_form e program) (sym image_held) image)
      (subst (λ (e : Entry). IsAcceptedAs (script_form program setup.threads) e plan) (sym script_held) script) run follow lost
      (trace_held ∙ ap Holds same.0) (audit_held ∙ ap Holds same.1)

  pub yes_of_run : Comes (doing_of (Run i s t a options)) held (Done left text) → Comes (doing_of (Check i s t a)) after (Done [] (verdict_text Yes))
  yes_of_run comes =
      let one = taken image_form held i (λ p. Take (script_form p setup.threads) held s (λ plan. MayLeave (left_of_runs t a setup p plan))) left text comes in
      let program : Program = one.0 in
      let two = taken (script_form program setup.threads) held s (λ plan. MayLeave (left_of_runs t a setup program plan)) left text one.2 in
      let plan : Plan = two.0 in
      let Ran : List ThreadRun → Type 0 = RanBeside program (commands_of plan.lines) setup.threads setup.limits in
      let written = two.2.0 in
      let traced : IsTraced Ran setup t a written.0 written.1 = two.2.1 in
      let script_is = commands_of plan.lines in
      yes_of_runs program plan traced.runs one.1 two.1
      (is_run (LoadsFollowPlan program setup.threads script_is) program script_is setup traced.runs traced.ran)
      (marks_follow program script_is setup.threads setup.limits traced.runs traced.ran) traced.losses
      (same_outputs left written.0 text written.1 two.2.2 ∙ traced.outputs_are)
    where
      same_outputs : (x y : List (List ℕ × List ℕ)) (u v : List ℕ) → Done x u ≡ Done y v → x ≡ y
      same_outputs x y u v e = cc

  pub yes_of_sim : ReplaysFollow → (c : List ℕ) → Comes (doing_of (Sim i s c t a options)) held (Done left text)
      → Comes (doing_of (Check i s t a)) after (Done [] (verdict_text Yes))
  yes_of_sim follow c comes =
      let one = taken image_form held i (λ p. Take (script_form p setup.threads) held s (AfterReplayScript held s c t a setup p)) left text comes in
      let program : Program = one.0 in
      let two = taken (script_form program setup.threads) held s (AfterReplayScript held s c t a setup program) left text one.2 in
      let plan : Plan = two.0 in
      let three = taken (schedule_form setup.threads) held c (λ turns. MayLeave (left_of_replay s t a setup program plan turns)) left text two.2 in
      let turns : List Turns = three.0 in
      let schedule = three.1 in
      let four = unrefused (waiting_line plan.lines) s (codes "script") _ left text three.2 in
      let written = four.1.0 in
      let traced : IsTraced (RanReplayed program plan turns setup) setup t a written.0 written.1 = four.1.1 in
      yes_of_runs program plan traced.runs one.1 two.1 traced.ran.lawful.replay.run
      (follow program plan.lines schedule.bytes turns setup traced.runs schedule.reads four.0 traced.ran.lawful.replay) traced.losses
      (same_outputs left written.0 text written.1 four.1.2 ∙ traced.outputs_are)
    where
      same_outputs : (x y : List (List ℕ × List ℕ)) (u v : List ℕ) → Done x u ≡ Done y v → x ≡ y
      same_outputs x y u v e = cc
