-- Beside a script that records each passing, runs that lose nothing leave the same.
use Rattle.std.proofs.Common.{◌≡◌, ◌∙◌, ℕ, List, Result, Ok, sym, ap, subst}
use Rattle.audit_check.specs.declared.fault.AuditFault.{AuditFault}
use Rattle.audit_check.specs.Statements.{AuditStatement, MayState, run_statement, text_of}
use Rattle.command_words.specs.declared.run_options.RunOptions.{RunOptions}
use Rattle.machine_step.specs.Buffers.{spare_of}
use Rattle.machine_step.specs.declared.setup.Setup.{Setup}
use Rattle.machine_step.specs.Setups.{IsSetup}
use Rattle.patch_script.specs.declared.command.PatchCommand.{PatchCommand}
use Rattle.patch_script.specs.Refusals.{commands_of}
use Rattle.trace_flush.specs.Flush.{trace_bytes}
use Rattle.trace_flush.specs.Lines.{audit_of_run}
use Rattle.traced_run.specs.Following.{AllMarksFollow}
use Rattle.traced_run.specs.Losses.{AreLost, recycled_of}
use Rattle.traced_run.specs.Recording.{RecordsAll}
use Rattle.traced_run.specs.Runs.{IsRun, ThreadRun}
use Rattle.xray_image.specs.Program.{IsAccepted, Program}
use Rattle.xray_io.specs.Desk.{Entry, Holds}
use Rattle.xray_program.specs.SameRuns.{MayLeaveWhole}
use Rattle.xray_program.specs.Setups.{setup_of}
use Rattle.xray_program.specs.Spoken.{commands_said}
use Rattle.xray_program.specs.Taking.{MayHold}
use Rattle.xray_program.specs.Traced.{state_texts}
use Rattle.xray_program.proofs.Audits.{OneReading}
use Rattle.xray_program.proofs.RunReplays.{RunOf, run_of}
use Rattle.xray_program.proofs.SpokenLines.{script_says}

-- what the crates below say
pub record SameRuns : Type 0 where
  pub reading : OneReading
  pub read : (program : Program) (script : List PatchCommand) (setup : Setup) (runs : List ThreadRun) → IsSetup setup → IsRun program setup runs
      → AllMarksFollow program setup.threads script runs → AreLost setup.size (spare_of setup) runs
      → MayState (run_statement setup runs) × (audit_of_run setup runs ≡ text_of (run_statement setup runs))
  pub image : (bytes : List ℕ) (one other : Program) → IsAccepted bytes one → IsAccepted bytes other → one ≡ other
  pub runs : (bytes : List ℕ) (program : Program) (setup : Setup) (script : List PatchCommand) (arguments : ℕ) (runs others : List ThreadRun)
      → IsAccepted bytes program → RecordsAll program setup.threads script arguments → IsRun program setup runs → IsRun program setup others
      → AllMarksFollow program setup.threads script runs → AllMarksFollow program setup.threads script others
      → recycled_of runs ≡ 0 → recycled_of others ≡ 0 → runs ≡ others

module _ (laws : SameRuns) (held : List ℕ → Entry) (i s t a : List ℕ) (options : RunOptions) (is_setup : IsSetup (setup_of options))
    (image script : List ℕ) (image_held : held i ≡ Holds image) (script_held : held s ≡ Holds script) (program : Program)
    (accepted : IsAccepted image program) where
  abbrev setup : Setup
  setup = setup_of options

  -- runs that left files and a text, beside what the script's lines say
  record WholeRun (trace audit text : List ℕ) : Type 0 where
    runs : List ThreadRun
    run : IsRun program setup runs
    follow : AllMarksFollow program setup.threads (commands_said script) runs
    none : recycled_of runs ≡ 0
    trace_is : trace ≡ trace_bytes setup runs
    audit_is : audit ≡ audit_of_run setup runs
    text_is : text ≡ state_texts 1 runs

  whole_run : (trace audit text : List ℕ) → MayLeaveWhole held i s t a options trace audit text → WholeRun trace audit text
  whole_run trace audit text left =
      let its : RunOf held s setup image trace audit text = run_of held i s t a options image trace audit text image_held left.meant in
      let same : its.program ≡ program = laws.image image its.program program its.accepted accepted in
      let bytes : its.script.bytes ≡ script = subst (λ (entry : Entry). MayHold entry its.script.bytes) script_held its.script.held in
      let says : commands_of its.plan.lines ≡ commands_said script =
      script_says its.program setup.threads its.script.bytes its.plan its.script.reads ∙ ap commands_said bytes in
      let read = laws.read its.program (commands_of its.plan.lines) setup its.runs is_setup its.run its.follow its.losses in
      let stated : left.statement ≡ run_statement setup its.runs =
      same_statement left.statement (run_statement setup its.runs)
      (laws.reading audit (Ok left.statement) (Ok (run_statement setup its.runs)) left.reads (read.0, its.audit_is ∙ read.1)) in
      record {
        runs = its.runs;
        run = subst (λ (p : Program). IsRun p setup its.runs) same its.run;
        follow = subst (λ (cs : List PatchCommand). AllMarksFollow program setup.threads cs its.runs) says
            (subst (λ (p : Program). AllMarksFollow p setup.threads (commands_of its.plan.lines) its.runs) same its.follow);
        none = ap (λ (st : AuditStatement). st.recycled) (sym stated) ∙ left.none;
        trace_is = its.trace_is;
        audit_is = its.audit_is;
        text_is = its.text_is;
      }
    where
      same_statement : (x y : AuditStatement) → (let v : Result AuditStatement AuditFault = Ok x in let w : Result AuditStatement AuditFault = Ok y in v ≡ w) → x ≡ y
      same_statement x y e = cc

  pub left_same : (arguments : ℕ) → RecordsAll program setup.threads (commands_said script) arguments → (trace audit text other_trace other_audit other_text : List ℕ)
      → MayLeaveWhole held i s t a options trace audit text → MayLeaveWhole held i s t a options other_trace other_audit other_text
      → (trace ≡ other_trace) × (audit ≡ other_audit) × (text ≡ other_text)
  left_same arguments records trace audit text other_trace other_audit other_text left left' =
      let one = whole_run trace audit text left in
      let other = whole_run other_trace other_audit other_text left' in
      let same = laws.runs image program setup (commands_said script) arguments one.runs other.runs accepted records one.run other.run one.follow other.follow
      one.none other.none in (
        one.trace_is ∙ (ap (trace_bytes setup) same ∙ sym other.trace_is),
        one.audit_is ∙ (ap (audit_of_run setup) same ∙ sym other.audit_is),
        one.text_is ∙ (ap (state_texts 1) same ∙ sym other.text_is),
      )
