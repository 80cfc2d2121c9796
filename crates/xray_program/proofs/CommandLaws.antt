-- Each command is lawful: what it finds is there, and is only one thing. So the laws of all commands hold of it.
use Rattle.std.proofs.Common.{◌≡◌, ◌⊎◌, ◌↔◌, ◌∙◌, ℕ, List, [], ◌∷◌, Bool, Option, Some, None, Result, Ok, Err, arith, ap, codes, inl, inr, refl, subst, sym}
use Rattle.asm_text.specs.Assembling.{assembled}
use Rattle.asm_text.specs.FaultWords.{asm_words}
use Rattle.audit_check.specs.declared.verdict.Verdict.{Verdict}
use Rattle.audit_check.specs.Statements.{AuditStatement, MayState}
use Rattle.audit_check.specs.Verdicts.{IsJudged}
use Rattle.command_words.specs.Limits.{trace_limit}
use Rattle.command_words.specs.Reports.{NameSource, ByIds, ByImage, ByMap}
use Rattle.command_words.specs.Words.{Command, Sim, Run, Plain, Extract, Asm, Account, Calls, Stack, Convert, Dump, Check, Order, Profile, Soak, Import, Map}
use Rattle.fdr_file.specs.Traces.{trace_of}
use Rattle.function_names.specs.Name.{program_names}
use Rattle.map_names.specs.FaultWords.{map_words}
use Rattle.map_names.specs.Maps.{map_naming}
use Rattle.map_names.specs.Naming.{Naming, no_names}
use Rattle.patch_script.specs.declared.command.PatchCommand.{PatchCommand}
use Rattle.patch_script.specs.FaultWords.{script_words}
use Rattle.patch_script.specs.Plans.{plan_of}
use Rattle.patch_script.specs.Refusals.{commands_of}
use Rattle.program_map.specs.FaultWords.{program_words}
use Rattle.program_map.specs.Programs.{program_of_elf}
use Rattle.run_order.specs.Answers.{IsOrdered}
use Rattle.run_order.specs.FreeScripts.{free_text}
use Rattle.run_order.specs.declared.fault.OrderFault.{OrderFault}
use Rattle.runtime_log.specs.Laws.{OneImport, SomeImport}
use Rattle.step_sim.specs.FaultWords.{schedule_words}
use Rattle.step_sim.specs.Schedules.{schedule_of}
use Rattle.step_sim.specs.WrittenSchedules.{schedule_text}
use Rattle.step_sim.specs.declared.turns.Turns.{Turns}
use Rattle.trace_words.specs.TraceWords.{trace_words}
use Rattle.xray_image.specs.Program.{IsAccepted, Program}
use Rattle.xray_io.specs.Desk.{Entry}
use Rattle.xray_io.specs.World.{World}
use Rattle.xray_program.specs.Accepted.{AreAccepted, CountsNoFault, HasAnOrder}
use Rattle.xray_program.specs.Answers.{IsAnswer}
use Rattle.xray_program.specs.Commands.{IsDecided, IsProfile, Means, TellsAll, doing_of, takes_report}
use Rattle.xray_program.specs.Convert.{log_form}
use Rattle.xray_program.specs.Doings.{IsWriting}
use Rattle.xray_program.specs.Inputs.{WholeScript, audit_form, image_form, imported_form, map_form, map_limit, program_form, program_limit, readable_form, schedule_form, schedule_limit, script_form, script_limit, text_form, text_limit, trace_form, unread_trace_form, whole_script_form}
use Rattle.xray_program.specs.LoadOrder.{order_outcome}
use Rattle.xray_program.specs.Outcomes.{BadLine, Done, Outcome, status_of, written_by}
use Rattle.xray_program.specs.Setups.{setup_of}
use Rattle.xray_program.specs.Taking.{Form, ended_by}
use Rattle.xray_program.specs.private.CallLaws.{CallLaws}
use Rattle.xray_program.specs.private.Lawful.{AreKinds, IsKind, IsLawfulDoing}
use Rattle.xray_program.proofs.Audits.{OneReading, SomeReading, audit_judged, audit_unique}
use Rattle.xray_program.proofs.DoingLaws.{IsSound, accepted_done, never_7, one_comes, refusal_comes, some_comes}
use Rattle.xray_program.proofs.DumpLaws.{readable_judged, readable_unique}
use Rattle.xray_program.proofs.Images.{Accepts, OneVerdict, SomeVerdict, image_judged, image_unique}
use Rattle.xray_program.proofs.InputMeanings.{HoldsBytes, any_kind, kind_by}
use Rattle.xray_program.proofs.LogForms.{log_is_kind}
use Rattle.xray_program.proofs.Logs.{imported_judged, imported_unique}
use Rattle.xray_program.proofs.PlainLaws.{OneEnd, SomeEnd, one_plain, some_plain}
use Rattle.xray_program.proofs.RunExists.{ScriptLetsEnd, SomeLosses, SomeMarks, SomeRuns, some_runs}
use Rattle.xray_program.proofs.RunLaws.{some_beside, some_profiled}
use Rattle.xray_program.proofs.SimLaws.{OneRun, StillRun, one_replayed, some_replayed}
use Rattle.xray_program.proofs.SoakLaws.{DrawnLaws, one_summary, some_summary}
use Rattle.xray_program.proofs.WholeScripts.{whole_judged, whole_unique}

-- what orders say: there is one answer to an audit, for an accepted image
abbrev pub OneOrder : Type 0
OneOrder =
    (bytes : List ℕ) (program : Program) (script : List PatchCommand) (statement : AuditStatement) (answer other : Result (List Turns) OrderFault)
    → IsAccepted bytes program → IsOrdered program script statement answer → IsOrdered program script statement other → answer ≡ other

abbrev pub SomeOrder : Type 0
SomeOrder =
    (bytes : List ℕ) (program : Program) (script : List PatchCommand) (statement : AuditStatement)
    → IsAccepted bytes program → MayState statement → (answer : Result (List Turns) OrderFault) × IsOrdered program script statement answer

-- what the crates below say
pub record LawsBelow : Type 0 where
  pub one_verdict : OneVerdict
  pub some_verdict : SomeVerdict
  pub accepts : Accepts
  pub one_end : OneEnd
  pub some_end : SomeEnd
  pub one_run : OneRun
  pub still_run : StillRun
  pub lets : ScriptLetsEnd
  pub lawful : CallLaws
  pub marks : SomeMarks
  pub losses : SomeLosses
  pub drawn : DrawnLaws
  pub one_reading : OneReading
  pub some_reading : SomeReading
  pub one_judgement : (bytes : List ℕ) (program : Program) (script : List PatchCommand) (statement : AuditStatement) (trace : List ℕ) (verdict other : Verdict)
      → IsAccepted bytes program → IsJudged program script statement trace verdict → IsJudged program script statement trace other → verdict ≡ other
  pub some_judgement : (bytes : List ℕ) (program : Program) (script : List PatchCommand) (statement : AuditStatement) (trace : List ℕ)
      → IsAccepted bytes program → MayState statement → (verdict : Verdict) × IsJudged program script statement trace verdict
  pub one_order : OneOrder
  pub some_order : SomeOrder
  pub one_import : OneImport
  pub some_import : SomeImport

-- ---- kinds of input

image_is : LawsBelow → IsKind image_form
image_is below = record { unique = image_unique below.one_verdict below.accepts; judged = image_judged below.some_verdict below.accepts }

audit_is : LawsBelow → IsKind audit_form
audit_is below = record { unique = audit_unique below.one_reading; judged = audit_judged below.some_reading }

imported_is : LawsBelow → IsKind imported_form
imported_is below = record { unique = imported_unique below.one_import; judged = imported_judged below.some_import }

script_is : (program : Program) (threads : ℕ) → IsKind (script_form program threads)
script_is program threads = kind_by (codes "script") script_limit (plan_of program threads) script_words

whole_is : (program : Program) (threads : ℕ) → IsKind (whole_script_form program threads)
whole_is program threads = record { unique = whole_unique program threads; judged = whole_judged program threads }

schedule_is : (threads : ℕ) → IsKind (schedule_form threads)
schedule_is threads = kind_by (codes "schedule") schedule_limit (schedule_of threads) schedule_words

text_is : (threshold : ℕ) (relative : Bool) → IsKind (text_form threshold relative)
text_is threshold relative = kind_by (codes "text") text_limit (λ bytes. assembled bytes threshold relative) asm_words

trace_is : IsKind trace_form
trace_is = kind_by (codes "trace") trace_limit trace_of trace_words

map_is : IsKind map_form
map_is = kind_by (codes "map") map_limit map_naming map_words

program_is : IsKind program_form
program_is = kind_by (codes "program") program_limit program_of_elf program_words

readable_is : IsKind readable_form
readable_is = record { unique = readable_unique; judged = readable_judged }

unread_is : IsKind unread_trace_form
unread_is = any_kind (codes "trace") trace_limit

-- the inputs of a report
report_is : {X : Type 0} → LawsBelow → (form : Form X) → IsKind form → (log : List ℕ) (names : NameSource) (Then : X × Naming → Type 0)
    → ((x : X) (naming : Naming) → Then (x, naming)) → AreKinds (takes_report form log names) Then
report_is below form is log ByIds Then later = (is, λ bytes x reads. later x no_names)
report_is below form is log (ByImage name) Then later = (is, λ bytes x reads. (image_is below, λ file program accepted. later x (program_names program)))
report_is below form is log (ByMap name) Then later = (is, λ bytes x reads. (map_is, λ file naming said. later x naming))

-- ---- each command

done_writes : (outputs : List (List ℕ × List ℕ)) (text : List ℕ) → IsWriting (Done outputs text)
done_writes outputs text e = cc

ended_writes : (outputs : List (List ℕ × List ℕ)) (text : List ℕ) (trouble : Option (List ℕ)) → IsWriting (ended_by outputs text trouble)
ended_writes outputs text None e = cc
ended_writes outputs text (Some words) e = cc

beside : LawsBelow → SomeRuns
beside below = some_runs below.some_end below.lets below.marks below.losses

pub command_is_lawful : LawsBelow → (command : Command) → IsLawfulDoing (doing_of command)
command_is_lawful below (Sim i s c t a options) =
    let setup = setup_of options in (
      image_is below,
      λ file program accepted. (
        script_is program _,
        λ _ plan _. (
          schedule_is _,
          λ schedule turns read. λ none. (
            some_replayed below.lawful below.still_run file schedule program plan turns setup t a accepted read none,
            (λ one other x y. one_replayed below.one_run file program plan turns setup t a one other accepted x y),
            λ written traced. tt,
          ),
        ),
      ),
    )
command_is_lawful below (Run i s t a options) = (
  image_is below,
  λ file program accepted. (
    script_is program _,
    λ text plan read. (
      some_beside below.lawful (beside below) file text program plan (setup_of options) t a accepted read,
      λ written traced. done_writes written.0 written.1,
    ),
  ),
)
command_is_lawful below (Plain i bounds) = (
  image_is below,
  λ file program accepted. (
    some_plain below.some_end file program bounds accepted,
    (λ one other x y. one_plain below.one_end file program bounds one other accepted x y),
    λ text prints. tt,
  ),
)
command_is_lawful below (Extract i) = (image_is below, λ file program accepted. tt)
command_is_lawful below (Asm t i threshold relative) = (text_is threshold relative, λ bytes file reads. tt)
command_is_lawful below (Account t names options) = report_is below trace_form trace_is t names _ (λ trace naming. tt)
command_is_lawful below (Calls t names options) = report_is below trace_form trace_is t names _ (λ trace naming. tt)
command_is_lawful below (Stack t names format) = report_is below trace_form trace_is t names _ (λ trace naming none. tt)
command_is_lawful below (Convert t names options) =
    report_is below (log_form options.input) (log_is_kind options.input) t names _ (λ trace naming none. tt)
command_is_lawful below (Dump t) = (readable_is, λ bytes t reads. tt)
command_is_lawful below (Check i s t a) = (
  image_is below,
  λ file program accepted. (
    audit_is below,
    λ _ statement stated. (
      script_is program _,
      λ _ plan _. (
        unread_is,
        λ _ bytes _. (
          below.some_judgement file program (commands_of plan.lines) statement bytes accepted stated.0,
          (λ one other x y. below.one_judgement file program (commands_of plan.lines) statement bytes one other accepted x y),
          λ verdict is. tt,
        ),
      ),
    ),
  ),
)
command_is_lawful below (Order i s a f o) = (
  image_is below,
  λ file program accepted. (
    audit_is below,
    λ _ statement stated. (
      whole_is program _,
      λ _ whole _. (
        below.some_order file program (commands_of whole.plan.lines) statement accepted stated.0,
        (λ one other x y. below.one_order file program (commands_of whole.plan.lines) statement one other accepted x y),
        λ answer is. tt,
      ),
    ),
  ),
)
command_is_lawful below (Profile i s options) = (
  image_is below,
  λ file program accepted. (
    script_is program _,
    λ text plan read. (
      some_profiled below.lawful (beside below) file text program plan options accepted read,
      λ runs are. ended_writes [] _ _,
    ),
  ),
)
command_is_lawful below (Soak number) = (
  some_summary below.still_run below.drawn number,
  (λ one other x y. sym (one_summary (image_unique below.one_verdict below.accepts) below.one_run number one other x y)),
  λ text is. tt,
)
command_is_lawful below (Import log trace) = (imported_is below, λ bytes made reads. tt)
command_is_lawful below (Map program map) = (program_is, λ bytes mapped reads. tt)

-- ---- the laws

-- what is asked of all commands
abbrev pub AreLawful : Type 0
AreLawful = (command : Command) → IsLawfulDoing (doing_of command)

pub one_means : AreLawful → (said : Option Command) (held : List ℕ → Entry) (one other : Outcome) → TellsAll held → IsDecided said
    → Means said held one → Means said held other → one ≡ other
one_means lawful None held one other told decided x y = x ∙ sym y
one_means lawful (Some command) held one other told decided x y = one_comes (doing_of command) (lawful command) decided held told other one tt y x

pub refusal_means : AreLawful → (said : Option Command) (held : List ℕ → Entry) (refusal other : Outcome) → TellsAll held → written_by refusal ≡ None
    → Means said held refusal → Means said held other → other ≡ refusal
refusal_means lawful None held refusal other told none x y = y ∙ sym x
refusal_means lawful (Some command) held refusal other told none x y = refusal_comes (doing_of command) (lawful command) held told refusal other none x y

pub some_means : AreLawful → (said : Option Command) (held : List ℕ → Entry) → TellsAll held → HoldsBytes held → (outcome : Outcome) × Means said held outcome
some_means lawful None held told holds = (BadLine, refl)
some_means lawful (Some command) held told holds = some_comes (doing_of command) (lawful command) held told holds

-- ---- status 7

-- 0 isn't 7, nor is the status of an order
not_7 : ◌≡◌ {A = ℕ} 0 7 → ⊥
not_7 e = omega (arith, e)

order_not_7 : (a f o text : List ℕ) (answer : Result (List Turns) OrderFault) → status_of (order_outcome a f o text answer) ≡ 7 → ⊥
order_not_7 a f o text (Ok turns) e = not_7 e
order_not_7 a f o text (Err fault) e = two e
  where
    two : ◌≡◌ {A = ℕ} 2 7 → ⊥
    two e = omega (arith, e)

-- all but a profile leave nothing that has status 7
sound_or_profile : (command : Command) → ((y : (doing_of command).Values) → IsSound ((doing_of command).leaves y)) ⊎ IsProfile command
sound_or_profile (Sim i s c t a options) = inl (λ y written. not_7)
sound_or_profile (Run i s t a options) = inl (λ y written. not_7)
sound_or_profile (Plain i bounds) = inl (λ y text. not_7)
sound_or_profile (Extract i) = inl (λ y. not_7)
sound_or_profile (Asm t i threshold relative) = inl (λ y. not_7)
sound_or_profile (Account t names options) = inl (λ y. not_7)
sound_or_profile (Calls t names options) = inl (λ y. not_7)
sound_or_profile (Stack t names format) = inl (λ y. not_7)
sound_or_profile (Convert t names options) = inl (λ y. not_7)
sound_or_profile (Dump t) = inl (λ y. not_7)
sound_or_profile (Check i s t a) = inl (λ y verdict. not_7)
sound_or_profile (Order i s a f o) = inl (λ y answer. order_not_7 a f o y.2.text answer)
sound_or_profile (Profile i s options) = inr (i, s, options, refl)
sound_or_profile (Soak number) = inl (λ y text. not_7)
sound_or_profile (Import log trace) = inl (λ y. not_7)
sound_or_profile (Map program map) = inl (λ y. not_7)

pub only_profiles_fall : (said : Option Command) (held : List ℕ → Entry) (outcome : Outcome) → Means said held outcome → status_of outcome ≡ 7
    → (command : Command) × (said ≡ Some command) × IsProfile command
only_profiles_fall None held outcome is e = absurd (differs (sym (ap status_of is) ∙ e))
  where
    differs : ◌≡◌ {A = ℕ} 1 7 → ⊥
    differs e = omega (arith, e)
only_profiles_fall (Some command) held outcome is e = by_kind (sound_or_profile command)
  where
    by_kind : ((y : (doing_of command).Values) → IsSound ((doing_of command).leaves y)) ⊎ IsProfile command
        → (c : Command) × (Some command ≡ Some c) × IsProfile c
    by_kind (inl sound) = absurd (never_7 (doing_of command) sound held outcome is e)
    by_kind (inr profile) = (command, refl, profile)

-- if all is accepted, all is done
pub done_or_memory : AreLawful → (command : Command) (before after : World) (status : ℕ) → AreAccepted before.desk.held command → CountsNoFault before after
    → IsAnswer (Some command) before after status → (status ≡ 0) ⊎ (status ≡ 5) ⊎ ((status ≡ 7) × IsProfile command)
done_or_memory lawful command before after status accepted calm (inl (outcome, meant, same)) =
    by_status (accepted_done (doing_of command) (lawful command) before.desk.held accepted outcome meant)
  where
    by_status : (status_of outcome ≡ 0) ⊎ (status_of outcome ≡ 7) → (status ≡ 0) ⊎ (status ≡ 5) ⊎ ((status ≡ 7) × IsProfile command)
    by_status (inl done) = inl (sym same ∙ done)
    by_status (inr seven) =
        let fell = only_profiles_fall (Some command) before.desk.held outcome meant seven in
        inr (inr (sym same ∙ seven, subst IsProfile (the_same fell.0 fell.1) fell.2))
      where
        the_same : (c : Command) → ◌≡◌ {A = Option Command} (Some command) (Some c) → c ≡ command
        the_same c e = cc
done_or_memory lawful command before after status accepted calm (inr (inl memory)) = inr (inl memory)
done_or_memory lawful command before after status accepted calm (inr (inr (inl (three, rose)))) = absurd (calm.reads rose)
done_or_memory lawful command before after status accepted calm (inr (inr (inr (four, inl rose)))) = absurd (calm.writes rose)
done_or_memory lawful command before after status accepted calm (inr (inr (inr (four, inr rose)))) = absurd (calm.out rose)

-- the run of an accepted audit has an order, which is written
pub accepted_order : OneOrder → SomeOrder → (held : List ℕ → Entry) (i s a f o : List ℕ) → AreAccepted held (Order i s a f o) ↔ HasAnOrder held i s a
accepted_order one some held i s a f o = (has, are)
  where
    by_answer : (program : Program) (statement : AuditStatement) (whole : WholeScript) (answer : Result (List Turns) OrderFault)
        → IsOrdered program (commands_of whole.plan.lines) statement answer → IsWriting (order_outcome a f o whole.text answer)
        → (turns : List Turns) × IsOrdered program (commands_of whole.plan.lines) statement (Ok turns)
    by_answer program statement whole (Ok turns) is writes = (turns, is)
    by_answer program statement whole (Err fault) is writes = absurd (writes refl)

    has : AreAccepted held (Order i s a f o) → HasAnOrder held i s a
    has (program, image, (statement, audit, (whole, script, written))) =
        let answer = some image.bytes program (commands_of whole.plan.lines) statement image.reads audit.reads.0 in
        let ordered = by_answer program statement whole answer.0 answer.1 (written answer.0 answer.1) in
        (program, statement, whole, ordered.0, image, audit, script, ordered.1)

    are : HasAnOrder held i s a → AreAccepted held (Order i s a f o)
    are (program, statement, whole, turns, image, audit, script, ordered) = (
      program,
      image,
      (
        statement,
        audit,
        (
          whole,
          script,
          λ answer is.
              subst (λ (found : Result (List Turns) OrderFault). IsWriting (order_outcome a f o whole.text found))
              (one image.bytes program (commands_of whole.plan.lines) statement (Ok turns) answer image.reads ordered is)
              (done_writes ((f, free_text whole.text) ∷ (o, schedule_text turns) ∷ []) []),
        ),
      ),
    )
