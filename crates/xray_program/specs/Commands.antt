-- What words mean: what each command takes and leaves, and what comes of this and of what the desk holds.
use Rattle.std.specs.Prelude.{◌≡◌, ◌≢◌, ℕ, List, [], ◌∷◌, ◌++◌, Bool, true, false, MatchOption, Option, codes, option_map, ⊤}
use Rattle.std.specs.Option.{option_map_or}
use Rattle.xray_io.specs.Desk.{Entry, Untold}
use Rattle.audit_check.specs.Statements.{AuditStatement}
use Rattle.audit_check.specs.Texts.{verdict_text}
use Rattle.audit_check.specs.Verdicts.{IsJudged}
use Rattle.command_words.specs.Reports.{NameSource, ByIds, ByImage, ByMap, image_named, map_named}
use Rattle.command_words.specs.Words.{Command, Sim, Run, Plain, Extract, Asm, Account, Calls, Stack, Convert, Dump, Check, Order, Profile, Soak, Import, Map, outputs_of}
use Rattle.command_words.specs.declared.profile_options.ProfileOptions.{ProfileOptions}
use Rattle.fdr_file.specs.declared.trace.Trace.{Trace}
use Rattle.function_names.specs.Name.{program_names}
use Rattle.map_names.specs.Naming.{Naming, no_names}
use Rattle.patch_script.specs.Plans.{Plan}
use Rattle.patch_script.specs.Refusals.{commands_of}
use Rattle.program_map.specs.MapText.{map_facts, map_facts_text, map_text}
use Rattle.program_map.specs.Programs.{MappedProgram}
use Rattle.run_order.specs.Answers.{IsOrdered}
use Rattle.runtime_log.specs.Facts.{facts_text}
use Rattle.runtime_log.specs.declared.facts.Facts.{Facts}
use Rattle.stack_rebuild.specs.FaultWords.{deep_words}
use Rattle.stack_rebuild.specs.Stacks.{deep_in, most_open}
use Rattle.step_sim.specs.declared.turns.Turns.{Turns}
use Rattle.trace_forms.specs.Dumps.{dump_text}
use Rattle.xray_image.specs.Extract.{extract_text}
use Rattle.xray_image.specs.Program.{Program}
use Rattle.xray_program.specs.Account.{account_report}
use Rattle.xray_program.specs.Calls.{calls_report}
use Rattle.xray_program.specs.Convert.{converted, log_form, no_text_for}
use Rattle.xray_program.specs.Doings.{Chooses, Comes, Doing, Finds, Gives, IsDetermined, Leaves, ReachesInput, RefusesIf, Takes, Taking}
use Rattle.xray_program.specs.Inputs.{Readable, WholeScript, audit_form, image_form, imported_form, map_form, program_form, readable_form, schedule_form, script_form, text_form, trace_form, unread_trace_form, whole_script_form}
use Rattle.xray_program.specs.LoadOrder.{order_outcome}
use Rattle.xray_program.specs.Outcomes.{Outcome, BadLine, Done}
use Rattle.xray_program.specs.Plain.{PlainPrints}
use Rattle.xray_program.specs.Profile.{AreProfiled, profile_of}
use Rattle.xray_program.specs.Run.{left_of_runs}
use Rattle.xray_program.specs.Setups.{setup_of}
use Rattle.xray_program.specs.Sim.{left_of_replay}
use Rattle.xray_program.specs.Soak.{IsSummary}
use Rattle.xray_program.specs.Stack.{stacks_text}
use Rattle.xray_program.specs.Taking.{Form}

-- ---- inputs that commands share

-- a log, and what names its functions: nothing, an image or a sled map
abbrev pub takes_report : {X : Type 0} → Form X → (log : List ℕ) → (names : NameSource) → Taking (X × Naming) (log ∷ image_named names ++ map_named names)
takes_report form log ByIds = Takes form log (λ value. Gives (value, no_names))
takes_report form log (ByImage name) = Takes form log (λ value. Takes image_form name (λ program. Gives (value, program_names program)))
takes_report form log (ByMap name) = Takes form log (λ value. Takes map_form name (λ naming. Gives (value, naming)))

-- an image, and a script for it and for this many threads
abbrev pub takes_script : (image script : List ℕ) → (threads : ℕ) → Taking (Program × Plan) (image ∷ script ∷ [])
takes_script image script threads =
    Takes image_form image (λ program.
    Takes (script_form program threads) script (λ plan.
    Gives (program, plan)))

-- ---- each command

-- What it does. Its inputs are listed in the order in which they are taken. The script of `check` and of `order` is read
-- for as many threads as the audit states.
abbrev pub doing_of : Command → Doing
doing_of (Sim image script schedule trace audit options) = record {
  Values = Program × Plan × List Turns;
  names = _;
  takes =
      Takes image_form image (λ program.
      Takes (script_form program options.bounds.threads) script (λ plan.
      Takes (schedule_form options.bounds.threads) schedule (λ turns.
      Gives (program, plan, turns))));
  leaves = λ (program, plan, turns). left_of_replay script trace audit (setup_of options) program plan turns;
}
doing_of (Run image script trace audit options) = record {
  Values = Program × Plan;
  names = _;
  takes = takes_script image script options.bounds.threads;
  leaves = λ (program, plan). left_of_runs trace audit (setup_of options) program plan;
}
doing_of (Plain image bounds) = record {
  Values = Program;
  names = _;
  takes = Takes image_form image Gives;
  leaves = λ program. Finds (PlainPrints program bounds) (λ text. Leaves (Done [] text));
}
doing_of (Extract image) = record {
  Values = Program;
  names = _;
  takes = Takes image_form image Gives;
  leaves = λ program. Leaves (Done [] (extract_text program));
}
doing_of (Asm text image threshold relative) = record {
  Values = List ℕ;
  names = _;
  takes = Takes (text_form threshold relative) text Gives;
  leaves = λ file. Leaves (Done ((image, file) ∷ []) []);
}
doing_of (Account trace names options) = record {
  Values = Trace × Naming;
  names = _;
  takes = takes_report trace_form trace names;
  leaves = λ (t, naming). Leaves (Done [] (account_report options t naming));
}
doing_of (Calls trace names options) = record {
  Values = Trace × Naming;
  names = _;
  takes = takes_report trace_form trace names;
  leaves = λ (t, naming). Leaves (Done [] (calls_report options t naming));
}
doing_of (Stack trace names format) = record {
  Values = Trace × Naming;
  names = _;
  takes = takes_report trace_form trace names;
  leaves = λ (t, naming).
      RefusesIf (option_map deep_words (deep_in most_open t.blocks)) trace (codes "trace")
      (Leaves (Done [] (stacks_text format naming t)));
}
doing_of (Convert trace names options) = record {
  Values = Trace × Naming;
  names = _;
  takes = takes_report (log_form options.input) trace names;
  leaves = λ (t, naming).
      RefusesIf (no_text_for options.format t) trace (codes "trace")
      (Leaves (Done [] (converted options.format naming t)));
}
doing_of (Dump trace) = record {
  Values = Readable;
  names = _;
  takes = Takes readable_form trace Gives;
  leaves = λ t. Leaves (Done [] (dump_text t.bytes t.len));
}
doing_of (Check image script trace audit) = record {
  Values = Program × AuditStatement × Plan × List ℕ;
  names = _;
  takes =
      Takes image_form image (λ program.
      Takes audit_form audit (λ statement.
      Takes (script_form program statement.setup.threads) script (λ plan.
      Takes unread_trace_form trace (λ bytes.
      Gives (program, statement, plan, bytes)))));
  leaves = λ (program, statement, plan, bytes).
      Finds (IsJudged program (commands_of plan.lines) statement bytes) (λ verdict. Leaves (Done [] (verdict_text verdict)));
}
doing_of (Order image script audit free schedule) = record {
  Values = Program × AuditStatement × WholeScript;
  names = _;
  takes =
      Takes image_form image (λ program.
      Takes audit_form audit (λ statement.
      Takes (whole_script_form program statement.setup.threads) script (λ whole.
      Gives (program, statement, whole))));
  leaves = λ (program, statement, whole).
      Finds (IsOrdered program (commands_of whole.plan.lines) statement) (λ answer. Leaves (order_outcome audit free schedule whole.text answer));
}
doing_of (Profile image script options) = record {
  Values = Program × Plan;
  names = _;
  takes = takes_script image script options.bounds.threads;
  leaves = λ (program, plan). Chooses (AreProfiled options program (commands_of plan.lines)) (λ runs. Leaves (profile_of options program runs));
}
doing_of (Soak number) = record {
  Values = Unit {0};
  names = _;
  takes = Gives tt;
  leaves = λ none. Finds (IsSummary number) (λ text. Leaves (Done [] text));
}
doing_of (Import log trace) = record {
  Values = List ℕ × Facts;
  names = _;
  takes = Takes imported_form log Gives;
  leaves = λ (file, facts). Leaves (Done ((trace, file) ∷ []) (facts_text facts));
}
doing_of (Map program map) = record {
  Values = MappedProgram;
  names = _;
  takes = Takes program_form program Gives;
  leaves = λ mapped. Leaves (Done ((map, map_text mapped) ∷ []) (map_facts_text (map_facts mapped)));
}

-- whether it waits for nobody, and starts no thread
abbrev pub is_still : Command → Bool
is_still (Run image script trace audit options) = false
is_still (Profile image script options) = false
is_still command = true

-- it is a profile: only of this may an outcome come that has status 7
abbrev pub IsProfile : Command → Type 0
IsProfile command = (image script : List ℕ) × (options : ProfileOptions) × (command ≡ Profile image script options)

-- ---- what was said: a command, or none

-- what it means over what a desk holds
abbrev pub Means : Option Command → (List ℕ → Entry) → Outcome → Type 0
Means said held outcome = MatchOption said (outcome ≡ BadLine) (λ command. Comes (doing_of command) held outcome)

-- the turn of this input had come
abbrev pub HadItsTurn : Option Command → (List ℕ → Entry) → List ℕ → Type 0
HadItsTurn said held name = MatchOption said ⊥ (λ command. ReachesInput (doing_of command).takes held name)

-- the names of the outputs that are asked for
abbrev pub outputs_named : Option Command → List (List ℕ)
outputs_named said = option_map_or outputs_of said []

-- only one outcome is meant, whatever the inputs give; nobody is waited for
abbrev pub IsDecided : Option Command → Type 0
IsDecided said = MatchOption said ⊤ (λ command. (y : (doing_of command).Values) → IsDetermined ((doing_of command).leaves y))

abbrev pub IsStill : Option Command → Type 0
IsStill said = option_map_or is_still said true ≡ true

-- the desk reports of every name what it holds
abbrev pub TellsAll : (List ℕ → Entry) → Type 0
TellsAll held = (name : List ℕ) → held name ≢ Untold
