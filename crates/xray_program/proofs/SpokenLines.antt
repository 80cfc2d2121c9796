-- A script and a schedule that were read are what their lines say, one by one.
use Rattle.std.proofs.Common.{◌≡◌, ℕ, ◌+◌, Bool, true, false, not, List, [], ◌∷◌, ◌++◌, length, Option, Some, None, refl, sym, ap, ◌∙◌, arith, ◌==◌, append-nil, append_assoc}
use Rattle.std.specs.Prelude.{Result, Ok, Err, nat_le, nat_lt, if◌then◌else◌}
use Rattle.std.specs.List.{cons_option, enumerate_from, filter_map, flat_map, list_any}
use Rattle.std.specs.Str.Lines.{lines}
use Rattle.std.proofs.lemmas.Bool.{eqb-true}
use Rattle.std.proofs.lemmas.List.{map-append}
use Rattle.xray_io.specs.Rows.{◌>>=◌, First, InTurn}
use Rattle.text_lines.specs.Lines.{numbered_lines}
use Rattle.text_lines.specs.Words.{is_clean, words_of}
use Rattle.xray_image.specs.Program.{Program}
use Rattle.patch_script.specs.declared.command.PatchCommand.{PatchCommand}
use Rattle.patch_script.specs.declared.fault.ScriptFault.{ScriptFault}
use Rattle.patch_script.specs.declared.fault.ScriptFault.TheVariants as faults
use Rattle.patch_script.specs.Language.{command_of}
use Rattle.patch_script.specs.Limits.{most_commands}
use Rattle.patch_script.specs.Plans.{Plan, plan_of}
use Rattle.patch_script.specs.Refusals.{Lines, commands_of, has_go, holds_for_good, names_no_function, names_no_thread, is_misplaced, breaks_hold, breaks_log, waits_for_itself, judged, spoken, with_line, read_lines, ended}
use Rattle.step_sim.specs.declared.fault.ScheduleFault.{ScheduleFault}
use Rattle.step_sim.specs.declared.fault.ScheduleFault.TheVariants as schedule_faults
use Rattle.step_sim.specs.declared.turns.Turns.{Turns}
use Rattle.step_sim.specs.Schedules.{is_well_formed, line_rows, most_lines, names_threads, said_by, schedule_of, turns_said}
use Rattle.xray_program.specs.Spoken.{commands_said, turns_given}

same_Ok : {A F : Type 0} (x y : A) → ◌≡◌ {A = Result A F} (Ok x) (Ok y) → x ≡ y
same_Ok x y e = cc

bind_ok : {A B F : Type 0} (r : Result A F) (f : A → Result B F) (y : B) → (r >>= f) ≡ Ok y → (x : A) × (r ≡ Ok x) × (f x ≡ Ok y)
bind_ok (Ok x) f y e = (x, refl, e)
bind_ok (Err fault) f y e = absurd cc

-- ---- scripts

-- if no row refuses, the value is the last one
six : {A : Type 0} (a b c d e f : Bool) (p q r s t u : ScriptFault) (y x : A)
    → ◌≡◌ {A = Result A ScriptFault}
    (First a (Err p) (First b (Err q) (First c (Err r) (First d (Err s) (First e (Err t) (First f (Err u) (Ok y))))))) (Ok x)
    → y ≡ x
six true b c d e f p q r s t u y x is = absurd cc
six false true c d e f p q r s t u y x is = absurd cc
six false false true d e f p q r s t u y x is = absurd cc
six false false false true e f p q r s t u y x is = absurd cc
six false false false false true f p q r s t u y x is = absurd cc
six false false false false false true p q r s t u y x is = absurd cc
six false false false false false false p q r s t u y x is = same_Ok y x is

no_words : {X : Type 0} (x : X) (xs : List X) → (length (x ∷ xs) == 0) ≡ true → ⊥
no_words x xs is = let none : length (x ∷ xs) ≡ 0 = eqb-true (length (x ∷ xs)) 0 is in absurd (omega (arith, none))

module _ (program : Program) (threads : ℕ) where
  judged_adds : (before : Lines) (number : ℕ) (command : PatchCommand) (after : Lines) → judged program threads before number command ≡ Ok after
      → before ++ (number, command) ∷ [] ≡ after
  judged_adds before number command after is =
      six (names_no_function program command) (names_no_thread threads command) (is_misplaced (commands_of before) command)
      (breaks_hold (commands_of before) command) (breaks_log (commands_of before) command) (waits_for_itself (commands_of before) command)
      (faults.Function number) (faults.Thread number) (faults.Go number) (faults.Hold number) (faults.Log number) (faults.SelfWait number)
      (before ++ (number, command) ∷ []) after is

  spoken_adds : (before : Lines) (number : ℕ) (said : Option PatchCommand) (after : Lines) → spoken program threads before number said ≡ Ok after
      → (later : List PatchCommand) → commands_of after ++ later ≡ commands_of before ++ cons_option said later
  spoken_adds before number None after is later = absurd cc
  spoken_adds before number (Some command) after is later =
      let same = judged_adds before number command after is in
      ap (λ (ls : Lines). commands_of ls ++ later) (sym same)
      ∙ ap (λ (cs : List PatchCommand). cs ++ later) (map-append (λ (l : ℕ × PatchCommand). l.1) before ((number, command) ∷ []))
      ∙ append_assoc (commands_of before) (command ∷ []) later

  words_add : (before : Lines) (number : ℕ) (words : List (List ℕ)) (blank full clean : Bool) (after : Lines) → blank ≡ (length words == 0)
      → First blank (Ok before) (First full (Err (faults.Limit number)) (spoken program threads before number (if clean then command_of words else None))) ≡ Ok after
      → (later : List PatchCommand) → commands_of after ++ later ≡ commands_of before ++ cons_option (command_of words) later
  words_add before number [] true full clean after blank is later = ap (λ (ls : Lines). commands_of ls ++ later) (sym (same_Ok before after is))
  words_add before number (word ∷ words) true full clean after blank is later = absurd (no_words word words (sym blank))
  words_add before number words false true clean after blank is later = absurd cc
  words_add before number words false false true after blank is later = spoken_adds before number (command_of words) after is later
  words_add before number words false false false after blank is later = absurd cc

  line_adds : (before : Lines) (number : ℕ) (line : List ℕ) (after : Lines) → with_line program threads before (number, line) ≡ Ok after
      → (later : List PatchCommand) → commands_of after ++ later ≡ commands_of before ++ cons_option (command_of (words_of line)) later
  line_adds before number line after is later =
      words_add before number (words_of line) (length (words_of line) == 0) (nat_le most_commands (length before)) (is_clean line) after refl is later

  lines_add : (n : ℕ) (before : Lines) (texts : List (List ℕ)) (all : Lines) → read_lines program threads before (enumerate_from n texts) ≡ Ok all
      → commands_of all ≡ commands_of before ++ filter_map (λ line. command_of (words_of line)) texts
  lines_add n before [] all is = ap commands_of (sym (same_Ok before all is)) ∙ sym (append-nil (commands_of before))
  lines_add n before (text ∷ texts) all is =
      let parts = bind_ok (with_line program threads before (n, text)) (λ ls. read_lines program threads ls (enumerate_from (n + 1) texts)) all is in
      lines_add (n + 1) parts.0 texts all parts.2
      ∙ line_adds before n text parts.0 parts.1 (filter_map (λ line. command_of (words_of line)) texts)

  ended_same : (number : ℕ) (said all : Lines) → ended number said ≡ Ok all → said ≡ all
  ended_same number said all is = picked (not (has_go (commands_of said))) (list_any (holds_for_good (commands_of said)) (commands_of said)) is
    where
      picked : (missing held : Bool) → First missing (Err (faults.Go number)) (First held (Err (faults.Hold number)) (Ok said)) ≡ Ok all → said ≡ all
      picked true held is = absurd cc
      picked false true is = absurd cc
      picked false false is = same_Ok said all is

-- the commands of a script that was read are those that its lines say
pub script_says : (program : Program) (threads : ℕ) (text : List ℕ) (plan : Plan) → plan_of program threads text ≡ Ok plan
    → commands_of plan.lines ≡ commands_said text
script_says program threads text plan e =
    let number = length (lines text) + 1 in
    let whole = bind_ok (read_lines program threads [] (numbered_lines text) >>= (λ said. ended number said))
    (λ said. Ok (record { program = program; threads = threads; lines = said })) plan e in
    let parts = bind_ok (read_lines program threads [] (numbered_lines text)) (λ said. ended number said) whole.0 whole.1 in
    let made : Plan = record { program = program; threads = threads; lines = whole.0 } in
    ap (λ (p : Plan). commands_of p.lines) (sym (same_Ok made plan whole.2))
    ∙ ap commands_of (sym (ended_same program threads number parts.0 whole.0 parts.2))
    ∙ lines_add program threads 1 [] (lines text) parts.0 parts.1

-- ---- schedules

module _ (threads : ℕ) where
  three : {A : Type 0} (a b c : Bool) (p q r : ScheduleFault) (y x : A)
      → ◌≡◌ {A = Result A ScheduleFault} (First a (Err p) (First b (Err q) (First c (Err r) (Ok y)))) (Ok x) → y ≡ x
  three true b c p q r y x is = absurd cc
  three false true c p q r y x is = absurd cc
  three false false true p q r y x is = absurd cc
  three false false false p q r y x is = same_Ok y x is

  abbrev given : List ℕ → List Turns
  given line = turns_said (said_by (words_of line))

  line_gives : (before : List Turns) (number : ℕ) (line : List ℕ) (after : List Turns) → line_rows threads before (number, line) ≡ Ok after
      → before ++ given line ≡ after
  line_gives before number line after is =
      three (not (is_clean line)) (not (is_well_formed (said_by (words_of line)))) (not (names_threads threads (said_by (words_of line))))
      (schedule_faults.Syntax number) (schedule_faults.Syntax number) (schedule_faults.Thread number) (before ++ given line) after is

  lines_give : (n : ℕ) (before : List Turns) (texts : List (List ℕ)) (all : List Turns)
      → InTurn (λ before line. line_rows threads before line) before (enumerate_from n texts) ≡ Ok all → before ++ flat_map given texts ≡ all
  lines_give n before [] all is = append-nil before ∙ same_Ok before all is
  lines_give n before (text ∷ texts) all is =
      let parts = bind_ok (line_rows threads before (n, text)) (λ turns. InTurn (λ before line. line_rows threads before line) turns (enumerate_from (n + 1) texts)) all is in
      sym (append_assoc before (given text) (flat_map given texts))
      ∙ ap (λ (turns : List Turns). turns ++ flat_map given texts) (line_gives before n text parts.0 parts.1)
      ∙ lines_give (n + 1) parts.0 texts all parts.2

  unless_long : (text : List ℕ) (long : Bool) (schedule : List Turns)
      → First long (Err schedule_faults.Limit) (InTurn (λ before line. line_rows threads before line) [] (numbered_lines text)) ≡ Ok schedule
      → schedule ≡ turns_given text
  unless_long text true schedule is = absurd cc
  unless_long text false schedule is = sym (lines_give 1 [] (lines text) schedule is)

-- the turns of a schedule that was read are those that its lines give
pub schedule_gives : (threads : ℕ) (text : List ℕ) (schedule : List Turns) → schedule_of threads text ≡ Ok schedule → schedule ≡ turns_given text
schedule_gives threads text schedule is = unless_long threads text (nat_lt most_lines (length (lines text))) schedule is
