-- A script that is written of commands is read as these commands.
use Rattle.std.proofs.Common.{◌≡◌, ℕ, zero, suc, ◌+◌, ◌<◌, ◌≤◌, Bool, true, false, cond, List, [], ◌∷◌, ◌++◌, length, map, take, None, Some, refl, sym, ap, subst, ◌∙◌, arith, append_assoc, append-nil, ◌==◌}
use Rattle.std.specs.Prelude.{All, Result, Ok, Err, decimal, slice_get, nat_le, option_map}
use Rattle.std.specs.List.{enumerate_from, list_all, list_any}
use Rattle.std.specs.Str.Lines.{lines}
use Rattle.std.proofs.lemmas.Bool.{and_from, lt-leb}
use Rattle.std.proofs.lemmas.List.{length-append}
use Rattle.std.proofs.lemmas.List.FromFn.{length-enumerate_from}
use Rattle.std.proofs.Math.Seq.{take-append_seam}
use Rattle.xray_io.specs.Rows.{◌>>=◌}
use Rattle.text_lines.specs.Words.{words_of}
use Rattle.text_lines.specs.Written.{is_written_word, are_written_words, written_line, WrittenNumbersRead, WrittenTextsRead}
use Rattle.xray_image.specs.Program.{Program}
use Rattle.patch_script.specs.declared.command.PatchCommand.{PatchCommand}
use Rattle.patch_script.specs.declared.command.PatchCommand.TheVariants as commands
use Rattle.patch_script.specs.declared.fault.ScriptFault.{ScriptFault}
use Rattle.patch_script.specs.declared.fault.ScriptFault.TheVariants as faults
use Rattle.patch_script.specs.Language.{command_of, on_two}
use Rattle.patch_script.specs.Plans.{IsOrderly}
use Rattle.patch_script.specs.Refusals.{Lines, commands_of, has_go, holds_for_good, names_no_function, names_no_thread, is_misplaced, breaks_hold, breaks_log, waits_for_itself, IsAdmitted, judged, spoken, command_in, with_line, read_lines, ended}
use Rattle.patch_script.specs.WrittenScripts.{command_words, script_text, written_plan, HasWords, WrittenScriptsRead}
use Rattle.patch_script.proofs.Lists.{slice_get-append_right}

-- ---- numbered commands

numbered_commands : (n : ℕ) (script : List PatchCommand) → commands_of (enumerate_from n script) ≡ script
numbered_commands n [] = refl
numbered_commands n (command ∷ script) = ap (λ (cs : List PatchCommand). command ∷ cs) (numbered_commands (n + 1) script)

numbered_more : (n : ℕ) (front : List PatchCommand) (command : PatchCommand)
    → enumerate_from n front ++ (n + length front, command) ∷ [] ≡ enumerate_from n (front ++ command ∷ [])
numbered_more n [] command = ap (λ m. (m, command) ∷ []) (let e : n + 0 ≡ n = omega arith in e)
numbered_more n (first ∷ front) command =
    ap (λ (ls : Lines). (n, first) ∷ ls)
    (ap (λ m. enumerate_from (n + 1) front ++ (m, command) ∷ []) (let e : n + length (first ∷ front) ≡ n + 1 + length front = omega arith in e) ∙ numbered_more (n + 1) front command)

slice_get-numbered : (n i : ℕ) (script : List PatchCommand) (command : PatchCommand) → slice_get script i ≡ Some command
    → slice_get (enumerate_from n script) i ≡ Some (n + i, command)
slice_get-numbered n i [] command at = absurd cc
slice_get-numbered n zero (first ∷ script) command at =
    ap (option_map (λ c. (n, c))) at ∙ ap (λ m. Some (m, command)) (let e : n ≡ n + 0 = omega arith in e)
slice_get-numbered n (suc i) (first ∷ script) command at =
    slice_get-numbered (n + 1) i script command at ∙ ap (λ m. Some (m, command)) (let e : n + 1 + i ≡ n + suc i = omega arith in e)

-- ---- a line

six_false : {A : Type 0} (a b c d e f : Bool) (p q r s t u : ScriptFault) (y : A)
    → a ≡ false → b ≡ false → c ≡ false → d ≡ false → e ≡ false → f ≡ false
    → ◌≡◌ {A = Result A ScriptFault} (cond a (Err p) (cond b (Err q) (cond c (Err r) (cond d (Err s) (cond e (Err t) (cond f (Err u) (Ok y))))))) (Ok y)
six_false a b c d e f p q r s t u y ha hb hc hd he hf = rw (ha, hb, hc, hd, he, hf) refl

-- the words of commands are written
module _ (numbers : WrittenNumbersRead) where
  number_word : (n : ℕ) → n ≤ 4294967295 → is_written_word (decimal n) ≡ true
  number_word n h = numbers.word n (omega (arith, h))

  one_number : (n : ℕ) → n ≤ 4294967295 → are_written_words (decimal n ∷ []) ≡ true
  one_number n h = and_from (is_written_word (decimal n)) true (number_word n h) refl

  two_numbers : (n m : ℕ) → (n ≤ 4294967295) × (m ≤ 4294967295) → are_written_words (decimal n ∷ decimal m ∷ []) ≡ true
  two_numbers n m h = and_from (is_written_word (decimal n)) (are_written_words (decimal m ∷ [])) (number_word n h.0) (one_number m h.1)

  pub command_written : (command : PatchCommand) → HasWords command → are_written_words (command_words command) ≡ true
  command_written commands.Patch h = refl
  command_written commands.Unpatch h = refl
  command_written (commands.PatchFunction id) h = one_number id h
  command_written (commands.UnpatchFunction id) h = one_number id h
  command_written commands.SetHandler h = refl
  command_written commands.RemoveHandler h = refl
  command_written commands.SetArgHandler h = refl
  command_written commands.RemoveArgHandler h = refl
  command_written commands.Init h = refl
  command_written commands.Finalize h = refl
  command_written (commands.Hold thread passing) h = two_numbers thread passing h
  command_written commands.Go h = refl
  command_written (commands.Release thread) h = one_number thread h
  command_written (commands.Await thread count) h = two_numbers thread count h

  pub script_written : (script : List PatchCommand) → All HasWords script → list_all are_written_words (map command_words script) ≡ true
  script_written [] h = refl
  script_written (command ∷ script) h =
      and_from (are_written_words (command_words command)) (list_all are_written_words (map command_words script))
      (command_written command (h 0 command (omega arith))) (script_written script (λ k d lt. h (suc k) d (omega (arith, lt))))

module _ (program : Program) (threads : ℕ) where
  judged_admits : (before : Lines) (number : ℕ) (command : PatchCommand) → IsAdmitted program threads (commands_of before) command
      → judged program threads before number command ≡ Ok (before ++ (number, command) ∷ [])
  judged_admits before number command h =
      six_false (names_no_function program command) (names_no_thread threads command) (is_misplaced (commands_of before) command)
      (breaks_hold (commands_of before) command) (breaks_log (commands_of before) command) (waits_for_itself (commands_of before) command)
      (faults.Function number) (faults.Thread number) (faults.Go number) (faults.Hold number) (faults.Log number) (faults.SelfWait number)
      (before ++ (number, command) ∷ []) h.function h.thread h.place h.hold h.log h.wait

  module _ (texts : WrittenTextsRead) (numbers : WrittenNumbersRead) where
    two_said : (command : ℕ → ℕ → PatchCommand) (n m : ℕ) → (n ≤ 4294967295) × (m ≤ 4294967295) → on_two command (decimal n) (decimal m) ≡ Some (command n m)
    two_said command n m h = rw (numbers.short n h.0, numbers.short m h.1) refl

    command_said : (command : PatchCommand) → HasWords command → command_of (command_words command) ≡ Some command
    command_said commands.Patch h = refl
    command_said commands.Unpatch h = refl
    command_said (commands.PatchFunction id) h = ap (option_map commands.PatchFunction) (numbers.short id h)
    command_said (commands.UnpatchFunction id) h = ap (option_map commands.UnpatchFunction) (numbers.short id h)
    command_said commands.SetHandler h = refl
    command_said commands.RemoveHandler h = refl
    command_said commands.SetArgHandler h = refl
    command_said commands.RemoveArgHandler h = refl
    command_said commands.Init h = refl
    command_said commands.Finalize h = refl
    command_said (commands.Hold thread passing) h = two_said commands.Hold thread passing h
    command_said commands.Go h = refl
    command_said (commands.Release thread) h = ap (option_map commands.Release) (numbers.short thread h)
    command_said (commands.Await thread count) h = two_said commands.Await thread count h

    has_words : (command : PatchCommand) → (length (command_words command) == 0) ≡ false
    has_words commands.Patch = refl
    has_words commands.Unpatch = refl
    has_words (commands.PatchFunction id) = refl
    has_words (commands.UnpatchFunction id) = refl
    has_words commands.SetHandler = refl
    has_words commands.RemoveHandler = refl
    has_words commands.SetArgHandler = refl
    has_words commands.RemoveArgHandler = refl
    has_words commands.Init = refl
    has_words commands.Finalize = refl
    has_words (commands.Hold thread passing) = refl
    has_words commands.Go = refl
    has_words (commands.Release thread) = refl
    has_words (commands.Await thread count) = refl

    line_read : (before : Lines) (number : ℕ) (command : PatchCommand) → HasWords command → length before < 1024
        → IsAdmitted program threads (commands_of before) command
        → with_line program threads before (number, written_line (command_words command)) ≡ Ok (before ++ (number, command) ∷ [])
    line_read before number command h room admitted =
        let line = written_line (command_words command) in
        let written = command_written numbers command h in
        let words : words_of line ≡ command_words command = texts.words (command_words command) written in
        let some : (length (words_of line) == 0) ≡ false = ap (λ ws. length ws == 0) words ∙ has_words command in
        let few : nat_le 1024 (length before) ≡ false = lt-leb 1024 (length before) (omega (arith, room)) in
        let said : command_in line ≡ Some command =
        ap (λ t. cond t (command_of (words_of line)) None) (texts.clean (command_words command) written) ∙ ap command_of words ∙ command_said command h in
        ap (λ t. cond t (Ok before) (cond (nat_le 1024 (length before)) (Err (faults.Limit number)) (spoken program threads before number (command_in line)))) some
        ∙ ap (λ t. cond t (Err (faults.Limit number)) (spoken program threads before number (command_in line))) few
        ∙ ap (spoken program threads before number) said ∙ judged_admits before number command admitted

    -- ---- all lines

    abbrev written_after : ℕ → List PatchCommand → List (ℕ × List ℕ)
    written_after n script = enumerate_from n (map written_line (map command_words script))

    -- each command may follow those before it
    abbrev EachMayFollow : List PatchCommand → Type 0
    EachMayFollow script = (front : List PatchCommand) (command : PatchCommand) (following : List PatchCommand) → script ≡ front ++ command ∷ following
        → IsAdmitted program threads front command × HasWords command × (length front < 1024)

    lines_read : (script front following : List PatchCommand) → EachMayFollow script → script ≡ front ++ following
        → read_lines program threads (enumerate_from 1 front) (written_after (1 + length front) following) ≡ Ok (enumerate_from 1 script)
    lines_read script front [] each is = ap (λ cs. Ok (enumerate_from 1 cs)) (sym (is ∙ append-nil front))
    lines_read script front (command ∷ following) each is =
        let here = each front command following is in
        let before = enumerate_from 1 front in
        let admitted : IsAdmitted program threads (commands_of before) command =
        subst (λ (cs : List PatchCommand). IsAdmitted program threads cs command) (sym (numbered_commands 1 front)) here.0 in
        let one = line_read before (1 + length front) command here.1 (omega (arith, here.2, length-enumerate_from 1 front)) admitted in
        let left = written_after (1 + length front + 1) following in
        ap (λ r. r >>= λ ls. read_lines program threads ls left) one
        ∙ ap (λ ls. read_lines program threads ls left) (numbered_more 1 front command)
        ∙ ap (λ n. read_lines program threads (enumerate_from 1 (front ++ command ∷ [])) (written_after n following))
        (let e : 1 + length front + 1 ≡ 1 + length (front ++ command ∷ []) = omega (arith, length-append front (command ∷ [])) in e)
        ∙ lines_read script (front ++ command ∷ []) following each (is ∙ sym (append_assoc front (command ∷ []) following))

    may_follow : (script : List PatchCommand) → All HasWords script → IsOrderly (written_plan program threads script) → EachMayFollow script
    may_follow script words orderly front command following is =
        let at : slice_get script (length front) ≡ Some command =
        ap (λ (cs : List PatchCommand). slice_get cs (length front)) is
        ∙ ap (slice_get (front ++ command ∷ following)) (let e : length front ≡ length front + 0 = omega arith in e)
        ∙ slice_get-append_right front (command ∷ following) 0 in
        let taken : take (length front) (commands_of (enumerate_from 1 script)) ≡ front =
        ap (take (length front)) (numbered_commands 1 script ∙ is) ∙ take-append_seam front (command ∷ following) in
        let count : length script ≡ length front + suc (length following) = ap length is ∙ length-append front (command ∷ following) in
        let fits : HasWords command = at_seam front words is in (
          subst (λ (cs : List PatchCommand). IsAdmitted program threads cs command) taken
              (orderly.admitted (length front) (1 + length front, command) (slice_get-numbered 1 (length front) script command at)),
          fits,
          omega (arith, count, orderly.few, length-enumerate_from 1 script),
        )
      where
        at_seam : (front : List PatchCommand) → All HasWords script → script ≡ front ++ command ∷ following → HasWords command
        at_seam front words is = seam front (subst (All HasWords) is words)
          where
            seam : (front : List PatchCommand) → All HasWords (front ++ command ∷ following) → HasWords command
            seam [] h = h 0 command (omega arith)
            seam (first ∷ front) h = seam front (λ k d lt. h (suc k) d (omega (arith, lt)))

    end_read : (number : ℕ) (said : Lines) → has_go (commands_of said) ≡ true → list_any (holds_for_good (commands_of said)) (commands_of said) ≡ false
        → ended number said ≡ Ok said
    end_read number said goes released = rw (goes, released) refl

pub script_read : WrittenTextsRead → WrittenNumbersRead → WrittenScriptsRead
script_read texts numbers program threads script words orderly =
    let said = enumerate_from 1 script in
    let text = script_text script in
    let cut : lines text ≡ map written_line (map command_words script) = texts.lines (map command_words script) (script_written numbers script words) in
    let read : read_lines program threads [] (enumerate_from 1 (lines text)) ≡ Ok said =
    ap (λ ls. read_lines program threads [] (enumerate_from 1 ls)) cut
    ∙ lines_read program threads texts numbers script [] script (may_follow program threads texts numbers script words orderly) refl in
    ap (λ r. r >>= (λ ls. ended (length (lines text) + 1) ls) >>= λ ls. Ok (record { program = program; threads = threads; lines = ls })) read
    ∙ ap (λ r. r >>= λ ls. Ok (record { program = program; threads = threads; lines = ls })) (end_read program threads texts numbers (length (lines text) + 1) said orderly.goes orderly.released)
