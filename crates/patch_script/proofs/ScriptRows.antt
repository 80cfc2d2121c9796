-- The rows of a text that is a script.
use Rattle.std.proofs.Common.{◌≡◌, ℕ, ◌+◌, ◌<◌, ◌≤◌, List, [], ◌∷◌, ◌++◌, Bool, true, false, cond, not, length, take, Option, Some, None, refl, sym, ap, subst, ◌∙◌, ◌⊎◌, inl, inr, arith, ◌==◌}
use Rattle.std.specs.Prelude.{Result, Ok, Err, slice_get, nat_le}
use Rattle.std.specs.List.{list_any}
use Rattle.std.specs.Str.Lines.{lines}
use Rattle.std.proofs.lemmas.Bool.{cases_lt, leb-false}
use Rattle.std.proofs.lemmas.List.{map-append, length-append, length-map, take-append-le}
use Rattle.std.proofs.lemmas.Option.{none-some, same_Some, slice_get_within}
use Rattle.xray_io.specs.Rows.{◌>>=◌}
use Rattle.text_lines.specs.Lines.{numbered_lines}
use Rattle.text_lines.specs.Words.{words_of}
use Rattle.xray_image.specs.Program.{Program}
use Rattle.patch_script.specs.declared.command.PatchCommand.{PatchCommand}
use Rattle.patch_script.specs.declared.fault.ScriptFault.{ScriptFault}
use Rattle.patch_script.specs.declared.fault.ScriptFault.TheVariants as faults
use Rattle.patch_script.specs.Plans.{Plan, plan_of, IsOrderly}
use Rattle.patch_script.specs.Refusals.{Lines, commands_of, has_go, holds_for_good, names_no_function, names_no_thread, is_misplaced, breaks_hold, breaks_log, waits_for_itself, IsAdmitted, judged, spoken, command_in, with_line, read_lines, ended}
use Rattle.patch_script.proofs.Lists.{slice_get-append_left, slice_get-append_right}
use Rattle.patch_script.proofs.Places.{take_all}

same_Ok : {A : Type 0} (x y : A) → ◌≡◌ {A = Result A ScriptFault} (Ok x) (Ok y) → x ≡ y
same_Ok x y e = cc

bind_ok : {A B : Type 0} (r : Result A ScriptFault) (f : A → Result B ScriptFault) (y : B) → (r >>= f) ≡ Ok y → (x : A) × (r ≡ Ok x) × (f x ≡ Ok y)
bind_ok (Ok x) f y e = (x, refl, e)
bind_ok (Err fault) f y e = absurd cc

-- ---- one line

six : {A : Type 0} (a b c d e f : Bool) (p q r s t u : ScriptFault) (y x : A)
    → ◌≡◌ {A = Result A ScriptFault} (cond a (Err p) (cond b (Err q) (cond c (Err r) (cond d (Err s) (cond e (Err t) (cond f (Err u) (Ok y))))))) (Ok x)
    → (a ≡ false) × (b ≡ false) × (c ≡ false) × (d ≡ false) × (e ≡ false) × (f ≡ false) × (y ≡ x)
six true b c d e f p q r s t u y x is = absurd cc
six false true c d e f p q r s t u y x is = absurd cc
six false false true d e f p q r s t u y x is = absurd cc
six false false false true e f p q r s t u y x is = absurd cc
six false false false false true f p q r s t u y x is = absurd cc
six false false false false false true p q r s t u y x is = absurd cc
six false false false false false false p q r s t u y x is = (refl, refl, refl, refl, refl, refl, same_Ok y x is)

module _ (program : Program) (threads : ℕ) where
  -- a line adds nothing, or a command that no row refuses
  record Adds (before : Lines) (number : ℕ) (x : Lines) (command : PatchCommand) : Type 0 where
    lines : before ++ (number, command) ∷ [] ≡ x
    admitted : IsAdmitted program threads (commands_of before) command
    room : length before < 1024

  judged_ok : (before : Lines) (number : ℕ) (command : PatchCommand) (x : Lines) → length before < 1024 → judged program threads before number command ≡ Ok x → Adds before number x command
  judged_ok before number command x room is =
      let all = six (names_no_function program command) (names_no_thread threads command) (is_misplaced (commands_of before) command)
      (breaks_hold (commands_of before) command) (breaks_log (commands_of before) command) (waits_for_itself (commands_of before) command)
      (faults.Function number) (faults.Thread number) (faults.Go number) (faults.Hold number) (faults.Log number) (faults.SelfWait number)
      (before ++ (number, command) ∷ []) x is in
      record {
        lines = all.6;
        admitted = record { function = all.0; thread = all.1; place = all.2; hold = all.3; log = all.4; wait = all.5 };
        room = room;
      }

  chosen : (before : Lines) (number : ℕ) (x : Lines) (blank full : Bool) (said : Option PatchCommand) → full ≡ nat_le 1024 (length before)
      → cond blank (Ok before) (cond full (Err (faults.Limit number)) (spoken program threads before number said)) ≡ Ok x
      → (before ≡ x) ⊎ ((command : PatchCommand) × Adds before number x command)
  chosen before number x true full said is e = inl (same_Ok before x e)
  chosen before number x false true said is e = absurd cc
  chosen before number x false false None is e = absurd cc
  chosen before number x false false (Some command) is e =
      inr (command, judged_ok before number command x (let more = leb-false 1024 (length before) (sym is) in omega arith) e)

  line_ok : (before : Lines) (line : ℕ × List ℕ) (x : Lines) → with_line program threads before line ≡ Ok x
      → (before ≡ x) ⊎ ((command : PatchCommand) × Adds before line.0 x command)
  line_ok before (number, bytes) x e = chosen before number x (length (words_of bytes) == 0) (nat_le 1024 (length before)) (command_in bytes) refl e

  -- ---- all lines

  abbrev AllAdmitted : Lines → Type 0
  AllAdmitted all = (i : ℕ) (line : ℕ × PatchCommand) → slice_get all i ≡ Some line → IsAdmitted program threads (take i (commands_of all)) line.1

  admitted_more : (before : Lines) (number : ℕ) (command : PatchCommand) → AllAdmitted before → IsAdmitted program threads (commands_of before) command
      → AllAdmitted (before ++ (number, command) ∷ [])
  admitted_more before number command all last i line at =
      let script : commands_of (before ++ (number, command) ∷ []) ≡ commands_of before ++ command ∷ [] = map-append (λ (l : ℕ × PatchCommand). l.1) before ((number, command) ∷ []) in
      let count : length (commands_of before) ≡ length before = length-map before (λ l. l.1) in
      elim (cases_lt i (length before)) [
        | inl lt ↦
            let same : take i (commands_of (before ++ (number, command) ∷ [])) ≡ take i (commands_of before) =
            ap (take i) script ∙ take-append-le i (commands_of before) (command ∷ []) (omega (arith, count)) in
            subst (λ (front : List PatchCommand). IsAdmitted program threads front line.1) (sym same)
            (all i line (sym (slice_get-append_left before ((number, command) ∷ []) i lt) ∙ at))
        | inr le ↦
            let within = slice_get_within (before ++ (number, command) ∷ []) i line at in
            let here : i ≡ length before + 0 = omega (arith, within, length-append before ((number, command) ∷ [])) in
            let is : (number, command) ≡ line = same_Some (number, command) line (sym (ap (slice_get (before ++ (number, command) ∷ [])) here ∙ slice_get-append_right before ((number, command) ∷ []) 0) ∙ at) in
            let same : take i (commands_of (before ++ (number, command) ∷ [])) ≡ commands_of before =
            ap (take i) script ∙ take-append-le i (commands_of before) (command ∷ []) (omega (arith, count, here)) ∙ take_all i (commands_of before) (omega (arith, count)) in
            subst (λ (front : List PatchCommand). IsAdmitted program threads front line.1) (sym same)
            (subst (λ (l : ℕ × PatchCommand). IsAdmitted program threads (commands_of before) l.1) is last)
      ]

  read_admitted : (before : Lines) (following : List (ℕ × List ℕ)) (all : Lines) → AllAdmitted before → length before ≤ 1024
      → read_lines program threads before following ≡ Ok all → AllAdmitted all × (length all ≤ 1024)
  read_admitted before [] all admitted few e =
      let same = same_Ok before all e in (subst AllAdmitted same admitted, subst (λ (ls : Lines). length ls ≤ 1024) same few)
  read_admitted before (line ∷ following) all admitted few e =
      let parts = bind_ok (with_line program threads before line) (λ ls. read_lines program threads ls following) all e in
      elim (line_ok before line parts.0 parts.1) [
        | inl same ↦ read_admitted parts.0 following all (subst AllAdmitted same admitted) (subst (λ (ls : Lines). length ls ≤ 1024) same few) parts.2
        | inr adds ↦
            read_admitted parts.0 following all
            (subst AllAdmitted adds.1.lines (admitted_more before line.0 adds.0 admitted adds.1.admitted))
            (omega (arith, ap length adds.1.lines, length-append before ((line.0, adds.0) ∷ []), adds.1.room))
            parts.2
      ]

  -- ---- the end

  ended_ok : (number : ℕ) (said x : Lines) → ended number said ≡ Ok x
      → (has_go (commands_of said) ≡ true) × (list_any (holds_for_good (commands_of said)) (commands_of said) ≡ false) × (said ≡ x)
  ended_ok number said x e = picked (has_go (commands_of said)) (list_any (holds_for_good (commands_of said)) (commands_of said)) e
    where
      picked : (going held : Bool) → cond (not going) (Err (faults.Go number)) (cond held (Err (faults.Hold number)) (Ok said)) ≡ Ok x → (going ≡ true) × (held ≡ false) × (said ≡ x)
      picked true true is = absurd cc
      picked true false is = (refl, refl, same_Ok said x is)
      picked false held is = absurd cc

-- the script of a text is in order
pub orderly : (program : Program) (threads : ℕ) (text : List ℕ) (plan : Plan) → plan_of program threads text ≡ Ok plan → IsOrderly plan
orderly program threads text plan e =
    let number = length (lines text) + 1 in
    let whole = bind_ok (read_lines program threads [] (numbered_lines text) >>= (λ said. ended number said)) (λ said. Ok (record { program = program; threads = threads; lines = said })) plan e in
    let parts = bind_ok (read_lines program threads [] (numbered_lines text)) (λ said. ended number said) whole.0 whole.1 in
    let read = read_admitted program threads [] (numbered_lines text) parts.0 (λ i line at. absurd (none-some line at)) (omega arith) parts.1 in
    let end = ended_ok program threads number parts.0 whole.0 parts.2 in
    let of_lines : IsOrderly (record { program = program; threads = threads; lines = parts.0 }) = record { admitted = read.0; goes = end.0; released = end.1; few = read.1 } in
    let made : Plan = record { program = program; threads = threads; lines = whole.0 } in
    subst IsOrderly (same_Ok made plan whole.2) (subst (λ (ls : Lines). IsOrderly (record { program = program; threads = threads; lines = ls })) end.2 of_lines)

-- it is the plan that is made of these lines
made_of : (program : Program) (threads : ℕ) (text : List ℕ) (plan : Plan) → plan_of program threads text ≡ Ok plan
    → (all : Lines) × (plan ≡ record { program = program; threads = threads; lines = all })
made_of program threads text plan e =
    let number = length (lines text) + 1 in
    let whole = bind_ok (read_lines program threads [] (numbered_lines text) >>= (λ said. ended number said)) (λ said. Ok (record { program = program; threads = threads; lines = said })) plan e in
    let made : Plan = record { program = program; threads = threads; lines = whole.0 } in
    (whole.0, sym (same_Ok made plan whole.2))

-- it is a script for this program and this many threads
pub said_for : (program : Program) (threads : ℕ) (text : List ℕ) (plan : Plan) → plan_of program threads text ≡ Ok plan → plan.program ≡ program
said_for program threads text plan e = ap (λ (p : Plan). p.program) (made_of program threads text plan e).1

pub threads_for : (program : Program) (threads : ℕ) (text : List ℕ) (plan : Plan) → plan_of program threads text ≡ Ok plan → plan.threads ≡ threads
threads_for program threads text plan e = ap (λ (p : Plan). p.threads) (made_of program threads text plan e).1
