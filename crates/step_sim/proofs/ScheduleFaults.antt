-- The rows of a schedule decide as the list of all that is wrong with its lines does.
use Rattle.std.proofs.Common.{◌≡◌, ℕ, ◌≤◌, Bool, true, false, List, [], ◌∷◌, ◌++◌, length, Ok, Err, not, sym, ap, refl, ◌∙◌, append_assoc, append-nil}
use Rattle.std.specs.Prelude.{Result}
use Rattle.std.specs.List.{flat_map}
use Rattle.std.specs.Str.Lines.{lines}
use Rattle.std.proofs.lemmas.Bool.{le-ltb}
use Rattle.text_lines.specs.Lines.{numbered_lines}
use Rattle.text_lines.specs.Words.{is_clean, words_of}
use Rattle.xray_io.specs.Rows.{First, InTurn, ◌>>=◌}
use Rattle.step_sim.specs.declared.fault.ScheduleFault.{ScheduleFault}
use Rattle.step_sim.specs.declared.fault.ScheduleFault.TheVariants as faults
use Rattle.step_sim.specs.declared.turns.Turns.{Turns}
use Rattle.step_sim.specs.Schedules.{is_well_formed, line_rows, names_threads, said_by, schedule_of, turns_said}
use Rattle.step_sim.specs.private.Faults.{decided, line_faults, line_turns, unless}
use Rattle.step_sim.specs.private.Readings.{read_on}

pub lines_decide : (threads : ℕ) (before : List Turns) (left : List (ℕ × List ℕ)) → InTurn (λ turns line. line_rows threads turns line) before left ≡ read_on threads before left
lines_decide threads before [] = ap (λ (turns : List Turns). let all : Result (List Turns) ScheduleFault = Ok turns in all) (sym (append-nil before))
lines_decide threads before ((number, line) ∷ left) =
    by_tests (lines_decide threads (before ++ turns_said (said_by (words_of line))) left)
    (is_clean line) (is_well_formed (said_by (words_of line))) (names_threads threads (said_by (words_of line)))
  where
    by_tests : InTurn (λ turns line. line_rows threads turns line) (before ++ turns_said (said_by (words_of line))) left
        ≡ read_on threads (before ++ turns_said (said_by (words_of line))) left → (clean well named : Bool)
        → (First (not clean) (Err (faults.Syntax number)) (First (not well) (Err (faults.Syntax number)) (First (not named) (Err (faults.Thread number))
        (Ok (before ++ turns_said (said_by (words_of line)))))) >>= λ after. InTurn (λ turns line. line_rows threads turns line) after left)
        ≡ decided ((unless clean (faults.Syntax number) ++ (unless well (faults.Syntax number) ++ unless named (faults.Thread number))) ++ flat_map (line_faults threads) left)
        (before ++ (turns_said (said_by (words_of line)) ++ flat_map line_turns left))
    by_tests rest false well named = refl
    by_tests rest true false named = refl
    by_tests rest true true false = refl
    by_tests rest true true true =
        rest ∙ ap (decided (flat_map (line_faults threads) left)) (append_assoc before (turns_said (said_by (words_of line))) (flat_map line_turns left))

-- a text that has no more lines than it may have
pub schedule_begins : (threads : ℕ) (text : List ℕ) → length (lines text) ≤ 1048576 → schedule_of threads text ≡ read_on threads [] (numbered_lines text)
schedule_begins threads text few =
    ap (λ t. First t (Err faults.Limit) (InTurn (λ turns line. line_rows threads turns line) [] (numbered_lines text))) (le-ltb 1048576 (length (lines text)) few)
    ∙ lines_decide threads [] (numbered_lines text)

-- one more line, which gives turns
pub line_read : (threads : ℕ) (before : List Turns) (turns : Turns) (line : ℕ × List ℕ) (left : List (ℕ × List ℕ))
    → (let all : Result (List Turns) ScheduleFault = Ok (turns ∷ []) in all ≡ decided (line_faults threads line) (line_turns line))
    → read_on threads before (line ∷ left) ≡ read_on threads (before ++ turns ∷ []) left
line_read threads before turns line left is = more (line_faults threads line) (line_turns line) is
  where
    more : (found : List ScheduleFault) (said : List Turns) → (let all : Result (List Turns) ScheduleFault = Ok (turns ∷ []) in all ≡ decided found said)
        → decided (found ++ flat_map (line_faults threads) left) (before ++ (said ++ flat_map line_turns left))
        ≡ decided (flat_map (line_faults threads) left) ((before ++ turns ∷ []) ++ flat_map line_turns left)
    more [] said e =
        let same : turns ∷ [] ≡ said = cc in
        ap (λ (ts : List Turns). decided (flat_map (line_faults threads) left) (before ++ (ts ++ flat_map line_turns left))) (sym same)
        ∙ ap (decided (flat_map (line_faults threads) left)) (sym (append_assoc before (turns ∷ []) (flat_map line_turns left)))
    more (fault ∷ later) said e = absurd cc
