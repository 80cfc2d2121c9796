-- Micro steps by their commands.
use Rattle.std.proofs.Common.{◌≡◌, ℕ, ◌+◌, ◌≤◌, zero, suc, List, [], ◌∷◌, ◌++◌, ◌||◌, Bool, true, false, cond, not, length, take, drop, Some, None, refl, sym, ap, subst, ◌∙◌, inl, inr, arith, append_assoc}
use Rattle.std.specs.Prelude.{slice_get, take_while, find, option_map}
use Rattle.std.specs.Option.{option_or}
use Rattle.std.proofs.lemmas.Bool.{cases_Bool}
use Rattle.std.proofs.lemmas.List.{append-nil, length-append, length-map}
use Rattle.std.proofs.lemmas.List.Sums.{take_while-cons}
use Rattle.std.proofs.lemmas.Option.{slice_get_within}
use Rattle.xray_image.specs.Program.{Program}
use Rattle.patch_script.specs.declared.command.PatchCommand.{PatchCommand}
use Rattle.patch_script.specs.declared.command.PatchCommand.TheVariants as commands
use Rattle.patch_script.specs.declared.micro.Micro.{Micro}
use Rattle.patch_script.specs.Micros.{Numbered, all_sleds, sleds_of, patches, numbers, patch_sled, unpatch_sled, steps_of, micros_after, micros, total_of, start_of, is_go}
use Rattle.patch_script.specs.Plans.{is_waiting, waiting_line}
use Rattle.patch_script.specs.private.Placing.{patched_by, step_count}
use Rattle.patch_script.specs.Refusals.{Lines, has_go}
use Rattle.patch_script.specs.private.Sleds.{sleds_named}
use Rattle.patch_script.proofs.Lists.{four_each, split_at, slice_get-append_left, slice_get-append_right}

pub micros_after-append : (program : Program) (threads : ℕ) (earlier : List ℕ) (xs ys : List PatchCommand)
    → micros_after program threads earlier (xs ++ ys) ≡ micros_after program threads earlier xs ++ micros_after program threads (earlier ++ patched_by program xs) ys
micros_after-append program threads earlier [] ys = ap (λ e. micros_after program threads e ys) (sym (append-nil earlier))
micros_after-append program threads earlier (x ∷ xs) ys =
    let here = steps_of program threads earlier x in
    let more = earlier ++ numbers (patches program x) in
    ap (λ steps. here ++ steps) (micros_after-append program threads more xs ys)
    ∙ sym (append_assoc here (micros_after program threads more xs) (micros_after program threads (more ++ patched_by program xs) ys))
    ∙ ap (λ e. (here ++ micros_after program threads more xs) ++ micros_after program threads e ys) (append_assoc earlier (numbers (patches program x)) (patched_by program xs))

fours : (program : Program) (s : Numbered) → length (patch_sled program s) ≡ 4
fours program s = refl

-- ---- how many

pub length-steps : (program : Program) (threads : ℕ) (earlier : List ℕ) (command : PatchCommand) → length (steps_of program threads earlier command) ≡ step_count command (length (sleds_named program command))
length-steps program threads earlier commands.Patch = four_each (patch_sled program) (all_sleds program) (fours program)
length-steps program threads earlier commands.Unpatch = length-map (all_sleds program) (unpatch_sled earlier)
length-steps program threads earlier (commands.PatchFunction id) = four_each (patch_sled program) (sleds_of program id) (fours program)
length-steps program threads earlier (commands.UnpatchFunction id) = length-map (sleds_of program id) (unpatch_sled earlier)
length-steps program threads earlier command = refl

pub total_more : (program : Program) (threads : ℕ) (script : List PatchCommand) (command : PatchCommand)
    → total_of program threads (script ++ command ∷ []) ≡ total_of program threads script + step_count command (length (sleds_named program command))
total_more program threads script command =
    ap length (micros_after-append program threads [] script (command ∷ []))
    ∙ length-append (micros program threads script) (steps_of program threads (patched_by program script) command ++ [])
    ∙ ap (λ steps. total_of program threads script + length steps) (append-nil (steps_of program threads (patched_by program script) command))
    ∙ ap (λ n. total_of program threads script + n) (length-steps program threads (patched_by program script) command)

pub total_grows : (program : Program) (threads : ℕ) (xs ys : List PatchCommand) → total_of program threads xs ≤ total_of program threads (xs ++ ys)
total_grows program threads xs ys =
    omega (arith, ap length (micros_after-append program threads [] xs ys), length-append (micros program threads xs) (micros_after program threads (patched_by program xs) ys))

take_front : (xs : List PatchCommand) (i j : ℕ) → i ≤ j → (m : List PatchCommand) × (take j xs ≡ take i xs ++ m)
take_front xs zero j le = (take j xs, refl)
take_front xs (suc i) zero le = absurd (omega arith)
take_front [] (suc i) (suc j) le = ([], refl)
take_front (x ∷ xs) (suc i) (suc j) le = let rest = take_front xs i j (omega arith) in (rest.0, ap (λ t. x ∷ t) rest.1)

pub total_in_order : (program : Program) (threads : ℕ) (script : List PatchCommand) (i j : ℕ) → i ≤ j → total_of program threads (take i script) ≤ total_of program threads (take j script)
total_in_order program threads script i j le =
    let more = take_front script i j le in
    omega (arith, ap (total_of program threads) more.1, total_grows program threads (take i script) more.0)

-- ---- a step of a command

pub step_at : (program : Program) (threads : ℕ) (script : List PatchCommand) (i : ℕ) (command : PatchCommand) (n : ℕ) (micro : Micro) → slice_get script i ≡ Some command
    → slice_get (steps_of program threads (patched_by program (take i script)) command) n ≡ Some micro → slice_get (micros program threads script) (total_of program threads (take i script) + n) ≡ Some micro
step_at program threads script i command n micro at step =
    let front = take i script in
    let here = steps_of program threads (patched_by program front) command in
    let following = micros_after program threads (patched_by program front ++ numbers (patches program command)) (drop (suc i) script) in
    let whole : micros program threads script ≡ micros program threads front ++ (here ++ following) =
    ap (micros program threads) (split_at script i command at) ∙ micros_after-append program threads [] front (command ∷ drop (suc i) script) in
    ap (λ steps. slice_get steps (total_of program threads front + n)) whole
    ∙ slice_get-append_right (micros program threads front) (here ++ following) n
    ∙ slice_get-append_left here following n (slice_get_within here n micro step)
    ∙ step

-- ---- before go

abbrev pub stays : PatchCommand → Bool
stays command = not (is_go command)

pub front-cons : (x : PatchCommand) (xs : List PatchCommand) → take_while stays (x ∷ xs) ≡ cond (not (is_go x)) (x ∷ take_while stays xs) []
front-cons x xs = take_while-cons stays x xs

started : (xs ys : List PatchCommand) → has_go xs ≡ true → take_while stays (xs ++ ys) ≡ take_while stays xs
started [] ys go = absurd cc
started (x ∷ xs) ys go = elim (cases_Bool (is_go x)) [
  | inl so ↦
      front-cons x (xs ++ ys) ∙ ap (λ b. cond (not b) (x ∷ take_while stays (xs ++ ys)) []) so
      ∙ sym (front-cons x xs ∙ ap (λ b. cond (not b) (x ∷ take_while stays xs) []) so)
  | inr isnt ↦
      front-cons x (xs ++ ys) ∙ ap (λ t. cond (not (is_go x)) (x ∷ t) []) (started xs ys (sym (ap (λ b. b || has_go xs) isnt) ∙ go))
      ∙ sym (front-cons x xs)
]

or_parts : (a b : Bool) → (a || b) ≡ false → (a ≡ false) × (b ≡ false)
or_parts true b h = cc
or_parts false b h = (refl, h)

not_started : (xs ys : List PatchCommand) → has_go xs ≡ false → take_while stays (xs ++ ys) ≡ xs ++ take_while stays ys
not_started [] ys none = refl
not_started (x ∷ xs) ys none =
    let parts = or_parts (is_go x) (has_go xs) none in
    front-cons x (xs ++ ys)
    ∙ ap (λ b. cond (not b) (x ∷ take_while stays (xs ++ ys)) []) parts.0 ∙ ap (λ t. x ∷ t) (not_started xs ys parts.1)

alone : (program : Program) (threads : ℕ) (script : List PatchCommand) (command : PatchCommand)
    → total_of program threads (script ++ cond (not (is_go command)) (command ∷ []) []) ≡ total_of program threads (script ++ command ∷ [])
alone program threads script commands.Go = ap (total_of program threads) (append-nil script) ∙ sym (total_more program threads script commands.Go ∙ omega arith)
alone program threads script command = refl

pub start_more : (program : Program) (threads : ℕ) (script : List PatchCommand) (command : PatchCommand)
    → start_of program threads (script ++ command ∷ []) ≡ cond (has_go script) (start_of program threads script) (total_of program threads (script ++ command ∷ []))
start_more program threads script command = elim (cases_Bool (has_go script)) [
  | inl so ↦
      ap (total_of program threads) (started script (command ∷ []) so)
      ∙ sym (ap (λ b. cond b (start_of program threads script) (total_of program threads (script ++ command ∷ []))) so)
  | inr isnt ↦
      ap (total_of program threads) (not_started script (command ∷ []) isnt ∙ ap (λ t. script ++ t) (front-cons command [])) ∙ alone program threads script command
      ∙ sym (ap (λ b. cond b (start_of program threads script) (total_of program threads (script ++ command ∷ []))) isnt)
]

pub whole_front : (xs : List PatchCommand) → (m : List PatchCommand) × (xs ≡ take_while stays xs ++ m)
whole_front [] = ([], refl)
whole_front (x ∷ xs) =
    let rest = whole_front xs in
    subst (λ (t : List PatchCommand). (m : List PatchCommand) × (x ∷ xs ≡ t ++ m)) (sym (front-cons x xs))
    (elim (is_go x) as (λ b. (m : List PatchCommand) × (x ∷ xs ≡ cond (not b) (x ∷ take_while stays xs) [] ++ m)) [
      | true ↦ (x ∷ xs, refl)
      | false ↦ (rest.0, ap (λ t. x ∷ t) rest.1)
    ])

pub start_within : (program : Program) (threads : ℕ) (script : List PatchCommand) → start_of program threads script ≤ total_of program threads script
start_within program threads script =
    let more = whole_front script in
    omega (arith, ap (total_of program threads) more.1, total_grows program threads (take_while stays script) more.0)

-- ---- the first line at which a thread or the patcher may wait

pub waiting_more : (lines : Lines) (line : ℕ) (command : PatchCommand)
    → waiting_line (lines ++ (line, command) ∷ []) ≡ option_or (waiting_line lines) (cond (is_waiting command) (Some line) None)
waiting_more [] line command =
    elim (is_waiting command) as (λ b. option_map (λ (l : ℕ × PatchCommand). l.0) (cond b (Some (line, command)) None) ≡ option_or None (cond b (Some line) None)) [ true ↦ refl | false ↦ refl ]
waiting_more (l ∷ ls) line command =
    elim (is_waiting l.1) as (λ b. option_map (λ (l : ℕ × PatchCommand). l.0) (cond b (Some l) (find (λ l. is_waiting l.1) (ls ++ (line, command) ∷ [])))
    ≡ option_or (option_map (λ (l : ℕ × PatchCommand). l.0) (cond b (Some l) (find (λ l. is_waiting l.1) ls))) (cond (is_waiting command) (Some line) None)) [
      | true ↦ refl
      | false ↦ waiting_more ls line command
    ]
