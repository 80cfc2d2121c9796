-- How many micro steps a script has that was read.
use Rattle.std.proofs.Common.{◌≡◌, inl, inr, ℕ, zero, suc, ◌+◌, ◌*◌, ◌≤◌, ◌∙◌, Bool, true, false, cond, List, [], ◌∷◌, ◌++◌, Option, Some, None, Ok, refl, sym, ap, subst, arith, length, length-append}
use Rattle.std.specs.Prelude.{◌==◌, drop, nat_lt, not, option_and_then, option_map, take}
use Rattle.std.specs.List.{enumerate_from, flat_map, zip}
use Rattle.std.specs.Str.Lines.{lines}
use Rattle.std.proofs.Math.Nat.{min-le_right}
use Rattle.std.proofs.lemmas.List.{length-map}
use Rattle.std.proofs.lemmas.List.FromFn.{length-enumerate_from}
use Rattle.std.proofs.lemmas.List.Sums.{count_by-le-length, length-filter}
use Rattle.std.proofs.lemmas.Slice.Zip.{length-zip}
use Rattle.text_lines.specs.Lines.{numbered_lines}
use Rattle.xray_io.specs.Rows.{◌>>=◌}
use Rattle.xray_image.specs.Container.{Function, MapFields, Parts, base_address, code_length, entries_from, entry_count, function_count, function_entry_at, map_distance, map_fields_at, parts_of, several}
use Rattle.xray_image.specs.Program.{IsAccepted, Program, sled_of}
use Rattle.xray_image.specs.Units.{places_from}
use Rattle.patch_script.specs.declared.command.PatchCommand.{PatchCommand}
use Rattle.patch_script.specs.declared.command.PatchCommand.TheVariants as commands
use Rattle.patch_script.specs.Micros.{Numbered, all_sleds, micros_after, numbers, patch_sled, patches, sleds_of, steps_of, total_of, unpatch_sled}
use Rattle.patch_script.specs.Plans.{Plan, is_waiting, plan_of}
use Rattle.patch_script.specs.Refusals.{Lines, commands_of, ended, read_lines, with_line}
use Rattle.run_order.specs.FreeScripts.{free_commands}
use Rattle.run_order.proofs.FreeReading.{bind_ok, ended_ok, line_says, same_Ok}

-- ---- commands

-- a script that is read has at most 1,024 commands
few_read : (program : Program) (threads : ℕ) (texts : List (List ℕ)) (number : ℕ) (before said : Lines) → length before ≤ 1024
    → read_lines program threads before (enumerate_from number texts) ≡ Ok said → length said ≤ 1024
few_read program threads [] number before said few e =
    let same : before ≡ said = same_Ok before said e in
    omega (arith, few, ap length same)
few_read program threads (line ∷ texts) number before said few e =
    let parts = bind_ok (with_line program threads before (number, line)) (λ ls. read_lines program threads ls (enumerate_from (number + 1) texts)) said e in
    elim (line_says program threads before number line parts.0 parts.1) [
      | inl blank ↦
          let same = ap length blank.1 in
          few_read program threads texts (number + 1) parts.0 said (omega (arith, few, same)) parts.2
      | inr says ↦
          let more = ap length says.1.adds in
          few_read program threads texts (number + 1) parts.0 said (omega (arith, says.1.room, more, length-append before ((number, says.0) ∷ []))) parts.2
    ]

few_commands : (program : Program) (threads : ℕ) (text : List ℕ) (plan : Plan) → plan_of program threads text ≡ Ok plan
    → length (commands_of plan.lines) ≤ 1024
few_commands program threads text plan e =
    let number = length (lines text) + 1 in
    let whole = bind_ok (read_lines program threads [] (numbered_lines text) >>= (λ said. ended number said)) (λ said. Ok (record { program = program; threads = threads; lines = said })) plan e in
    let parts = bind_ok (read_lines program threads [] (numbered_lines text)) (λ said. ended number said) whole.0 whole.1 in
    let end = ended_ok number parts.0 whole.0 parts.2 in
    let made : Plan = record { program = program; threads = threads; lines = whole.0 } in
    let same : made ≡ plan = same_Ok made plan whole.2 in
    let lines_are : parts.0 ≡ plan.lines = end.1 ∙ ap (λ (p : Plan). p.lines) same in
    let few = few_read program threads (lines text) 1 [] parts.0 (omega arith) parts.1 in
    omega (arith, few, ap length lines_are, length-map plan.lines (λ (line : ℕ × PatchCommand). line.1))

-- ---- sleds

several_count : {X : Type 0} (item : List ℕ → Option (X × List ℕ)) (n : ℕ) (bytes : List ℕ) (found : List X × List ℕ)
    → several item n bytes ≡ Some found → length found.0 ≡ n
several_count {X} item zero bytes found e =
    let none : List X × List ℕ = ([], bytes) in
    let same : none ≡ found = cc in
    ap (λ (f : List X × List ℕ). length f.0) (sym same)
several_count {X} item (suc n) bytes found e = by_first (λ later others is. several_count item n later others is) (item bytes) e
  where
    by_others : ((later : List ℕ) (rest : List X × List ℕ) → several item n later ≡ Some rest → length rest.0 ≡ n)
        → (first : X × List ℕ) (others : Option (List X × List ℕ)) → several item n first.1 ≡ others
        → option_map (λ (o : List X × List ℕ). let p : List X × List ℕ = (first.0 ∷ o.0, o.1) in p) others ≡ Some found → length found.0 ≡ suc n
    by_others again first None is e = absurd cc
    by_others again first (Some others) is e =
        let made : List X × List ℕ = (first.0 ∷ others.0, others.1) in
        let same : made ≡ found = cc in
        let count = again first.1 others is in
        ap (λ (f : List X × List ℕ). length f.0) (sym same) ∙ ap suc count

    by_first : ((later : List ℕ) (rest : List X × List ℕ) → several item n later ≡ Some rest → length rest.0 ≡ n)
        → (first : Option (X × List ℕ))
        → option_and_then (λ (f : X × List ℕ). option_map (λ (o : List X × List ℕ). let p : List X × List ℕ = (f.0 ∷ o.0, o.1) in p) (several item n f.1)) first ≡ Some found
        → length found.0 ≡ suc n
    by_first again None e = absurd cc
    by_first again (Some first) e = by_others again first (several item n first.1) refl e

entries_count : (at : ℕ) (fields : List MapFields) → length (entries_from at fields) ≡ length fields
entries_count at [] = refl
entries_count at (one ∷ others) = ap suc (entries_count (at + 32) others)

-- a file has as many entries as its header says
few_entries : (bytes : List ℕ) (parts : Parts) → parts_of bytes ≡ Some parts → length parts.entries ≡ entry_count bytes
few_entries bytes parts e = by_size (nat_lt (length bytes) (64 + code_length bytes)) e
  where
    made : List Function × List ℕ → List MapFields × List ℕ → Parts
    made functions entries = record {
      code = take (code_length bytes) (drop 64 bytes);
      functions = functions.0;
      entries = entries_from (base_address bytes + map_distance) entries.0;
      rest = entries.1;
    }

    by_entries : (functions : List Function × List ℕ) (entries : Option (List MapFields × List ℕ))
        → several map_fields_at (entry_count bytes) functions.1 ≡ entries → option_map (made functions) entries ≡ Some parts
        → length parts.entries ≡ entry_count bytes
    by_entries functions None is e = absurd cc
    by_entries functions (Some entries) is e =
        let same : made functions entries ≡ parts = cc in
        ap (λ (p : Parts). length p.entries) (sym same) ∙ entries_count (base_address bytes + map_distance) entries.0
        ∙ several_count map_fields_at (entry_count bytes) functions.1 entries is

    by_functions : (functions : Option (List Function × List ℕ))
        → option_and_then (λ (f : List Function × List ℕ). option_map (made f) (several map_fields_at (entry_count bytes) f.1)) functions ≡ Some parts
        → length parts.entries ≡ entry_count bytes
    by_functions None e = absurd cc
    by_functions (Some functions) e = by_entries functions (several map_fields_at (entry_count bytes) functions.1) refl e

    by_size : (b : Bool)
        → cond b None (option_and_then (λ (f : List Function × List ℕ). option_map (made f) (several map_fields_at (entry_count bytes) f.1))
        (several function_entry_at (function_count bytes) (drop (64 + code_length bytes) bytes))) ≡ Some parts
        → length parts.entries ≡ entry_count bytes
    by_size true e = absurd cc
    by_size false e = by_functions (several function_entry_at (function_count bytes) (drop (64 + code_length bytes) bytes)) e

few_sleds : (bytes : List ℕ) (program : Program) → IsAccepted bytes program → length program.sleds ≤ 4096
few_sleds bytes program is =
    let places = places_from (base_address bytes) is.pieces in
    let both = zip places is.parts.entries in
    let sleds : length program.sleds ≡ length both = ap (λ (p : Program). length p.sleds) is.holds ∙ length-map both (sled_of is.parts.entries) in
    let least : length both ≤ length is.parts.entries =
    subst (λ (n : ℕ). n ≤ length is.parts.entries) (sym (length-zip places is.parts.entries)) (min-le_right (length places) (length is.parts.entries)) in
    omega (arith, sleds, least, few_entries bytes is.parts is.reaches, is.header.sleds_limit)

-- ---- micro steps

patched_steps : (program : Program) (sleds : List Numbered) → length (flat_map (patch_sled program) sleds) ≡ 4 * length sleds
patched_steps program [] = refl
patched_steps program ((k, sled) ∷ sleds) =
    let one : length (flat_map (patch_sled program) ((k, sled) ∷ sleds)) ≡ suc (suc (suc (suc (length (flat_map (patch_sled program) sleds))))) = refl in
    let rest = patched_steps program sleds in
    omega (arith, one, rest)

own_sleds : (program : Program) (id : ℕ) → length (sleds_of program id) ≤ length program.sleds
own_sleds program id =
    omega (
      arith,
      length-filter (λ (s : Numbered). s.1.id == id) (all_sleds program),
      count_by-le-length (λ (s : Numbered). s.1.id == id) (all_sleds program),
      length-enumerate_from 0 program.sleds,
    )

steps_few : (program : Program) (threads : ℕ) (earlier : List ℕ) (command : PatchCommand) → length program.sleds ≤ 4096
    → length (steps_of program threads earlier command) ≤ 16384
steps_few program threads earlier commands.Patch few =
    omega (arith, patched_steps program (all_sleds program), length-enumerate_from 0 program.sleds, few)
steps_few program threads earlier commands.Unpatch few =
    omega (arith, length-map (all_sleds program) (unpatch_sled earlier), length-enumerate_from 0 program.sleds, few)
steps_few program threads earlier (commands.PatchFunction id) few =
    omega (arith, patched_steps program (sleds_of program id), own_sleds program id, few)
steps_few program threads earlier (commands.UnpatchFunction id) few =
    omega (arith, length-map (sleds_of program id) (unpatch_sled earlier), own_sleds program id, few)
steps_few program threads earlier commands.SetHandler few = omega arith
steps_few program threads earlier commands.RemoveHandler few = omega arith
steps_few program threads earlier commands.SetArgHandler few = omega arith
steps_few program threads earlier commands.RemoveArgHandler few = omega arith
steps_few program threads earlier commands.Init few = omega arith
steps_few program threads earlier commands.Finalize few = omega arith
steps_few program threads earlier (commands.Hold thread passing) few = omega arith
steps_few program threads earlier commands.Go few = omega arith
steps_few program threads earlier (commands.Release thread) few = omega arith
steps_few program threads earlier (commands.Await thread count) few = omega arith

micros_few : (program : Program) (threads : ℕ) (earlier : List ℕ) (script : List PatchCommand) → length program.sleds ≤ 4096
    → length (micros_after program threads earlier script) ≤ 16384 * length script
micros_few program threads earlier [] few = omega arith
micros_few program threads earlier (command ∷ script) few =
    let own = steps_few program threads earlier command few in
    let rest = micros_few program threads (earlier ++ numbers (patches program command)) script few in
    omega (
      arith,
      own,
      rest,
      length-append (steps_of program threads earlier command) (micros_after program threads (earlier ++ numbers (patches program command)) script),
    )

-- how many micro steps a script has without its waits fits 32 bits
pub total_few : (bytes : List ℕ) (program : Program) (threads : ℕ) (text : List ℕ) (plan : Plan) → IsAccepted bytes program
    → plan_of program threads text ≡ Ok plan → total_of program threads (free_commands (commands_of plan.lines)) ≤ 4294967295
total_few bytes program threads text plan accepted e =
    let script = commands_of plan.lines in
    omega (
      arith,
      micros_few program threads [] (free_commands script) (few_sleds bytes program accepted),
      length-filter (λ c. not (is_waiting c)) script,
      count_by-le-length (λ c. not (is_waiting c)) script,
      few_commands program threads text plan e,
    )
