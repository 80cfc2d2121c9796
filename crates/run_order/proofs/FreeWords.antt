-- The words of lines at which a thread or the patcher may wait.
use Rattle.std.proofs.Common.{◌≡◌, ℕ, zero, suc, Bool, true, false, cond, List, [], ◌∷◌, Option, Some, None, refl, sym, ap, subst, ◌∙◌, map}
use Rattle.std.specs.Prelude.{codes, find, is_some, option_and_then, option_map, slice_get}
use Rattle.std.proofs.lemmas.Slice.Eq.{bytes_eq-Decides}
use Rattle.text_lines.specs.Keywords.{in_table, is_word}
use Rattle.text_lines.specs.Numbers.{number_of}
use Rattle.patch_script.specs.declared.command.PatchCommand.{PatchCommand}
use Rattle.patch_script.specs.declared.command.PatchCommand.TheVariants as commands
use Rattle.patch_script.specs.Language.{command_of, keyword_of, keywords}
use Rattle.patch_script.specs.Plans.{is_waiting}
use Rattle.run_order.specs.FreeScripts.{begins_wait}
use Rattle.audit_check.proofs.SearchResults.{was_made, went_on}

-- ---- words of a table

-- a word that has a keyword is in the table
known_word : {K : Type 0} (table : List (List ℕ × K)) (word : List ℕ) → is_some (in_table table word) ≡ true
    → (i : ℕ) × (slice_get (map (λ (entry : List ℕ × K). entry.0) table) i ≡ Some word)
known_word [] word e = absurd cc
known_word {K = K} ((first, keyword) ∷ table) word e = by_test (is_word first word) refl e (known_word table word)
  where
    by_test : (b : Bool) → is_word first word ≡ b
        → is_some (option_map (λ (entry : List ℕ × K). entry.1) (cond b (Some (first, keyword)) (find (λ (entry : List ℕ × K). is_word entry.0 word) table))) ≡ true
        → (is_some (in_table table word) ≡ true → (i : ℕ) × (slice_get (map (λ (entry : List ℕ × K). entry.0) table) i ≡ Some word))
        → (i : ℕ) × (slice_get (first ∷ map (λ (entry : List ℕ × K). entry.0) table) i ≡ Some word)
    by_test true is found later = (0, ap (λ (w : List ℕ). Some w) ((bytes_eq-Decides first word).0 is))
    by_test false is found later =
        let rest = later found in
        (suc rest.0, rest.1)

some_given : {A B : Type 0} (given : Option A) (next : A → Option B) (result : B) → option_and_then next given ≡ Some result → is_some given ≡ true
some_given None next result e = absurd cc
some_given (Some value) next result e = refl

-- ---- each word

-- what the words say waits exactly if the first word does
abbrev Tells : List ℕ → Type 0
Tells word = (following : List (List ℕ)) (command : PatchCommand) → command_of (word ∷ following) ≡ Some command
    → begins_wait (word ∷ following) ≡ is_waiting command

made_one : (make : ℕ → PatchCommand) (waits : Bool) → ((n : ℕ) → is_waiting (make n) ≡ waits) → (word : List ℕ) (command : PatchCommand)
    → option_map make (number_of word) ≡ Some command → waits ≡ is_waiting command
made_one make waits each word command e =
    let made = was_made make (number_of word) command e in
    sym (each made.value) ∙ ap is_waiting made.makes

made_two : (make : ℕ → ℕ → PatchCommand) (waits : Bool) → ((n m : ℕ) → is_waiting (make n m) ≡ waits) → (first second : List ℕ) (command : PatchCommand)
    → option_and_then (λ (n : ℕ). option_map (make n) (number_of second)) (number_of first) ≡ Some command → waits ≡ is_waiting command
made_two make waits each first second command e =
    let went = went_on (λ (n : ℕ). option_map (make n) (number_of second)) (number_of first) command e in
    made_one (make went.value) waits (each went.value) second command went.gives

patch_tells : Tells (codes "patch")
patch_tells [] command e =
    let same : commands.Patch ≡ command = cc in
    ap is_waiting same
patch_tells (word ∷ following) command e = absurd cc

unpatch_tells : Tells (codes "unpatch")
unpatch_tells [] command e =
    let same : commands.Unpatch ≡ command = cc in
    ap is_waiting same
unpatch_tells (word ∷ following) command e = absurd cc

patch_function_tells : Tells (codes "patch_function")
patch_function_tells [] command e = absurd cc
patch_function_tells (word ∷ []) command e = made_one commands.PatchFunction false (λ n. refl) word command e
patch_function_tells (word ∷ other ∷ following) command e = absurd cc

unpatch_function_tells : Tells (codes "unpatch_function")
unpatch_function_tells [] command e = absurd cc
unpatch_function_tells (word ∷ []) command e = made_one commands.UnpatchFunction false (λ n. refl) word command e
unpatch_function_tells (word ∷ other ∷ following) command e = absurd cc

set_handler_tells : Tells (codes "set_handler")
set_handler_tells [] command e =
    let same : commands.SetHandler ≡ command = cc in
    ap is_waiting same
set_handler_tells (word ∷ following) command e = absurd cc

remove_handler_tells : Tells (codes "remove_handler")
remove_handler_tells [] command e =
    let same : commands.RemoveHandler ≡ command = cc in
    ap is_waiting same
remove_handler_tells (word ∷ following) command e = absurd cc

set_arg_handler_tells : Tells (codes "set_arg_handler")
set_arg_handler_tells [] command e =
    let same : commands.SetArgHandler ≡ command = cc in
    ap is_waiting same
set_arg_handler_tells (word ∷ following) command e = absurd cc

remove_arg_handler_tells : Tells (codes "remove_arg_handler")
remove_arg_handler_tells [] command e =
    let same : commands.RemoveArgHandler ≡ command = cc in
    ap is_waiting same
remove_arg_handler_tells (word ∷ following) command e = absurd cc

init_tells : Tells (codes "init")
init_tells [] command e =
    let same : commands.Init ≡ command = cc in
    ap is_waiting same
init_tells (word ∷ following) command e = absurd cc

finalize_tells : Tells (codes "finalize")
finalize_tells [] command e =
    let same : commands.Finalize ≡ command = cc in
    ap is_waiting same
finalize_tells (word ∷ following) command e = absurd cc

hold_tells : Tells (codes "hold")
hold_tells [] command e = absurd cc
hold_tells (word ∷ []) command e = absurd cc
hold_tells (word ∷ other ∷ []) command e = made_two commands.Hold true (λ n m. refl) word other command e
hold_tells (word ∷ other ∷ more ∷ following) command e = absurd cc

go_tells : Tells (codes "go")
go_tells [] command e =
    let same : commands.Go ≡ command = cc in
    ap is_waiting same
go_tells (word ∷ following) command e = absurd cc

release_tells : Tells (codes "release")
release_tells [] command e = absurd cc
release_tells (word ∷ []) command e = made_one commands.Release true (λ n. refl) word command e
release_tells (word ∷ other ∷ following) command e = absurd cc

await_tells : Tells (codes "await")
await_tells [] command e = absurd cc
await_tells (word ∷ []) command e = absurd cc
await_tells (word ∷ other ∷ []) command e = made_two commands.Await true (λ n m. refl) word other command e
await_tells (word ∷ other ∷ more ∷ following) command e = absurd cc

told : (own word : List ℕ) → ◌≡◌ {A = Option (List ℕ)} (Some own) (Some word) → Tells own → Tells word
told own word e tells =
    let same : own ≡ word = cc in
    subst Tells same tells

-- all words of the table
tells_at : (i : ℕ) (word : List ℕ) → slice_get (map (λ entry. entry.0) keywords) i ≡ Some word → Tells word
tells_at zero word e = told (codes "patch") word e patch_tells
tells_at (suc zero) word e = told (codes "unpatch") word e unpatch_tells
tells_at (suc (suc zero)) word e = told (codes "patch_function") word e patch_function_tells
tells_at (suc (suc (suc zero))) word e = told (codes "unpatch_function") word e unpatch_function_tells
tells_at (suc (suc (suc (suc zero)))) word e = told (codes "set_handler") word e set_handler_tells
tells_at (suc (suc (suc (suc (suc zero))))) word e = told (codes "remove_handler") word e remove_handler_tells
tells_at (suc (suc (suc (suc (suc (suc zero)))))) word e = told (codes "set_arg_handler") word e set_arg_handler_tells
tells_at (suc (suc (suc (suc (suc (suc (suc zero))))))) word e = told (codes "remove_arg_handler") word e remove_arg_handler_tells
tells_at (suc (suc (suc (suc (suc (suc (suc (suc zero)))))))) word e = told (codes "init") word e init_tells
tells_at (suc (suc (suc (suc (suc (suc (suc (suc (suc zero))))))))) word e = told (codes "finalize") word e finalize_tells
tells_at (suc (suc (suc (suc (suc (suc (suc (suc (suc (suc zero)))))))))) word e = told (codes "hold") word e hold_tells
tells_at (suc (suc (suc (suc (suc (suc (suc (suc (suc (suc (suc zero))))))))))) word e = told (codes "go") word e go_tells
tells_at (suc (suc (suc (suc (suc (suc (suc (suc (suc (suc (suc (suc zero)))))))))))) word e = told (codes "release") word e release_tells
tells_at (suc (suc (suc (suc (suc (suc (suc (suc (suc (suc (suc (suc (suc zero))))))))))))) word e = told (codes "await") word e await_tells
tells_at (suc (suc (suc (suc (suc (suc (suc (suc (suc (suc (suc (suc (suc (suc i)))))))))))))) word e = absurd cc

-- The first word of a command says whether it waits.
pub first_word_tells : (words : List (List ℕ)) (command : PatchCommand) → command_of words ≡ Some command → begins_wait words ≡ is_waiting command
first_word_tells [] command e = absurd cc
first_word_tells (word ∷ following) command e =
    let known = known_word keywords word (some_given (keyword_of word) _ command e) in
    tells_at known.0 word known.1 following command e
