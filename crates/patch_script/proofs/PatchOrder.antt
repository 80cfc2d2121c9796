-- The micro steps that the commands of a script mean, and their order.
use Rattle.std.proofs.Common.{◌≡◌, ℕ, ◌+◌, ◌≤◌, List, [], ◌∷◌, ◌++◌, suc, Some, Bool, sym, ap, ◌∙◌, arith}
use Rattle.std.specs.Prelude.{◌==◌, map, slice_get}
use Rattle.std.specs.List.{All, flat_map, list_any, enumerate_from}
use Rattle.std.proofs.lemmas.List.Elements.{All-nil, All-cons, All-head, All-tail, All-filter}
use Rattle.xray_image.specs.declared.sled.Sled.{Sled}
use Rattle.xray_image.specs.Program.{Program}
use Rattle.sled_words.specs.declared.part.Part.TheVariants.{Head}
use Rattle.sled_words.specs.Words.{word_of, handler_word, state_word, release_word, arg_handler_word}
use Rattle.patch_script.specs.declared.command.PatchCommand.{PatchCommand}
use Rattle.patch_script.specs.declared.command.PatchCommand.TheVariants as commands
use Rattle.patch_script.specs.declared.micro.Micro.{Micro}
use Rattle.patch_script.specs.declared.micro.Micro.TheVariants.{Store, Await}
use Rattle.patch_script.specs.Micros.{Numbered, all_sleds, sleds_of, patch_sled, unpatch_sled, head_left, steps_of, patches, numbers, micros_after, micros}

-- the numbered sled is one of the program's
abbrev pub IsListed : Program → Numbered → Type 0
IsListed program (k, sled) = slice_get program.sleds k ≡ Some sled

-- a micro step on its own: all but those that patch a sled
pub data IsLone (program : Program) : Micro → Type 0 where
  unpatching : (k : ℕ) (sled : Sled) (was_patched : Bool) → slice_get program.sleds k ≡ Some sled
      → IsLone program (Store (word_of k Head) (head_left sled.kind was_patched))
  handling : (value : ℕ) → value ≤ 1 → IsLone program (Store (handler_word program) value)
  arg_handling : (threads value : ℕ) → value ≤ 1 → IsLone program (Store (arg_handler_word program threads) value)
  logging : (value : ℕ) → value ≤ 4 → IsLone program (Store (state_word program) value)
  releasing : (thread : ℕ) → IsLone program (Store (release_word program thread) 1)
  awaiting : (thread count : ℕ) → IsLone program (Await thread count)

-- micro steps in which four in a row patch a sled, and all others are on their own
pub data ArePatches (program : Program) : List Micro → Type 0 where
  ended : ArePatches program []
  lone : (step : Micro) (steps : List Micro) → IsLone program step → ArePatches program steps → ArePatches program (step ∷ steps)
  patch : (k : ℕ) (sled : Sled) (steps : List Micro) → slice_get program.sleds k ≡ Some sled → ArePatches program steps
      → ArePatches program (patch_sled program (k, sled) ++ steps)

-- ---- the sleds of a command

listed_from : (program : Program) (n : ℕ) (sleds : List Sled) → ((i : ℕ) → slice_get program.sleds (n + i) ≡ slice_get sleds i)
    → All (IsListed program) (enumerate_from n sleds)
listed_from program n [] at = All-nil (IsListed program)
listed_from program n (sled ∷ sleds) at =
    let first : n + 0 ≡ n = omega arith in
    let here : IsListed program (n, sled) = sym (ap (slice_get program.sleds) first) ∙ at 0 in
    All-cons (IsListed program) (n, sled) (enumerate_from (n + 1) sleds) here
    (listed_from program (n + 1) sleds (λ i.
    let next : n + 1 + i ≡ n + suc i = omega arith in ap (slice_get program.sleds) next ∙ at (suc i)))

all_listed : (program : Program) → All (IsListed program) (all_sleds program)
all_listed program =
    listed_from program 0 program.sleds (λ i. let same : 0 + i ≡ i = omega arith in ap (slice_get program.sleds) same)

of_function_listed : (program : Program) (id : ℕ) → All (IsListed program) (sleds_of program id)
of_function_listed program id =
    let test : Numbered → Bool = λ s. s.1.id == id in
    All-filter test (IsListed program) (all_sleds program) (all_listed program)

-- ---- the steps of a command, before others

patched_before : (program : Program) (sleds : List Numbered) (rest : List Micro) → All (IsListed program) sleds
    → ArePatches program rest → ArePatches program (flat_map (patch_sled program) sleds ++ rest)
patched_before program [] rest listed later = later
patched_before program ((k, sled) ∷ sleds) rest listed later =
    patch k sled (flat_map (patch_sled program) sleds ++ rest) (All-head (IsListed program) (k, sled) sleds listed)
    (patched_before program sleds rest (All-tail (IsListed program) (k, sled) sleds listed) later)

unpatched_before : (program : Program) (earlier : List ℕ) (sleds : List Numbered) (rest : List Micro) → All (IsListed program) sleds
    → ArePatches program rest → ArePatches program (map (unpatch_sled earlier) sleds ++ rest)
unpatched_before program earlier [] rest listed later = later
unpatched_before program earlier ((k, sled) ∷ sleds) rest listed later =
    lone (unpatch_sled earlier (k, sled)) (map (unpatch_sled earlier) sleds ++ rest)
    (unpatching k sled (list_any (λ j. j == k) earlier) (All-head (IsListed program) (k, sled) sleds listed))
    (unpatched_before program earlier sleds rest (All-tail (IsListed program) (k, sled) sleds listed) later)

command_before : (program : Program) (threads : ℕ) (earlier : List ℕ) (command : PatchCommand) (rest : List Micro) → ArePatches program rest
    → ArePatches program (steps_of program threads earlier command ++ rest)
command_before program threads earlier commands.Patch rest later = patched_before program (all_sleds program) rest (all_listed program) later
command_before program threads earlier commands.Unpatch rest later = unpatched_before program earlier (all_sleds program) rest (all_listed program) later
command_before program threads earlier (commands.PatchFunction id) rest later = patched_before program (sleds_of program id) rest (of_function_listed program id) later
command_before program threads earlier (commands.UnpatchFunction id) rest later = unpatched_before program earlier (sleds_of program id) rest (of_function_listed program id) later
command_before program threads earlier commands.SetHandler rest later = lone (Store (handler_word program) 1) rest (handling 1 (omega arith)) later
command_before program threads earlier commands.RemoveHandler rest later = lone (Store (handler_word program) 0) rest (handling 0 (omega arith)) later
command_before program threads earlier commands.SetArgHandler rest later = lone (Store (arg_handler_word program threads) 1) rest (arg_handling threads 1 (omega arith)) later
command_before program threads earlier commands.RemoveArgHandler rest later = lone (Store (arg_handler_word program threads) 0) rest (arg_handling threads 0 (omega arith)) later
command_before program threads earlier commands.Init rest later =
    lone (Store (state_word program) 1) (Store (state_word program) 2 ∷ rest) (logging 1 (omega arith))
    (lone (Store (state_word program) 2) rest (logging 2 (omega arith)) later)
command_before program threads earlier commands.Finalize rest later =
    lone (Store (state_word program) 3) (Store (state_word program) 4 ∷ rest) (logging 3 (omega arith))
    (lone (Store (state_word program) 4) rest (logging 4 (omega arith)) later)
command_before program threads earlier (commands.Hold thread passing) rest later = later
command_before program threads earlier commands.Go rest later = later
command_before program threads earlier (commands.Release thread) rest later = lone (Store (release_word program thread) 1) rest (releasing thread) later
command_before program threads earlier (commands.Await thread count) rest later = lone (Await thread count) rest (awaiting thread count) later

patches_after : (program : Program) (threads : ℕ) (earlier : List ℕ) (script : List PatchCommand) → ArePatches program (micros_after program threads earlier script)
patches_after program threads earlier [] = ended
patches_after program threads earlier (command ∷ rest) =
    let earlier' : List ℕ = earlier ++ numbers (patches program command) in
    command_before program threads earlier command (micros_after program threads earlier' rest) (patches_after program threads earlier' rest)

-- the micro steps of a script
pub script_patches : (program : Program) (threads : ℕ) (script : List PatchCommand) → ArePatches program (micros program threads script)
script_patches program threads script = patches_after program threads [] script
