-- What the commands of a script mean: a list of stores and awaits.
use Rattle.std.specs.Prelude.{ℕ, List, [], ◌∷◌, ◌++◌, length, Bool, true, false, ◌==◌, not, if◌then◌else◌, map, filter, take_while, slice_get, unwrap_or, Option, Some, None}
use Rattle.std.specs.Option.{option_or}
use Rattle.std.specs.List.{flat_map, list_any, enumerate_from}
use Rattle.xray_image.specs.declared.sled.Sled.{Sled}
use Rattle.xray_image.specs.declared.sled.SledKind.{SledKind}
use Rattle.xray_image.specs.declared.sled.SledKind.TheVariants.{Entry, Exit, Tail, Args}
use Rattle.xray_image.specs.Program.{Program}
use Rattle.sled_words.specs.declared.part.Part.TheVariants.{Head, Id, Opcode, Offset}
use Rattle.sled_words.specs.Words.{word_of, handler_word, state_word, release_word, arg_handler_word}
use Rattle.sled_words.specs.Parts.{jump_head, patched, return_head}
use Rattle.patch_script.specs.declared.command.PatchCommand.{PatchCommand}
use Rattle.patch_script.specs.declared.command.PatchCommand.TheVariants as commands
use Rattle.patch_script.specs.declared.micro.Micro.{Micro}
use Rattle.patch_script.specs.declared.micro.Micro.TheVariants.{Store, Await, End}

-- a sled and its number
abbrev pub Numbered : Type 0
Numbered = ℕ × Sled

-- all sleds, in the order of the map
abbrev pub all_sleds : Program → List Numbered
all_sleds program = enumerate_from 0 program.sleds

-- the sleds of a function, in the order of the map
abbrev pub sleds_of : Program → ℕ → List Numbered
sleds_of program id = filter (λ s. s.1.id == id) (all_sleds program)

-- the sleds that a command patches
abbrev pub patches : Program → PatchCommand → List Numbered
patches program commands.Patch = all_sleds program
patches program (commands.PatchFunction id) = sleds_of program id
patches program commands.Unpatch = []
patches program (commands.UnpatchFunction id) = []
patches program commands.SetHandler = []
patches program commands.RemoveHandler = []
patches program commands.SetArgHandler = []
patches program commands.RemoveArgHandler = []
patches program commands.Init = []
patches program commands.Finalize = []
patches program (commands.Hold thread passing) = []
patches program commands.Go = []
patches program (commands.Release thread) = []
patches program (commands.Await thread count) = []

-- patching a sled stores its id, its opcode and its offset, and then its head
abbrev pub patch_sled : Program → Numbered → List Micro
patch_sled program (k, sled) =
    Store (word_of k Id) (patched program.trampolines sled Id)
    ∷ Store (word_of k Opcode) (patched program.trampolines sled Opcode)
    ∷ Store (word_of k Offset) (patched program.trampolines sled Offset)
    ∷ Store (word_of k Head) (patched program.trampolines sled Head)
    ∷ []

-- the head of an exit sled that was patched and unpatched: a return that keeps the high byte of the patched head
abbrev pub return_over_patch : ℕ
return_over_patch = 0xBAC3

-- the head that unpatching leaves: a jump over the sled, or a return that keeps the high byte that was there
abbrev pub head_left : SledKind → Bool → ℕ
head_left Entry was_patched = jump_head
head_left Tail was_patched = jump_head
head_left Args was_patched = jump_head
head_left Exit true = return_over_patch
head_left Exit false = return_head

-- Unpatching a sled stores only its head. The sleds that earlier commands patched are known by their numbers.
abbrev pub unpatch_sled : List ℕ → Numbered → Micro
unpatch_sled earlier (k, sled) = Store (word_of k Head) (head_left sled.kind (list_any (λ j. j == k) earlier))

-- the micro steps of a command for this many threads, if earlier commands patched the sleds of these numbers
abbrev pub steps_of : Program → ℕ → List ℕ → PatchCommand → List Micro
steps_of program threads earlier commands.Patch = flat_map (patch_sled program) (all_sleds program)
steps_of program threads earlier commands.Unpatch = map (unpatch_sled earlier) (all_sleds program)
steps_of program threads earlier (commands.PatchFunction id) = flat_map (patch_sled program) (sleds_of program id)
steps_of program threads earlier (commands.UnpatchFunction id) = map (unpatch_sled earlier) (sleds_of program id)
steps_of program threads earlier commands.SetHandler = Store (handler_word program) 1 ∷ []
steps_of program threads earlier commands.RemoveHandler = Store (handler_word program) 0 ∷ []
steps_of program threads earlier commands.SetArgHandler = Store (arg_handler_word program threads) 1 ∷ []
steps_of program threads earlier commands.RemoveArgHandler = Store (arg_handler_word program threads) 0 ∷ []
steps_of program threads earlier commands.Init = Store (state_word program) 1 ∷ Store (state_word program) 2 ∷ []
steps_of program threads earlier commands.Finalize = Store (state_word program) 3 ∷ Store (state_word program) 4 ∷ []
steps_of program threads earlier (commands.Hold thread passing) = []
steps_of program threads earlier commands.Go = []
steps_of program threads earlier (commands.Release thread) = Store (release_word program thread) 1 ∷ []
steps_of program threads earlier (commands.Await thread count) = Await thread count ∷ []

-- the numbers of the sleds that a command patches
abbrev pub numbers : List Numbered → List ℕ
numbers sleds = map (λ s. s.0) sleds

-- the micro steps of commands, command after command
abbrev pub micros_after : Program → ℕ → List ℕ → List PatchCommand → List Micro
micros_after program threads earlier [] = []
micros_after program threads earlier (command ∷ rest) =
    steps_of program threads earlier command ++ micros_after program threads (earlier ++ numbers (patches program command)) rest

-- the micro steps of a script for this many threads
abbrev pub micros : Program → ℕ → List PatchCommand → List Micro
micros program threads script = micros_after program threads [] script

abbrev pub is_go : PatchCommand → Bool
is_go commands.Go = true
is_go _ = false

-- how many micro steps come before `go`, and how many there are
abbrev pub start_of : Program → ℕ → List PatchCommand → ℕ
start_of program threads script = length (micros program threads (take_while (λ c. not (is_go c)) script))

abbrev pub total_of : Program → ℕ → List PatchCommand → ℕ
total_of program threads script = length (micros program threads script)

-- the micro step at a place, or the end after all of them
abbrev pub micro_at : Program → ℕ → List PatchCommand → ℕ → Micro
micro_at program threads script place = unwrap_or (slice_get (micros program threads script) place) End

-- the passing that a script holds a thread before
abbrev pub hold_by : ℕ → PatchCommand → Option ℕ
hold_by thread (commands.Hold held passing) = if held == thread then Some passing else None
hold_by thread _ = None

abbrev pub hold_of : ℕ → List PatchCommand → Option ℕ
hold_of thread [] = None
hold_of thread (command ∷ rest) = option_or (hold_by thread command) (hold_of thread rest)
