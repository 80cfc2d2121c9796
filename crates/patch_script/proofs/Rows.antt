-- Small scripts worked by hand: what the definitions make of them.
use Rattle.std.proofs.Common.{◌≡◌, ℕ, true, List, [], ◌∷◌, ◌++◌, Some, refl}
use Rattle.std.specs.Prelude.{codes, map, replicate, Result, Ok, Err}
use Rattle.xray_image.specs.declared.sled.Sled.{Sled}
use Rattle.xray_image.specs.declared.sled.SledKind.{SledKind}
use Rattle.xray_image.specs.declared.sled.SledKind.TheVariants.{Entry, Exit, Args}
use Rattle.xray_image.specs.Program.{Program}
use Rattle.patch_script.specs.declared.command.PatchCommand.{PatchCommand}
use Rattle.patch_script.specs.declared.command.PatchCommand.TheVariants as commands
use Rattle.patch_script.specs.declared.fault.ScriptFault.{ScriptFault}
use Rattle.patch_script.specs.declared.fault.ScriptFault.TheVariants as faults
use Rattle.patch_script.specs.declared.micro.Micro.TheVariants.{Store, Await, End}
use Rattle.patch_script.specs.Micros.{micros, micro_at, start_of, total_of, hold_of}
use Rattle.patch_script.specs.Plans.{Plan, plan_of, waiting_line}
use Rattle.patch_script.specs.Refusals.{Lines, commands_of, with_line}

-- a sled of the first function
abbrev pub sled : ℕ → SledKind → Sled
sled address kind = record { address = address; function = 0x1000; id = 1; kind = kind; always = true; shift = 512 }

-- A function of 29 bytes with an entry sled and an exit sled. What scripts don't look at is left out.
abbrev pub one_function : Program
one_function = record {
  base = 0x1000;
  entry = 0x1000;
  code = [];
  functions = [];
  units = [];
  sleds = sled 0x1000 Entry ∷ sled 0x1012 Exit ∷ [];
  trampolines = record { entry = 0x201000; exit = 0x201010; tail = 0x201020; args = 0x201030 };
}

-- the same with argument logging at its entry, and the exit sled of a shorter function
abbrev with_argument : Program
with_argument = record one_function { sleds = sled 0x1000 Args ∷ sled 0x100E Exit ∷ [] }

-- lines of ASCII text
abbrev text : List (List ℕ) → List ℕ
text [] = []
text (line ∷ lines) = line ++ 10 ∷ text lines

abbrev verdict_of : List (List ℕ) → Result Plan ScriptFault
verdict_of lines = plan_of one_function 1 (text lines)

abbrev accepted : Lines → Result Plan ScriptFault
accepted lines = Ok (record { program = one_function; threads = 1; lines = lines })

-- ---- refusals

-- scripts, and why each is refused
abbrev refused : List (List (List ℕ) × ScriptFault)
refused =
    ([], faults.Go 1)
    ∷ (codes "go" ∷ codes "go" ∷ [], faults.Go 2)
    ∷ (codes "go" ∷ codes "hold 1 0" ∷ [], faults.Go 2)
    ∷ (codes "await 1 1" ∷ codes "go" ∷ [], faults.Go 1)
    ∷ (codes "patch_function 2" ∷ codes "go" ∷ [], faults.Function 1)
    ∷ (codes "go" ∷ codes "release 2" ∷ [], faults.Thread 2)
    ∷ (codes "go" ∷ codes "release 1" ∷ [], faults.Hold 2)
    ∷ (codes "hold 1 0" ∷ codes "hold 1 1" ∷ codes "go" ∷ [], faults.Hold 2)
    ∷ (codes "hold 1 0" ∷ codes "go" ∷ codes "release 1" ∷ codes "release 1" ∷ [], faults.Hold 4)
    ∷ (codes "hold 1 0" ∷ codes "go" ∷ [], faults.Hold 3)
    ∷ (codes "init" ∷ codes "init" ∷ codes "go" ∷ [], faults.Log 2)
    ∷ (codes "finalize" ∷ codes "go" ∷ [], faults.Log 1)
    ∷ (codes "patch 1" ∷ [], faults.Syntax 1)
    ∷ (codes "patch_function +1" ∷ [], faults.Syntax 1)
    ∷ ((codes "go" ++ 127 ∷ []) ∷ [], faults.Syntax 1)
    ∷ []

each_refused : map (λ row. verdict_of row.0) refused ≡ map (λ row. Err row.1) refused
each_refused = refl

-- the limit is checked before the words
one_too_many : with_line one_function 1 (replicate 1024 (1, commands.Patch)) (1025, codes "what") ≡ Err (faults.Limit 1025)
one_too_many = refl

blank_after : with_line one_function 1 (replicate 1024 (1, commands.Patch)) (1025, codes " # blank") ≡ Ok (replicate 1024 (1, commands.Patch))
blank_after = refl

-- a thread that is held before its passing 3 makes 3 passings, and no more
waits_for_itself : verdict_of (codes "hold 1 3" ∷ codes "go" ∷ codes "await 1 5" ∷ codes "release 1" ∷ []) ≡ Err (faults.SelfWait 3)
waits_for_itself = refl

abbrev held_at_3 : Lines
held_at_3 = (1, commands.Hold 1 3) ∷ (2, commands.Go) ∷ (3, commands.Await 1 3) ∷ (4, commands.Release 1) ∷ []

waits_before : verdict_of (codes "hold 1 3" ∷ codes "go" ∷ codes "await 1 3" ∷ codes "release 1" ∷ []) ≡ accepted held_at_3
waits_before = refl

waits_at_1 : waiting_line held_at_3 ≡ Some 1
waits_at_1 = refl

held_before_3 : hold_of 1 (commands_of held_at_3) ≡ Some 3
held_before_3 = refl

-- lines without words are skipped, and leading zeros are allowed
with_comments : verdict_of (codes "# traced" ∷ [] ∷ codes " patch_function 01 # one" ∷ codes "go" ∷ []) ≡ accepted ((3, commands.PatchFunction 1) ∷ (4, commands.Go) ∷ [])
with_comments = refl

-- ---- micro steps

abbrev traced : List PatchCommand
traced = commands.Patch ∷ commands.SetHandler ∷ commands.Init ∷ commands.Go ∷ []

traced_steps : micros one_function 1 traced
    ≡ Store 1 1 ∷ Store 2 0xE8 ∷ Store 3 0x1FFFF5 ∷ Store 0 0xBA41 ∷ Store 5 1 ∷ Store 6 0xE9 ∷ Store 7 0x1FFFF3 ∷ Store 4 0xBA41
    ∷ Store 8 1 ∷ Store 9 1 ∷ Store 9 2 ∷ []
traced_steps = refl

starts_at_11 : start_of one_function 1 (traced ++ commands.Unpatch ∷ []) ≡ 11
starts_at_11 = refl

ends_at_13 : total_of one_function 1 (traced ++ commands.Unpatch ∷ []) ≡ 13
ends_at_13 = refl

nothing_after : micro_at one_function 1 traced 11 ≡ End
nothing_after = refl

-- an exit sled that was never patched keeps its head
never_patched : micros one_function 1 (commands.Go ∷ commands.Unpatch ∷ []) ≡ Store 0 0x09EB ∷ Store 4 0x2EC3 ∷ []
never_patched = refl

-- one that was patched keeps the high byte of the patched head
patched_before : micros one_function 1 (commands.Patch ∷ commands.Unpatch ∷ commands.Go ∷ [])
    ≡ micros one_function 1 (commands.Patch ∷ []) ++ Store 0 0x09EB ∷ Store 4 0xBAC3 ∷ []
patched_before = refl

-- an entry sled with argument logging calls the argument trampoline, and is unpatched as any entry sled
argument_steps : micros with_argument 1 (commands.PatchFunction 1 ∷ commands.Unpatch ∷ [])
    ≡ Store 1 1 ∷ Store 2 0xE8 ∷ Store 3 0x200025 ∷ Store 0 0xBA41 ∷ Store 5 1 ∷ Store 6 0xE9 ∷ Store 7 0x1FFFF7 ∷ Store 4 0xBA41
    ∷ Store 0 0x09EB ∷ Store 4 0xBAC3 ∷ []
argument_steps = refl

-- the argument handler's word comes after the words of all threads
argument_handler : micros with_argument 1 (commands.SetArgHandler ∷ commands.Go ∷ commands.RemoveArgHandler ∷ []) ≡ Store 12 1 ∷ Store 12 0 ∷ []
argument_handler = refl

argument_handler_of_three : micros with_argument 3 (commands.SetArgHandler ∷ []) ≡ Store 16 1 ∷ []
argument_handler_of_three = refl

waits_and_releases : micros one_function 1 (commands_of held_at_3) ≡ Await 1 3 ∷ Store 10 1 ∷ []
waits_and_releases = refl
