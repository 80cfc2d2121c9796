-- Worked rows of the step of a sled: an entry sled at 0x1000 of function 1, whose trampoline is at 0x201000.
use Rattle.std.proofs.Common.{◌≡◌, ℕ, List, [], ◌∷◌, Option, Some, None, refl, true}
use Rattle.xray_image.specs.declared.sled.Sled.{Sled}
use Rattle.xray_image.specs.declared.sled.SledKind.TheVariants.{Entry}
use Rattle.xray_image.specs.Program.{Trampolines}
use Rattle.machine_step.specs.declared.limits.Limits.{Limits}
use Rattle.machine_step.specs.Loads.{Load}
use Rattle.machine_step.specs.PlainStep.{Goes, Next, State}
use Rattle.traced_run.specs.Executed.{bytes_fetched, past, sled_step, with_r10}

abbrev sled : Sled
sled = record { address = 0x1000; function = 0x1000; id = 1; kind = Entry; always = true; shift = 0x200 }

abbrev trampolines : Trampolines
trampolines = record { entry = 0x201000; exit = 0x201010; tail = 0x201020; args = 0x201030 }

abbrev at_sled : State → State
at_sled s = record s { address = 0x1000 }

-- the step of bytes
abbrev step : Limits → State → List ℕ → Option Next
step limits s bytes = sled_step trampolines limits sled (at_sled s) bytes

-- jmp +9, over the rest of the sled
unpatched : (limits : Limits) (s : State) → step limits s (0xEB ∷ 0x09 ∷ []) ≡ Some (Goes (past 11 (at_sled s)))
unpatched limits s = refl

-- mov r10d, ID; call 0x2010XX
abbrev patched : ℕ → ℕ → List ℕ
patched id low = 0x41 ∷ 0xBA ∷ id ∷ 0x00 ∷ 0x00 ∷ 0x00 ∷ 0xE8 ∷ low ∷ 0xFF ∷ 0x1F ∷ 0x00 ∷ []

patched_goes : (limits : Limits) (s : State) → step limits s (patched 1 0xF5) ≡ Some (Goes (past 11 (with_r10 1 (at_sled s))))
patched_goes limits s = refl

-- with another id, or a call of another trampoline, there is no step
other_id : (limits : Limits) (s : State) → step limits s (patched 2 0xF5) ≡ None
other_id limits s = refl

other_target : (limits : Limits) (s : State) → step limits s (patched 1 0xF6) ≡ None
other_target limits s = refl

-- the bytes of a jump, cut short by one
jumps_away : (limits : Limits) (s : State) → step limits s (0x41 ∷ 0xBA ∷ 0x01 ∷ 0x00 ∷ 0x00 ∷ 0x00 ∷ 0xE9 ∷ 0xF5 ∷ 0xFF ∷ 0x1F ∷ []) ≡ None
jumps_away limits s = refl

-- the head and the id are patched, and the rest isn't yet: mov r10d, 1 and three bytes of the nop
torn : (limits : Limits) (s : State)
    → step limits s (0x41 ∷ 0xBA ∷ 0x01 ∷ 0x00 ∷ 0x00 ∷ 0x00 ∷ 0x00 ∷ 0x00 ∷ 0x02 ∷ 0x00 ∷ 0x00 ∷ []) ≡ None
torn limits s = refl

-- the loads of the parts of sled 5, after a load of a release word, give its bytes
abbrev loads : List Load
loads =
    record { word = 99; value = 1 } ∷ record { word = 20; value = 0xBA41 } ∷ record { word = 21; value = 0x01 } ∷ record { word = 22; value = 0xE8 }
    ∷ record { word = 23; value = 0x1FFFF5 } ∷ record { word = 98; value = 2 } ∷ []

all_parts : bytes_fetched 5 loads ≡ patched 1 0xF5
all_parts = refl

-- the head alone
head_alone : bytes_fetched 5 (record { word = 20; value = 0x09EB } ∷ []) ≡ 0xEB ∷ 0x09 ∷ []
head_alone = refl
