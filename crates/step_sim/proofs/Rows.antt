-- Worked examples of the definitions, checked by computing.
use Rattle.std.proofs.Common.{◌≡◌, List, [], ◌∷◌, true, refl}
use Rattle.std.specs.Prelude.{codes}
use Rattle.subset_decode.specs.declared.instr.Instr.TheVariants.{Mov, Out}
use Rattle.xray_image.specs.declared.sled.SledKind.TheVariants.{Entry, Exit}
use Rattle.xray_image.specs.declared.unit.What.TheVariants.{Plain, Sled}
use Rattle.xray_image.specs.Program.{Program}
use Rattle.patch_script.specs.declared.command.PatchCommand.{PatchCommand}
use Rattle.patch_script.specs.declared.command.PatchCommand.TheVariants as commands
use Rattle.patch_script.specs.declared.micro.Micro.TheVariants.{Store}
use Rattle.patch_script.specs.Micros.{micros, start_of}
use Rattle.handler_word.specs.declared.mark.Mark.TheVariants.{Skipped, NoHandler}
use Rattle.step_sim.specs.declared.turns.Turns.TheVariants.{Thread, Patcher}
use Rattle.step_sim.specs.Plays.{turns}
use Rattle.step_sim.specs.Replay.{Cast, thread_turn, marks_at}
use Rattle.step_sim.specs.private.Turns.{scheduled}

-- a function that moves 65 to eax and prints it
example : Program
example = record {
  base = 4096;
  entry = 4096;
  code = 0xEB ∷ 0x09 ∷ 0x66 ∷ 0x0F ∷ 0x1F ∷ 0x84 ∷ 0 ∷ 0 ∷ 2 ∷ 0 ∷ 0 ∷ 0xB8 ∷ 65 ∷ 0 ∷ 0 ∷ 0 ∷ 0xE6 ∷ 1
      ∷ 0xC3 ∷ 0x2E ∷ 0x66 ∷ 0x0F ∷ 0x1F ∷ 0x84 ∷ 0 ∷ 0 ∷ 2 ∷ 0 ∷ 0 ∷ [];
  functions = record { start = 4096; name = codes "main" } ∷ [];
  units = record { address = 4096; what = Sled 0 } ∷ record { address = 4107; what = Plain (Mov 0 65) }
      ∷ record { address = 4112; what = Plain (Out 1) } ∷ record { address = 4114; what = Sled 1 } ∷ [];
  sleds = record { address = 4096; function = 4096; id = 1; kind = Entry; always = true; shift = 512 }
      ∷ record { address = 4114; function = 4096; id = 1; kind = Exit; always = true; shift = 512 } ∷ [];
  trampolines = record { entry = 0x201000; exit = 0x201010; tail = 0x201020; args = 0x201030 };
}

script : List PatchCommand
script = commands.Patch ∷ commands.Go ∷ commands.Unpatch ∷ []

-- the id, opcode and offset of each sled are stored before its head; unpatching stores only heads
stores : micros example 1 script ≡
    Store 1 1 ∷ Store 2 0xE8 ∷ Store 3 0x1FFFF5 ∷ Store 0 0xBA41
    ∷ Store 5 1 ∷ Store 6 0xE9 ∷ Store 7 0x1FFFF3 ∷ Store 4 0xBA41
    ∷ Store 0 0x09EB ∷ Store 4 0xBAC3 ∷ []
unfolding example script
stores = refl

never_patched : micros example 1 (commands.Go ∷ commands.Unpatch ∷ []) ≡ Store 0 0x09EB ∷ Store 4 0x2EC3 ∷ []
unfolding example
never_patched = refl

starts : start_of example 1 script ≡ 8
unfolding example script
starts = refl

cast : Cast
cast = record { program = example; script = script; passings = (0 ∷ 1 ∷ []) ∷ [] }

-- the thread has loaded the first head when both sleds are unpatched
in_the_middle : marks_at cast (turns 20 (thread_turn cast 1) (scheduled cast (Thread 1 1 ∷ Patcher 2 ∷ []))) ≡ (NoHandler ∷ Skipped ∷ []) ∷ []
unfolding example script cast
in_the_middle = refl

at_once : marks_at cast (turns 20 (thread_turn cast 1) (scheduled cast [])) ≡ (NoHandler ∷ NoHandler ∷ []) ∷ []
unfolding example script cast
at_once = refl

too_late : marks_at cast (turns 20 (thread_turn cast 1) (scheduled cast (Patcher 2 ∷ []))) ≡ (Skipped ∷ Skipped ∷ []) ∷ []
unfolding example script cast
too_late = refl
