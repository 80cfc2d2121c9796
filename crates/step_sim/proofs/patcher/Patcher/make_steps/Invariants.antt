use Rattle.std.proofs.Common.{◌≡◌, ℕ, List, ◌+◌, min, vec_len}
use Rattle.xray_image.specs.Program.{Program}
use Rattle.patch_script.specs.declared.command.PatchCommand.{PatchCommand}
use Rattle.patch_script.specs.Micros.{total_of}
use Rattle.step_sim.specs.private.Standing.{IsPatcherAt}
use Rattle.step_sim.proofs.patcher.Patcher.make_steps.Given as goal

abbrev pub invariant-loop-step : goal.invariant-loop-step
invariant-loop-step l =
    (vec_len l.self.words ≡ vec_len l.initial.self.words)
    × ((program : Program) (threads : ℕ) (script : List PatchCommand) (place : ℕ) → IsPatcherAt program threads script place l.initial.self
    → IsPatcherAt program threads script (min (place + l._step) (total_of program threads script)) l.self)
