use Rattle.std.proofs.Common.{◌≡◌, length}
use Rattle.patch_script.specs.Refusals.{commands_of}
use Rattle.step_sim.specs.private.Standing.{AllHaveBegun}
use Rattle.step_sim.proofs.start.new_threads.Given as goal

abbrev pub invariant-loop-number : goal.invariant-loop-number
invariant-loop-number l =
    (length l.cpus.items ≡ l.number)
    × AllHaveBegun l.steps (commands_of l.script.lines) l.setup.threads l.setup.limits l.cpus.items
