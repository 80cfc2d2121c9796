use Rattle.std.proofs.Common.{◌≡◌, length}
use Rattle.std.specs.Prelude.{All}
use Rattle.audit_check.proofs.SwitchesAtStart.{IsOff}
use Rattle.audit_check.proofs.switches.all_off.Given as goal

abbrev pub invariant-loop-word : goal.invariant-loop-word
invariant-loop-word l = (length l.all.items ≡ l._word) × All IsOff l.all.items
