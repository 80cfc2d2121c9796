use Rattle.std.proofs.Common.{◌≡◌, ◌-◌, map}
use Rattle.xray_image.specs.Container.{several}
use Rattle.xray_image.proofs.Several.{with_front}
use Rattle.xray_image.proofs.parts.read_entries.Given as goal

abbrev pub invariant-loop-number : goal.invariant-loop-number
invariant-loop-number g l =
    several g.E.Counted.read_at l.count l.bytes ≡ with_front (map g.E.Counted.said l.entries.items) (several g.E.Counted.read_at (l.count - l._number) l.rest)
