use Rattle.std.proofs.Common.{◌≡◌, ◌+◌, ◌-◌, ◌≤◌}
use Rattle.xray_io.specs.Calls.{Went}
use Rattle.xray_io.specs.Reads.{Reads}
use Rattle.xray_io.specs.private.Pieces.{IsFedFront}
use Rattle.xray_io.proofs.whole.read_on.Given as goal

abbrev pub invariant-reading : goal.invariant-reading
invariant-reading g l = record {
  front : IsFedFront g.F.Feed.fed l.feed (g.D.Desk.held l.fn.desk l.name) l.at;
  bound : l.at ≤ l.limit;
  held : g.D.Desk.held l.desk ≡ g.D.Desk.held l.fn.desk;
  calm : g.D.Desk.read_faults l.desk ≡ g.D.Desk.read_faults l.fn.desk;
  writes : g.D.Desk.write_faults l.desk ≡ g.D.Desk.write_faults l.fn.desk;
  calls : Went (g.D.Desk.along l.fn.desk l.desk) (Reads l.name (l.limit + 1) 0 l.at);
}

abbrev pub decreases-reading : goal.decreases-reading
decreases-reading g l = l.limit + 1 - l.at
