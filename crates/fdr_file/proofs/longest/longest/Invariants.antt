use Rattle.std.proofs.Common.{◌-◌, length}
use Rattle.fdr_file.specs.private.Prefixes.{ReadsTo}
use Rattle.fdr_file.proofs.longest.longest.Given as goal

-- the longest prefix that reads as a trace, up to the place where the reading stands
abbrev pub invariant-reading : goal.invariant-reading
invariant-reading l = ReadsTo l.version l.bytes l.stage l.at l.end

abbrev pub decreases-reading : goal.decreases-reading
decreases-reading l = length l.bytes - l.at
