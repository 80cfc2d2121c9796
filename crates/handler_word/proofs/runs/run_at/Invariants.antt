use Rattle.std.proofs.Common.{◌≡◌, ◌<◌, ◌≤◌, ◌++◌, ◌-◌, length, drop, replicate}
use Rattle.handler_word.proofs.runs.run_at.Given as goal

-- from the start up to here, all marks are the same
abbrev pub invariant-same : goal.invariant-same
invariant-same l = record {
  begun : l.start < l.end;
  within : l.end ≤ length l.marks.items;
  same : drop l.start l.marks.items ≡ replicate (l.end - l.start) l.mark ++ drop l.end l.marks.items;
}

abbrev pub decreases-same : goal.decreases-same
decreases-same l = l.len - l.end
