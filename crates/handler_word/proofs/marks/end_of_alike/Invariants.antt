use Rattle.std.proofs.Common.{◌≡◌, ◌<◌, ◌≤◌, ◌-◌, ℕ, length, get_or}
use Rattle.handler_word.proofs.marks.end_of_alike.Given as goal

-- the bytes that were looked at are all the same
abbrev pub invariant-alike : goal.invariant-alike
invariant-alike l = record {
  from : l.start ≤ l.end;
  within : l.end ≤ length l.bytes;
  alike : (i : ℕ) → l.start ≤ i → i < l.end → get_or l.bytes i 0 ≡ l.byte;
}

abbrev pub decreases-alike : goal.decreases-alike
decreases-alike l = length l.bytes - l.end
