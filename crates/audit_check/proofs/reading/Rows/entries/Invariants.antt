use Rattle.std.proofs.Common.{◌≡◌, ◌≤◌, ◌+◌, ◌*◌, ℕ, List, [], length, map}
use Rattle.machine_step.specs.declared.setup.Setup.{Setup}
use Rattle.machine_step.specs.Setups.{IsSetup}
use Rattle.audit_check.specs.private.Lines.{AreFirst, HasTaken, first_rows}
use Rattle.audit_check.specs.Statements.{said_by}
use Rattle.audit_check.proofs.reading.Rows.entries.Given as goal

-- the rows of the threads so far were taken
abbrev pub invariant-loop-before : goal.invariant-loop-before
invariant-loop-before l = record {
  number : l.self.number ≤ 2 + 2 * l.before;
  count : length l.entries.items ≡ l.before;
  taken : (bytes : List ℕ) (setup : Setup) → HasTaken bytes l.initial.self (first_rows setup []) → IsSetup setup → setup.threads ≡ l.fn.threads
      → HasTaken bytes l.self (first_rows setup (map said_by l.entries.items)) × AreFirst setup (map said_by l.entries.items);
}
