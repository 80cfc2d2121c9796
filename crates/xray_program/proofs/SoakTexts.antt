-- The lines of a summary, as they are put together.
use Rattle.std.proofs.Common.{◌≡◌, ◌++◌, ◌∙◌, ℕ, List, [], Some, ap, append_assoc}
use Rattle.std.specs.Prelude.{codes, decimal, sum_by}
use Rattle.std.proofs.lemmas.List.{append-nil}
use Rattle.account_report.specs.declared.row.AccountRow.{AccountRow}
use Rattle.machine_step.specs.Texts.{line_feed}
use Rattle.xray_io.specs.Sink.{Adds}
use Rattle.xray_program.specs.Soak.{trace_lines}

-- a sink that nothing was written to has what was written
pub all_written : (old new text : List ℕ) → old ≡ [] → Adds (Some old) (Some new) text → new ≡ text
all_written old new text none adds = same_some new (old ++ text) adds.told ∙ ap (λ (t : List ℕ). t ++ text) none
  where
    same_some : (x y : List ℕ) → Some x ≡ Some y → x ≡ y
    same_some x y e = cc

pub number_pieces : (number n : ℕ) → n ≡ number → codes "soak " ++ (decimal n ++ (line_feed ++ [])) ≡ codes "soak " ++ decimal number ++ line_feed
number_pieces number n same = rw same (simp append-nil)

pub trace_pieces : (bytes : ℕ) (rows : List AccountRow) (b pairs entries exits : ℕ) → b ≡ bytes → pairs ≡ sum_by (λ row. row.count) rows
    → entries ≡ sum_by (λ row. row.entries) rows → exits ≡ sum_by (λ row. row.exits) rows
    → codes "trace " ++ (decimal b ++ (codes "\npairs " ++ (decimal pairs ++ (codes " entries " ++ (decimal entries ++ (codes " exits " ++ (decimal exits
    ++ (line_feed ++ []))))))))
    ≡ trace_lines bytes rows
trace_pieces bytes rows b pairs entries exits same_bytes same_pairs same_entries same_exits =
    rw (same_bytes, same_pairs, same_entries, same_exits) (simp (append_assoc, append-nil))
