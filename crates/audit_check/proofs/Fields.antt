-- The rows as their parts, each before the rest.
use Rattle.std.proofs.Common.{◌≡◌, ℕ, List, ◌++◌, ◌∙◌, append_assoc}
use Rattle.std.specs.Prelude.{codes, decimal}
use Rattle.xray_io.specs.declared.wall.Wall.{Wall}
use Rattle.machine_step.specs.declared.limits.Limits.{Limits}
use Rattle.machine_step.specs.declared.setup.Setup.{Setup}
use Rattle.machine_step.specs.Texts.{end_text, line_feed}
use Rattle.trace_flush.specs.Audit.{limits_text, recycled_line}
use Rattle.audit_check.specs.declared.thread_rows.Counts.{Counts}
use Rattle.audit_check.specs.private.Lines.{counts_row}
use Rattle.audit_check.specs.private.Parts.{buffers_part, counts_part, setup_row, stamps_part}

-- ---- the setup

pub buffers_parts : (threads size max : ℕ) (rest : List ℕ) → buffers_part threads size max ++ rest
    ≡ codes "threads=" ++ (decimal threads ++ (codes " buffer-size=" ++ (decimal size ++ (codes " buffer-max=" ++ (decimal max ++ rest)))))
buffers_parts threads size max rest = simp append_assoc

pub limits_parts : (l : Limits) (rest : List ℕ) → limits_text l ++ rest
    ≡ codes " fuel=" ++ (decimal l.fuel ++ (codes " passings=" ++ (decimal l.passings ++ (codes " tick=" ++ (decimal l.tick ++ (codes " tsc=" ++ (decimal l.tsc
    ++ (codes " cpus=" ++ (decimal l.cpus ++ (codes " migrate=" ++ (decimal l.migrate ++ rest)))))))))))
limits_parts l rest = simp append_assoc

pub stamps_parts : (pid : ℕ) (wall : Wall) (frequency : ℕ) (rest : List ℕ) → stamps_part pid wall frequency ++ rest
    ≡ codes " pid=" ++ (decimal pid ++ (codes " wall=" ++ (decimal wall.secs ++ (codes "." ++ (decimal wall.micros
    ++ (codes " frequency=" ++ (decimal frequency ++ rest)))))))
stamps_parts pid wall frequency rest = simp append_assoc

pub setup_parts : (s : Setup) → setup_row s
    ≡ buffers_part s.threads s.size s.max ++ (limits_text s.limits ++ (stamps_part s.pid s.wall s.frequency ++ line_feed))
setup_parts s =
    append_assoc (buffers_part s.threads s.size s.max ++ limits_text s.limits) (stamps_part s.pid s.wall s.frequency) line_feed
    ∙ append_assoc (buffers_part s.threads s.size s.max) (limits_text s.limits) (stamps_part s.pid s.wall s.frequency ++ line_feed)

-- ---- a thread

pub said_parts : (counts : Counts) (rest : List ℕ) → counts_part counts ++ rest
    ≡ codes " " ++ (end_text counts.end ++ (codes " passings " ++ (decimal counts.passings ++ (codes " recorded " ++ (decimal counts.recorded
    ++ (codes " segments " ++ (decimal counts.segments ++ (codes " first " ++ (decimal counts.first ++ rest)))))))))
said_parts counts rest = simp append_assoc

pub counts_parts : (thread : ℕ) (counts : Counts) → counts_row thread counts ≡ codes "thread " ++ (decimal thread ++ (counts_part counts ++ line_feed))
counts_parts thread counts = simp append_assoc

-- ---- the end

pub recycled_parts : (recycled : ℕ) → recycled_line recycled ≡ codes "recycled " ++ (decimal recycled ++ line_feed)
recycled_parts recycled = append_assoc (codes "recycled ") (decimal recycled) line_feed
