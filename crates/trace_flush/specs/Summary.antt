-- A summary of a run: a line for each thread, and how many segments were recycled.
use Rattle.std.specs.Prelude.{ℕ, List, ◌++◌, codes, decimal}
use Rattle.std.specs.List.{flat_map}
use Rattle.machine_step.specs.Texts.{end_text, line_feed}
use Rattle.trace_flush.specs.Audit.{ThreadAudit, recycled_line}

-- how a thread ended, its passings and those that recorded an event, and how many of its segments were recycled
abbrev pub summary_line : ThreadAudit → List ℕ
summary_line said =
    codes "thread " ++ decimal said.thread ++ codes " " ++ end_text said.end ++ codes " passings " ++ decimal said.passings
    ++ codes " recorded " ++ decimal said.recorded ++ codes " first " ++ decimal said.first ++ line_feed

-- the whole text
abbrev pub summary_text : List ThreadAudit → (recycled : ℕ) → List ℕ
summary_text threads recycled = flat_map summary_line threads ++ recycled_line recycled
