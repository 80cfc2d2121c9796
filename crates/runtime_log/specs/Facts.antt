-- What `import` prints: what was taken of a log, and what was left out.
use Rattle.std.specs.Prelude.{ℕ, ◌+◌, ◌-◌, ◌==◌, ◌&&◌, List, [], ◌∷◌, ◌++◌, length, map, sum, codes, count_by, nat_lt, min, max, replicate, Option, Some, None, if◌then◌else◌}
use Rattle.std.specs.Option.{option_map_or}
use Rattle.xray_io.specs.Piece.{right_aligned}
use Rattle.fdr_file.specs.ThreadEvents.{ThreadEvent, thread_events}
use Rattle.fdr_file.specs.Traces.{logs_arg}
use Rattle.fdr_file.specs.declared.trace.Block.{Block}
use Rattle.runtime_log.specs.declared.facts.Facts.{Facts}
use Rattle.runtime_log.specs.Logs.{Log}
use Rattle.runtime_log.specs.Taken.{undoubled}

-- how many numbers these are, if equal ones stand side by side
abbrev pub different : List ℕ → ℕ
different [] = 0
different (n ∷ []) = 1
different (n ∷ next ∷ ns) = (if n == next then 0 else 1) + different (next ∷ ns)

-- the thread of an event, if its counter is lower than that of the event before it, which is of the same thread
abbrev pub fall : ThreadEvent → ThreadEvent → List ℕ
fall e next = if (e.thread == next.thread) && nat_lt next.event.tsc e.event.tsc then next.thread ∷ [] else []

-- the threads of all such events
abbrev pub falls : List ThreadEvent → List ℕ
falls [] = []
falls (e ∷ []) = []
falls (e ∷ next ∷ events) = fall e next ++ falls (next ∷ events)

-- the least of numbers, and the greatest, if there are any
abbrev pub least_of : List ℕ → Option ℕ
least_of [] = None
least_of (n ∷ ns) = Some (option_map_or (min n) (least_of ns) n)

abbrev pub greatest_of : List ℕ → Option ℕ
greatest_of [] = None
greatest_of (n ∷ ns) = Some (option_map_or (max n) (greatest_of ns) n)

-- The facts of what was taken of a log. What was taken is in the order of threads.
abbrev pub facts_of : (log : Log) → (taken : List Block) → Facts
facts_of log taken =
    let blocks = log.blocks in
    let events = thread_events taken in
    let counters = map (λ e. e.event.tsc) events in record {
      blocks = length taken;
      threads = different (map (λ e. e.thread) events);
      events = length events;
      arguments = count_by (λ e. logs_arg e.event.kind) events;
      custom = sum (map (λ b. b.custom) blocks);
      typed = sum (map (λ b. b.typed) blocks);
      doubled = length blocks - length (undoubled blocks);
      empty = count_by (λ b. length b.block.events == 0) (undoubled blocks);
      first = least_of counters;
      last = greatest_of counters;
      back = different (falls events);
      lost = log.lost;
      cut = sum (map (λ b. b.cut) blocks);
      frequency = log.header.frequency;
    }

-- ---- as they are printed

-- a number at the right end of twenty places; a dash (45) if there is none
abbrev pub right_or_dash : Option ℕ → List ℕ
right_or_dash number = option_map_or (λ n. right_aligned n 20) number (replicate 19 32 ++ 45 ∷ [])

-- a line: a number, and what it is
unfoldable pub counter_line : Option ℕ → List ℕ → List ℕ
counter_line number what = right_or_dash number ++ codes " " ++ what ++ codes "\n"

abbrev pub count_line : ℕ → List ℕ → List ℕ
count_line count what = counter_line (Some count) what

-- what was taken
abbrev pub taken_text : Facts → List ℕ
taken_text facts =
    count_line facts.blocks (codes "blocks") ++ count_line facts.threads (codes "threads") ++ count_line facts.events (codes "events")
    ++ count_line facts.arguments (codes "entries with arguments")

-- what was left out
abbrev pub left_out_text : Facts → List ℕ
left_out_text facts =
    count_line facts.custom (codes "custom events left out") ++ count_line facts.typed (codes "typed events left out")
    ++ count_line facts.doubled (codes "doubled blocks left out") ++ count_line facts.empty (codes "empty blocks left out")

-- the counters of the events
abbrev pub counters_text : Facts → List ℕ
counters_text facts =
    counter_line facts.first (codes "first counter") ++ counter_line facts.last (codes "last counter")
    ++ count_line facts.back (codes "threads whose counter goes back")

-- the records that were left out, and the frequency of the counter
abbrev pub left_records_text : Facts → List ℕ
left_records_text facts =
    count_line facts.lost (codes "arguments without an entry left out") ++ count_line facts.cut (codes "cut records left out")
    ++ count_line facts.frequency (codes "cycles a second")

abbrev pub facts_text : Facts → List ℕ
facts_text facts = taken_text facts ++ left_out_text facts ++ (counters_text facts ++ left_records_text facts)
