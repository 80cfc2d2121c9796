-- Where a table keeps its words: the slot of a word is apart from its number.
use Rattle.std.specs.Prelude.{ℕ, ◌+◌, ◌*◌}
use Rattle.patch_script.specs.Plans.{Plan}
use Rattle.sled_rule.specs.Plans.{words_in}

-- the slot of a code word is its number; the slots with the numbers of progress words stay unused
unfoldable pub code_slot : Plan → ℕ → ℕ
code_slot plan word = word

-- the slot of a thread's progress word: these come after the numbers of all words, each in a pair of cache lines of its
-- own, which is sixteen slots
abbrev pub progress_slot : Plan → ℕ → ℕ
progress_slot plan thread = words_in plan + 16 * thread

-- how many slots the table has, with these lines
abbrev pub slot_count : Plan → ℕ
slot_count plan = words_in plan + 16 * (plan.threads + 1)
