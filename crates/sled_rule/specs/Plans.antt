-- A script as the table's rule speaks of it: what is where, and when.
use Rattle.std.specs.Prelude.{◌≡◌, ℕ, ◌+◌, ◌*◌}
use Rattle.xray_image.specs.Limits.{most_sleds}
use Rattle.sled_words.specs.declared.words.TheConstants.{MAX_THREADS}
use Rattle.sled_words.specs.Words.{IsCodeWord, word_count}
use Rattle.patch_script.specs.declared.micro.Micro.{Micro}
use Rattle.patch_script.specs.declared.micro.Micro.TheVariants.{Store, Await}
use Rattle.patch_script.specs.Bounds.{bound_of}
use Rattle.patch_script.specs.CodeAt.{code_at}
use Rattle.patch_script.specs.Micros.{start_of, total_of, micro_at}
use Rattle.patch_script.specs.Plans.{Plan}
use Rattle.patch_script.specs.Refusals.{commands_of}

-- the value of a word at a place of the script
unfoldable pub code_in : Plan → ℕ → ℕ → ℕ
code_in plan place word = code_at plan.program plan.threads (commands_of plan.lines) place word

-- the last place for the loads of a thread's passing
unfoldable pub bound_in : Plan → ℕ → ℕ → ℕ
bound_in plan thread passing = bound_of plan.program plan.threads (commands_of plan.lines) thread passing

-- the place where threads start, and the place after all micro steps
unfoldable pub start_in : Plan → ℕ
start_in plan = start_of plan.program plan.threads (commands_of plan.lines)

unfoldable pub total_in : Plan → ℕ
total_in plan = total_of plan.program plan.threads (commands_of plan.lines)

-- the micro step at a place
unfoldable pub micro_in : Plan → ℕ → Micro
micro_in plan place = micro_at plan.program plan.threads (commands_of plan.lines) place

-- the word is one that the script stores in, or that threads load
abbrev pub IsCodeIn : Plan → ℕ → Type 0
IsCodeIn plan word = IsCodeWord plan.program plan.threads word

-- how many words there are
unfoldable pub words_in : Plan → ℕ
words_in plan = word_count plan.program plan.threads

-- the most words: those of the most sleds, and of the most threads
abbrev pub most_words : ℕ
most_words = 4 * most_sleds + 3 + 2 * MAX_THREADS

-- the micro step at a place is a store, or an await
abbrev pub IsStoreAt : Plan → ℕ → Type 0
IsStoreAt plan place = (word : ℕ) × (value : ℕ) × (micro_in plan place ≡ Store word value)

abbrev pub IsAwaitAt : Plan → ℕ → Type 0
IsAwaitAt plan place = (thread : ℕ) × (count : ℕ) × (micro_in plan place ≡ Await thread count)
