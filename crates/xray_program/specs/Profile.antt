-- `profile`: threads that run over an image while a script patches their sleds, and the stacks of what they recorded.
use Rattle.std.specs.Prelude.{◌+◌, ◌++◌, ℕ, List, [], ◌∷◌, map, codes, decimal, Option, Some, None}
use Rattle.call_trie.specs.declared.state.TrieState.{TrieState}
use Rattle.call_trie.specs.declared.state.TrieState.TheVariants.{Live, Full, Deep}
use Rattle.call_trie.specs.Tries.{state_after}
use Rattle.command_words.specs.declared.profile_options.ProfileOptions.{ProfileOptions}
use Rattle.command_words.specs.declared.report_options.StackFormat.{StackFormat}
use Rattle.command_words.specs.declared.report_options.StackFormat.TheVariants.{Human, Flame, Svg}
use Rattle.function_names.specs.Name.{program_names}
use Rattle.fdr_record.specs.declared.event.Event.{Event}
use Rattle.patch_script.specs.declared.command.PatchCommand.{PatchCommand}
use Rattle.stack_rebuild.specs.Stacks.{stack_of_threads}
use Rattle.traced_run.specs.Runs.{ThreadRun, events_of}
use Rattle.xray_image.specs.Program.{Program}
use Rattle.xray_program.specs.Outcomes.{Outcome}
use Rattle.xray_program.specs.Run.{RanBeside}
use Rattle.xray_program.specs.Setups.{limits_of}
use Rattle.xray_program.specs.Stack.{rows_text}
use Rattle.xray_program.specs.Taking.{ended_by}
use Rattle.xray_program.specs.Traced.{state_texts}

-- what went wrong with the recorder of a thread, if it has stopped
abbrev pub trouble_in : TrieState → (thread : ℕ) → Option (List ℕ)
trouble_in Live thread = None
trouble_in Full thread = Some (codes "profile: full " ++ decimal thread)
trouble_in Deep thread = Some (codes "profile: deep " ++ decimal thread)

-- the first of these
abbrev pub first_trouble : Option (List ℕ) → Option (List ℕ) → Option (List ℕ)
first_trouble None later = later
first_trouble (Some trouble) later = Some trouble

-- what went wrong with the least thread whose recorder has stopped, by the states of all recorders, from a thread on
abbrev pub trouble_of : (thread : ℕ) → List TrieState → Option (List ℕ)
trouble_of thread [] = None
trouble_of thread (state ∷ states) = first_trouble (trouble_in state thread) (trouble_of (thread + 1) states)

-- The state texts as they stand before a report in this format. Before a picture they are a comment of XML, so that all
-- that is printed is one file of SVG.
abbrev pub states_before : StackFormat → List ℕ → List ℕ
states_before Human states = states
states_before Flame states = states
states_before Svg states = codes "<!--\n" ++ states ++ codes "-->\n"

-- The state texts of threads, and the report on their events. If there is trouble, the state texts alone. No words say
-- which frequency the counter has.
abbrev pub printed_of : Option (List ℕ) → StackFormat → Program → (states : List ℕ) → List (List Event) → List ℕ
printed_of None format program states threads =
    states_before format states ++ rows_text format 0 (program_names program) (stack_of_threads threads)
printed_of (Some trouble) format program states threads = states

-- What comes of these runs. Their state texts are printed, and then the stacks of the events that their marks record. If
-- the recorder of a thread has stopped, only the state texts are printed, and the least such thread is named.
abbrev pub profile_of : ProfileOptions → Program → List ThreadRun → Outcome
profile_of options program runs =
    let threads = map events_of runs in
    let trouble = trouble_of 1 (map (state_after options.nodes) threads) in
    ended_by [] (printed_of trouble options.format program (state_texts 1 runs) threads) trouble

-- the threads have run beside a script, by the law of `run`
abbrev pub AreProfiled : ProfileOptions → Program → List PatchCommand → List ThreadRun → Type 0
AreProfiled options program script = RanBeside program script options.bounds.threads (limits_of options.bounds options.stamps)
