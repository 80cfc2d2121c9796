-- What the words of `profile` say, and what its threads have at their ends.
use Rattle.std.specs.Prelude.{◌≡◌, ◌+◌, ℕ, List, length, map, Some, slice_get}
use Rattle.call_trie.specs.Merging.{AllStandFor}
use Rattle.call_trie.specs.Tries.{Trie, state_after}
use Rattle.command_words.specs.Words.{Command}
use Rattle.command_words.specs.Words as words
use Rattle.command_words.specs.declared.profile_options.ProfileOptions.{ProfileOptions}
use Rattle.machine_step.specs.PlainStep.{PlainRun}
use Rattle.machine_step.specs.Traced.{Traced}
use Rattle.patch_script.specs.Plans.{Plan}
use Rattle.patch_script.specs.Refusals.{commands_of}
use Rattle.traced_run.specs.Following.{AllMarksFollow}
use Rattle.traced_run.specs.Left.{HasRun}
use Rattle.traced_run.specs.Runs.{EachThread, ThreadRun, events_of}
use Rattle.xray_image.specs.Program.{Program}
use Rattle.xray_program.specs.Setups.{limits_of}
use Rattle.xray_program.specs.declared.run_inputs.Profile.{Profile}

-- what the words say
abbrev pub said_by : Profile → Command
said_by profile = words.Profile profile.image.now profile.script.now profile.options

-- There are runs such that these are their threads at their ends, and these recorders stand for the events of the
-- threads. So they have the states that these events determine. Each thread has run as its plain run does, and its marks
-- follow the script.
pub record HaveProfiled (options : ProfileOptions) (program : Program) (plan : Plan) (cpus : List Traced) (tries : List Trie) : Type 0 where
  pub runs : List ThreadRun
  pub threads : length runs ≡ options.bounds.threads
  pub plain : EachThread runs (λ number run. PlainRun program (limits_of options.bounds options.stamps) number run.passed run.end run.last)
  pub follow : AllMarksFollow program options.bounds.threads (commands_of plan.lines) runs
  pub count : length cpus ≡ length runs
  pub cpus_are : (i : ℕ) (run : ThreadRun) (t : Traced) → slice_get runs i ≡ Some run → slice_get cpus i ≡ Some t → HasRun (i + 1) run t
  pub stand : AllStandFor tries (map events_of runs)
  pub states : map (λ (trie : Trie). trie.state) tries ≡ map (state_after options.nodes) (map events_of runs)
