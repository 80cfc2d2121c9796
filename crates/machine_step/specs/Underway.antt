-- A passing whose loads are made before the thread is told of them.
use Rattle.std.specs.Prelude.{◌≡◌, ◌<◌, ℕ, length}
use Rattle.sled_words.specs.declared.part.Part.TheVariants.{Head}
use Rattle.sled_words.specs.Words.{word_of}
use Rattle.machine_step.specs.declared.stage.Stage.TheVariants as stages
use Rattle.machine_step.specs.declared.underway.Underway.{Underway}
use Rattle.machine_step.specs.declared.want.Want.TheVariants.{Load as Loads}
use Rattle.machine_step.specs.private.Stages.{recording_at, word_at}
use Rattle.machine_step.specs.Traced.{Traced}

-- the thread, once it has come to where the passing is: it wants the word that the passing loads next
abbrev pub in_passing : Traced → Underway → Traced
in_passing t u = record t {
  recording = recording_at u.stage;
  want = Loads (word_at t.program t.threads t.thread u.sled u.stage);
}

-- the passing of a thread that wants the head of a sled, which the script doesn't hold there
pub record IsPassingOf (t : Traced) (u : Underway) : Type 0 where
  pub exists : u.sled < length t.program.sleds
  pub head : t.want ≡ Loads (word_of u.sled Head)
  pub free : u.stage ≡ stages.Release → ⊥

-- the thread wants the head of a sled
pub record WantsHead (t : Traced) : Type 0 where
  pub sled : ℕ
  pub exists : sled < length t.program.sleds
  pub head : t.want ≡ Loads (word_of sled Head)
