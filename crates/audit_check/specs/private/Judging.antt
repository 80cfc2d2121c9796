-- The judging of a thread's marks, one after the other.
use Rattle.std.specs.Prelude.{◌≡◌, ◌<◌, ◌≤◌, ◌==◌, ◌&&◌, ℕ, Bool, true, false, List, length, All, Option, Some, None, IfSome, min, nat_lt, slice_get}
use Rattle.xray_image.specs.Program.{Program}
use Rattle.handler_word.specs.declared.mark.Mark.{Mark}
use Rattle.patch_script.specs.declared.command.PatchCommand.{PatchCommand}
use Rattle.patch_script.specs.Bounds.{bound_of}
use Rattle.patch_script.specs.CodeAt.{code_at}
use Rattle.patch_script.specs.Micros.{hold_of, start_of, total_of}
use Rattle.machine_step.specs.Follows.{MarksFollow}
use Rattle.audit_check.specs.declared.follower.Follower.{Follower}
use Rattle.audit_check.specs.declared.switches.Awaited.{Awaited}
use Rattle.audit_check.specs.private.Switches.{IsCourseOf}
use Rattle.audit_check.specs.private.Turns.{IsLeast, IsMet}

-- it has turns for all words of its image, and its thread is one of the course's
pub record IsReady (f : Follower) : Type 0 where
  pub passed : length f.passed.heads.items ≡ length f.image.now.sleds
  pub heads : length f.course.now.switches.heads.items ≡ length f.image.now.sleds
  pub some : 0 < f.thread
  pub within : f.thread ≤ length f.course.now.switches.releases.items

-- it judges a thread beside this script
pub record Judges (program : Program) (threads : ℕ) (script : List PatchCommand) (f : Follower) : Type 0 where
  pub ready : IsReady f
  pub image : f.image.now ≡ program
  pub course : IsCourseOf program threads script f.course.now
  pub hold : f.hold ≡ hold_of f.thread script

-- it is the same but for its guesses
pub record SameButGuesses (old new : Follower) : Type 0 where
  pub same : new ≡ record old { passed = new.passed }
  pub heads : length new.passed.heads.items ≡ length old.passed.heads.items

-- ---- answers

-- the answer is the least place, within a bound, at which a word's value passes a test, or doesn't
abbrev pub FindsPlace : Follower → (Program → ℕ → ℕ) → (ℕ → Bool) → Bool → ℕ → ℕ → Option ℕ → Type 0
FindsPlace f word test wants from bound answer =
    (program : Program) (threads : ℕ) (script : List PatchCommand) → Judges program threads script f → bound ≤ total_of program threads script
    → IsLeast (IsMet (λ place. test (code_at program threads script place (word program threads))) wants from bound) answer

-- ---- bounds

-- a wait bounds a passing of a thread
abbrev pub bounds_passing : ℕ → ℕ → Awaited → Bool
bounds_passing thread passing awaited = (awaited.thread == thread) && nat_lt passing awaited.count

-- the waits that were passed don't bound a passing
abbrev pub ArePassed : Follower → ℕ → ℕ → Type 0
ArePassed f passing count =
    (i : ℕ) (awaited : Awaited) → i < count → slice_get f.course.now.awaits.items i ≡ Some awaited
    → bounds_passing f.thread passing awaited ≡ false

-- the first wait after them bounds the passing, if there is one
abbrev pub StopsAt : Follower → ℕ → ℕ → Type 0
StopsAt f passing count =
    (awaited : Awaited) → slice_get f.course.now.awaits.items count ≡ Some awaited → bounds_passing f.thread passing awaited ≡ true

-- the answer is the bound of a passing
abbrev pub FindsBound : Follower → ℕ → ℕ → Type 0
FindsBound f passing answer =
    (program : Program) (threads : ℕ) (script : List PatchCommand) → Judges program threads script f
    → answer ≡ bound_of program threads script f.thread passing

-- ---- what was judged

-- It has judged these marks of passings at these sleds: it has the least place at which they may have ended with these
-- marks, up to which the marks follow the script.
pub record HasJudged (program : Program) (threads : ℕ) (script : List PatchCommand) (f : Follower) (sleds : List ℕ) (marks : List Mark) : Type 0 where
  pub judges : Judges program threads script f
  pub count : f.passing ≡ length sleds
  pub same : length marks ≡ length sleds
  pub exist : All (λ sled. sled < length program.sleds) sleds
  pub within : f.thread ≤ threads
  pub place : IsLeast (λ place. MarksFollow program threads (code_at program threads script) (start_of program threads script)
      (bound_of program threads script f.thread) f.thread (hold_of f.thread script) sleds marks place) f.place
  pub low : IfSome f.place (λ place. place ≤ total_of program threads script)
  pub passed : ArePassed f f.passing f.awaits

-- the lesser of two places, of which either may be missing
abbrev pub lesser : Option ℕ → Option ℕ → Option ℕ
lesser None second = second
lesser (Some first) None = Some first
lesser (Some first) (Some second) = Some (min first second)
