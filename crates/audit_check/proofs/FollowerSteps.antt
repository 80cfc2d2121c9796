-- A follower before its first passing, and after one more.
use Rattle.std.proofs.Common.{◌≡◌, ℕ, ◌+◌, ◌<◌, ◌≤◌, List, [], ◌∷◌, ◌++◌, length, Option, Some, None, refl, sym, ap, subst, ◌∙◌, arith}
use Rattle.std.specs.Prelude.{MatchOption, option_map}
use Rattle.xray_image.specs.Program.{Program}
use Rattle.handler_word.specs.declared.mark.Mark.{Mark}
use Rattle.patch_script.specs.declared.command.PatchCommand.{PatchCommand}
use Rattle.patch_script.specs.CodeAt.{code_at}
use Rattle.patch_script.specs.Micros.{hold_of, micros, total_of}
use Rattle.patch_script.proofs.Steps.{start_within}
use Rattle.machine_step.specs.Loads.{is_held_at}
use Rattle.audit_check.specs.declared.follower.Follower.{Follower}
use Rattle.audit_check.specs.declared.follower.Found.{Found}
use Rattle.audit_check.specs.Places.{found_by, passing_searches}
use Rattle.audit_check.specs.private.Judging.{ArePassed, FindsBound, HasJudged, IsReady, SameButGuesses}
use Rattle.audit_check.specs.private.Searches.{FindsNext, counted, end_of}
use Rattle.audit_check.specs.private.Switches.{IsCourseOf}
use Rattle.audit_check.specs.private.Turns.{IsLeast}
use Rattle.audit_check.specs.private.Ways.{Reaches, passing_tree}
use Rattle.audit_check.proofs.PassingBounds.{bound_within}
use Rattle.audit_check.proofs.WayToMark.{passing_is_least}
use Rattle.audit_check.proofs.JudgedMarks.{Same, judged_first, judged_more, same_judges, same_ready}

pub begins : (f : Follower) (program : Program) (threads : ℕ) (script : List PatchCommand) → f.image.now ≡ program → IsCourseOf program threads script f.course.now
    → length f.passed.heads.items ≡ length f.image.now.sleds → 0 < f.thread → f.thread ≤ threads → f.hold ≡ hold_of f.thread script → f.passing ≡ 0
    → f.awaits ≡ 0 → f.place ≡ Some f.course.now.start → HasJudged program threads script f [] []
begins f program threads script image course heads some within hold none no_awaits place =
    judged_first program threads script f
    (record {
      ready = record {
        passed = heads;
        heads = course.words.sleds ∙ ap (λ (p : Program). length p.sleds) (sym image);
        some = some;
        within = let count = course.words.threads_are in omega (arith, within, count);
      };
      image = image;
      course = course;
      hold = hold;
    })
    within none no_awaits (place ∙ ap Some course.start) (start_within program threads script)

-- ---- one more passing

-- it has passed waits
pub waited : (f g : Follower) → g ≡ record f { awaits = g.awaits } → Same f g
waited f g waits = record {
  image = ap (λ (x : Follower). x.image) waits;
  course = ap (λ (x : Follower). x.course) waits;
  thread = ap (λ (x : Follower). x.thread) waits;
  hold = ap (λ (x : Follower). x.hold) waits;
  heads = ap (λ (x : Follower). length x.passed.heads.items) waits;
}

pub waited_ready : (f g : Follower) → g ≡ record f { awaits = g.awaits } → IsReady f → IsReady g
waited_ready f g waits ready = same_ready f g (waited f g waits) ready

-- and then judged a mark
abbrev pub stepped : Follower → Option ℕ → Follower
stepped h place = record h { passing = h.passing + 1; place = place }

pub step_same : (f g h : Follower) (place : Option ℕ) → g ≡ record f { awaits = g.awaits } → SameButGuesses g h → Same f (stepped h place)
step_same f g h place waits guesses = record {
  image = ap (λ (x : Follower). x.image) guesses.same ∙ ap (λ (x : Follower). x.image) waits;
  course = ap (λ (x : Follower). x.course) guesses.same ∙ ap (λ (x : Follower). x.course) waits;
  thread = ap (λ (x : Follower). x.thread) guesses.same ∙ ap (λ (x : Follower). x.thread) waits;
  hold = ap (λ (x : Follower). x.hold) guesses.same ∙ ap (λ (x : Follower). x.hold) waits;
  heads = guesses.heads ∙ ap (λ (x : Follower). length x.passed.heads.items) waits;
}

pub step_passing : (f g h : Follower) → g ≡ record f { awaits = g.awaits } → SameButGuesses g h → h.passing + 1 ≡ f.passing + 1
step_passing f g h waits guesses =
    ap (λ n. n + 1) (ap (λ (x : Follower). x.passing) guesses.same ∙ ap (λ (x : Follower). x.passing) waits)

pub step_ready : (f g h : Follower) (place : Option ℕ) → g ≡ record f { awaits = g.awaits } → SameButGuesses g h → IsReady f → IsReady (stepped h place)
step_ready f g h place waits guesses ready = same_ready f (stepped h place) (step_same f g h place waits guesses) ready

pub judged_step : (f g h : Follower) (bound sled : ℕ) (mark : Mark) (found : Option Found) (place : Option ℕ) → place ≡ end_of found → g ≡ record f { awaits = g.awaits } → SameButGuesses g h
    → (ArePassed f f.passing f.awaits → FindsBound f f.passing bound) → (ArePassed f f.passing f.awaits → ArePassed g f.passing g.awaits)
    → FindsNext g sled mark bound found → sled < length f.image.now.sleds → (program : Program) (threads : ℕ) (script : List PatchCommand) (sleds : List ℕ) (marks : List Mark)
    → HasJudged program threads script f sleds marks
    → HasJudged program threads script (stepped h place) (sleds ++ sled ∷ []) (marks ++ mark ∷ [])
judged_step f g h bound sled mark found place place_is waits guesses finds passes next low program threads script sleds marks has =
    subst (λ (o : Option ℕ). HasJudged program threads script (stepped h o) (sleds ++ sled ∷ []) (marks ++ mark ∷ [])) (sym place_is)
    (judged_more program threads script f (stepped h (end_of found)) sleds marks bound sled mark (step_same f g h (end_of found) waits guesses)
    (step_passing f g h waits guesses) (finds has.passed) passed low at has)
  where
    passed : ArePassed h f.passing h.awaits
    passed = subst (λ (x : Follower). ArePassed x f.passing x.awaits) (sym guesses.same) (passes has.passed)

    within : bound ≤ total_of program threads script
    within =
        subst (λ b. b ≤ total_of program threads script) (sym (finds has.passed program threads script has.judges))
        (bound_within f.thread f.passing (micros program threads script))

    Least : Follower → Type 0
    Least x = MatchOption x.place (end_of found ≡ None) (λ from. IsLeast (Reaches (code_at program threads script) bound mark
        (passing_tree program threads x.thread (is_held_at x.hold x.passing) sled) from) (end_of found))

    -- where the last search ends
    end_counted : (o : Option (ℕ × List ℕ)) → found ≡ counted o → option_map (λ (f : ℕ × List ℕ). f.0) o ≡ end_of found
    end_counted None is = ap end_of (sym is)
    end_counted (Some f) is = ap end_of (sym is)

    least : (x : Follower) (before : Option ℕ) → MatchOption before (found ≡ None) (λ from. found ≡ counted (found_by bound from
        (passing_searches program threads (code_at program threads script) x.thread (is_held_at x.hold x.passing) sled mark)))
        → MatchOption before (end_of found ≡ None) (λ from. IsLeast (Reaches (code_at program threads script) bound mark
        (passing_tree program threads x.thread (is_held_at x.hold x.passing) sled) from) (end_of found))
    least x None none = ap end_of none
    least x (Some from) is =
        subst (λ (o : Option ℕ). IsLeast (Reaches (code_at program threads script) bound mark
        (passing_tree program threads x.thread (is_held_at x.hold x.passing) sled) from) o) (end_counted _ is)
        (passing_is_least program threads (code_at program threads script) bound x.thread (is_held_at x.hold x.passing) sled mark from _ refl)

    at : Least f
    at = subst Least waits (least g g.place (next program threads script (same_judges program threads script f g (waited f g waits) has.judges) within))
