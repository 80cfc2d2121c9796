-- A traced thread ends as its plain run does.
use Rattle.std.proofs.Common.{◌≡◌, ℕ, List, refl, sym, subst, ap, ◌∙◌, length}
use Rattle.xray_image.specs.Program.{IsAccepted}
use Rattle.machine_step.specs.declared.end.End.{End}
use Rattle.machine_step.specs.declared.want.Want.{Want}
use Rattle.machine_step.specs.declared.want.Want.TheVariants.{Gate, Load as Loads, Done}
use Rattle.machine_step.specs.Ended.{EndsAsPlain}
use Rattle.machine_step.specs.Loads.{AreWanted, Load, marks_of}
use Rattle.machine_step.specs.PlainStep.{Passing, PlainRun, State, opening}
use Rattle.machine_step.specs.Traced.{HasLoaded, IsAtEnd, IsDone, StandsAs, Traced, sleds_passed, state_at}
use Rattle.machine_step.specs.Whole.{AreWhole}
use Rattle.machine_step.proofs.OneEnd.{same_run}
use Rattle.machine_step.proofs.OneUnit.{accepted_units}
use Rattle.machine_step.proofs.WholePassings.{all_whole}

-- a thread that wants nothing is at an end
at_end : (t : Traced) (want : Want) → t.want ≡ want → IsDone want → StandsAs t want → (end : End) × (t.want ≡ Done end) × IsAtEnd t end
at_end t (Gate passing) wants done stands = absurd done
at_end t (Loads word) wants done stands = absurd done
at_end t (Done end) wants done stands = (end, wants, stands)

pub ends_as_plain : (bytes : List ℕ) (t : Traced) (own passed : List Passing) (loads : List Load) (end : End) (last : State)
    → IsAccepted bytes t.program → HasLoaded t own loads → IsDone t.want → StandsAs t t.want
    → PlainRun t.program t.limits t.thread passed end last → EndsAsPlain t passed end last loads
ends_as_plain bytes t own passed loads end last accepted loaded done stands run =
    let here = at_end t t.want refl done stands in
    let ends : IsAtEnd t here.0 = here.2 in
    let there : State = state_at ends.address t in
    let one = accepted_units bytes t.program accepted in
    let from = opening t.program t.thread in
    let same = same_run t.program one t.limits t.thread ends.run.0 run.0 from ends.passed passed here.0 end there last ends.run.1 run.1 in
    let alike = same_run t.program one t.limits t.thread loaded.run.0 run.0 from own passed loaded.end end loaded.last last loaded.run.1 run.1 in
    let whole = all_whole t.program t.threads t.thread t.hold (sleds_passed own) loads loaded.wanted loaded.allowed in
    record {
      run = run;
      done = here.1 ∙ ap Done same.ends;
      registers = ap (λ (s : State). s.registers) same.lasts;
      zero_flag = ap (λ (s : State). s.zero_flag) same.lasts;
      stack = ap (λ (s : State). s.stack) same.lasts;
      output = ap (λ (s : State). s.output) same.lasts;
      instructions = ap (λ (s : State). s.instructions) same.lasts;
      passings = ap (λ (s : State). s.passings) same.lasts;
      wanted = subst (λ (ps : List Passing). AreWanted t.program t.threads t.thread t.hold (sleds_passed ps) loads) alike.passings loaded.wanted;
      each = sym ends.count ∙ ap length same.passings;
      marks = loaded.marks ∙ ap (λ (ps : List Passing). marks_of t.program t.threads t.thread t.hold (sleds_passed ps) loads) alike.passings;
      whole = subst (λ (ps : List Passing). AreWhole t.program t.threads t.thread t.hold (sleds_passed ps) loads) alike.passings whole;
    }
