-- What is found of a thread that was walked.
use Rattle.std.proofs.Common.{◌≡◌, ℕ, zero, suc, ◌==◌, Bool, true, false, List, [], ◌∷◌, ◌++◌, drop, length, map, take, refl, sym, ap, subst, ◌∙◌, append-nil}
use Rattle.std.specs.Prelude.{◌&&◌, ◌↔◌, IsTrue, is_some}
use Rattle.std.specs.List.{flat_map}
use Rattle.fdr_record.specs.declared.event.Event.{Event}
use Rattle.fdr_buffer.specs.Segments.{segments}
use Rattle.fdr_file.specs.Files.{block_bytes}
use Rattle.handler_word.specs.declared.mark.Mark.{Mark}
use Rattle.handler_word.specs.MarkList.{recorded_count}
use Rattle.machine_step.specs.declared.end.End.{End}
use Rattle.machine_step.specs.declared.setup.Setup.{Setup}
use Rattle.machine_step.specs.Events.{recorded}
use Rattle.machine_step.specs.PlainStep.{Passing}
use Rattle.machine_step.specs.Traced.{sleds_passed}
use Rattle.traced_run.specs.Kept.{buffer_of, segment_count, stamp_of}
use Rattle.traced_run.specs.Runs.{ThreadRun, events_of}
use Rattle.trace_flush.specs.Audit.{ThreadAudit}
use Rattle.audit_check.specs.declared.blocks.Recording.{Recording}
use Rattle.audit_check.specs.declared.blocks.TraceLeft.{TraceLeft}
use Rattle.audit_check.specs.declared.follower.Follower.{Follower}
use Rattle.audit_check.specs.declared.judging.Agreement.{Agreement}
use Rattle.audit_check.specs.private.Blocks.{HasCompared, HasNoted, kept_bytes, whole_of}
use Rattle.audit_check.specs.private.Judging.{HasJudged}
use Rattle.audit_check.specs.private.Walks.{AreCounted, HasWalked, IsFound, Way, first_marks}
use Rattle.audit_check.specs.Rows.{EndsAgree, MarksAgree}
use Rattle.audit_check.proofs.FoundAtEnd.{events_are, marks_found}
use Rattle.audit_check.proofs.LawfulRuns.{recorded_is}

-- ---- before the first passing

no_events : (passed : List Passing) → recorded passed [] ≡ []
no_events [] = refl
no_events (p ∷ passed) = refl

nothing_left : {X : Type 0} (n : ℕ) → drop {A = X} n [] ≡ []
nothing_left zero = refl
nothing_left (suc n) = refl

no_bytes : (setup : Setup) (lost thread : ℕ) → kept_bytes setup lost thread [] ≡ []
no_bytes setup lost thread = ap (λ (l : List (ℕ × List Event)). flat_map block_bytes (map (buffer_of (stamp_of setup) thread) l)) (nothing_left lost)

-- a trace was compared with something
record SomeCompared (t : TraceLeft) : Type 0 where
  trace : List ℕ
  before : List ℕ
  compared : HasCompared trace before t

some_compared : (t : TraceLeft) → SomeCompared t
some_compared t = by t.same refl
  where
    by : (b : Bool) → t.same ≡ b → SomeCompared t
    by true e = record {
      trace = t.left.now;
      before = [];
      compared = record { same = λ same. refl; other = λ other. absurd (let q : true ≡ false = sym e ∙ other in cc) };
    }
    by false e = record {
      trace = [];
      before = 0 ∷ [];
      compared = record { same = λ same. absurd (let q : false ≡ true = sym e ∙ same in cc); other = λ other rest is. absurd cc };
    }

-- a way with another trace
abbrev pub along : Way → List ℕ → List ℕ → Way
along way trace before = record way { trace = trace; before = before }

-- ---- at the end of the walk

module _ (way : Way) (said : ThreadAudit) (run : ThreadRun) (marks : way.marks ≡ said.marks) (same : run.marks ≡ said.marks) (f f' : Follower) (r r' : Recording)
    (t t' t'' : TraceLeft) (judged : HasJudged way.program way.setup.threads way.script f [] []) (thread : f.thread ≡ way.thread)
    (noted : HasNoted way.setup way.thread way.lost [] r)
    (walk : (trace before : List ℕ) → HasWalked (along way trace before) run.passed 0 f r t → HasWalked (along way trace before) run.passed (length run.passed) f' r' t')
    (segs : ℕ) (counts : (setup : Setup) (thread lost : ℕ) (events : List Event) → HasNoted setup thread lost events r' → segs ≡ length (segments setup.size events))
    (compares : (setup : Setup) (thread lost : ℕ) (events : List Event) (all before : List ℕ) → HasNoted setup thread lost events r'
    → HasCompared all (before ++ kept_bytes setup lost thread (whole_of setup.size events)) t'
    → HasCompared all (before ++ kept_bytes setup lost thread (segments setup.size events)) t'') where
  -- the events of the marks that are stated
  abbrev events : List Event
  events = recorded run.passed (first_marks (length run.passed) way.marks)

  start : (trace before : List ℕ) → HasCompared trace before t → HasWalked (along way trace before) run.passed 0 f r t
  start trace before compared = record {
    thread_is = thread;
    judged = judged;
    noted = subst (λ (es : List Event). HasNoted way.setup way.thread way.lost es r) (sym (no_events run.passed)) noted;
    compared = subst (λ (es : List Event). HasCompared trace (before ++ kept_bytes way.setup way.lost way.thread (whole_of way.setup.size es)) t)
        (sym (no_events run.passed))
        (subst (λ (l : List ℕ). HasCompared trace l t)
        (sym (append-nil before) ∙ ap (λ (l : List ℕ). before ++ l) (sym (no_bytes way.setup way.lost way.thread))) compared);
  }

  walked : (trace before : List ℕ) → HasCompared trace before t → HasWalked (along way trace before) run.passed (length run.passed) f' r' t'
  walked trace before compared = walk trace before (start trace before compared)

  -- whatever the trace is
  any_walked : HasWalked (along way (some_compared t).trace (some_compared t).before) run.passed (length run.passed) f' r' t'
  any_walked = walked (some_compared t).trace (some_compared t).before (some_compared t).compared

  judged_all : HasJudged way.program way.setup.threads way.script f' (sleds_passed (take (length run.passed) run.passed)) (first_marks (length run.passed) said.marks)
  judged_all =
      subst (λ (ms : List Mark). HasJudged way.program way.setup.threads way.script f' (sleds_passed (take (length run.passed) run.passed))
      (first_marks (length run.passed) ms)) marks any_walked.judged

  events_same : EndsAgree said run → MarksAgree way.program way.setup.threads way.script way.thread said run → events ≡ events_of run
  events_same ends agree =
      ap (λ (ms : List Mark). recorded run.passed (first_marks (length run.passed) ms)) marks ∙ events_are said run same (agree.each ∙ ends.passings)

  pub found : (agreement : Agreement) (end : End) (passings : ℕ) → end ≡ run.end → passings ≡ length run.passed
      → IsTrue agreement.ends ↔ (said.end ≡ end) × (said.passings ≡ passings)
      → agreement.marks ≡ ((length said.marks == said.passings) && is_some f'.place)
      → IsTrue agreement.counts ↔ AreCounted said segs → IsFound way said run agreement t t''
  found agreement end passings end_is passings_are by_ends by_marks by_counts = record {
    ends = (
      (λ is. let both = by_ends.0 is in record { end = both.0 ∙ end_is; passings = both.1 ∙ passings_are }),
      (λ agree. by_ends.1 (agree.end ∙ sym end_is, agree.passings ∙ sym passings_are)),
    );
    marks = λ ends.
        subst (λ b. IsTrue b ↔ MarksAgree way.program way.setup.threads way.script way.thread said run) (sym by_marks)
        (marks_found way.program way.setup.threads way.script way.thread f' any_walked.thread_is said run judged_all ends);
    counts = λ ends agree.
        let segments_are : segs ≡ segment_count way.setup.size run =
        counts way.setup way.thread way.lost events any_walked.noted ∙ ap (λ (es : List Event). length (segments way.setup.size es)) (events_same ends agree) in
        let recorded_are : recorded_count said.marks ≡ length (events_of run) =
        ap recorded_count (sym same) ∙ recorded_is run.passed run.marks (ap length same ∙ (agree.each ∙ ends.passings)) in (
          (λ is. let all = by_counts.0 is in record {
            recorded = all.recorded ∙ recorded_are;
            segments = all.segments_are ∙ segments_are;
            below = all.last.below;
            none = all.last.none;
          }),
          (λ counted. by_counts.1 (record {
            recorded = counted.recorded ∙ sym recorded_are;
            segments_are = counted.segments ∙ sym segments_are;
            last = record { below = counted.below; none = counted.none };
          })),
        );
    compared = λ ends agree compared.
        let all = walked way.trace way.before compared in
        subst (λ (es : List Event). HasCompared way.trace (way.before ++ kept_bytes way.setup way.lost way.thread (segments way.setup.size es)) t'')
        (events_same ends agree)
        (compares way.setup way.thread way.lost events way.trace way.before all.noted all.compared);
  }
