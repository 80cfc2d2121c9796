use Rattle.std.proofs.Common.{◌≡◌, ◌+◌, ◌∷◌, ◌++◌, List, ℕ, drop, ap, ◌∙◌, arith, append_assoc, zero-add}
use Rattle.xray_io.specs.Text.{adds_more, adds_stop, adds_within, adds_failed}
use Rattle.handler_word.specs.Runs.{run_text, runs_text}
use Rattle.handler_word.proofs.MarkRuns.{later_runs, first_and_later, next_and_later}
use Rattle.handler_word.proofs.runs.MarksPrinted.add_to.Goals as goal

pub returns-in_err-add_run : goal.returns-in_err-add_run
returns-in_err-add_run g c = record {
  adds =
      let marks = c.args.self.now.items in
      let run = c.run_at-first.result in
      let following = drop run.length marks in
      let whole = first_and_later marks (run.mark, run.length) following (omega arith) (rw zero-add at c.run_at-first.ensures.run) in
      let broken = rw whole at (adds_stop (later_runs following) c.in_err-add_run.ensures) in
      adds_failed broken c.from_residual.result c.from_residual.ensures.1;
}

pub runs-init : goal.runs-init
runs-init g c =
    let marks = c.args.self.now.items in
    let run = c.run_at-first.result in
    record {
      within = omega arith;
      has = record {
        given = run_text (run.mark, run.length);
        adds = c.in_ok-add_run.ensures;
        whole = first_and_later marks (run.mark, run.length) (drop run.length marks) (omega arith) (rw zero-add at c.run_at-first.ensures.run);
      };
    }

pub returns-in_err-add_run-2 : goal.returns-in_err-add_run-2
returns-in_err-add_run-2 g c = record {
  adds =
      let marks = c.args.self.now.items in
      let run = c.run_at-run.result in
      let has = c.runs.invariant.has in
      let following = drop (c.runs.end + run.length) marks in
      let text = 32 ∷ run_text (run.mark, run.length) in
      let whole : (has.given ++ text) ++ later_runs following ≡ runs_text marks =
      append_assoc has.given text (later_runs following)
      ∙ (ap (λ (t : List ℕ). has.given ++ t) (next_and_later (drop c.runs.end marks) (run.mark, run.length) following c.run_at-run.ensures.run) ∙ has.whole) in
      adds_failed (adds_within g.met.S.Sink.along_both (later_runs following) has.adds c.in_err-add_run-2.ensures whole) c.from_residual-in_err-add_run-2.result c.from_residual-in_err-add_run-2.ensures.1;
}

pub runs-preserved : goal.runs-preserved
runs-preserved g c =
    let marks = c.args.self.now.items in
    let run = c.run_at-run.result in
    let has = c.runs.invariant.has in
    let following = drop (c.runs.end + run.length) marks in
    let text = 32 ∷ run_text (run.mark, run.length) in
    record {
      within = c.run_at-run.ensures.within;
      has = record {
        given = has.given ++ text;
        adds = adds_more g.met.S.Sink.along_both has.adds c.in_ok-add_run-2.ensures;
        whole = append_assoc has.given text (later_runs following)
            ∙ (ap (λ (t : List ℕ). has.given ++ t) (next_and_later (drop c.runs.end marks) (run.mark, run.length) following c.run_at-run.ensures.run) ∙ has.whole);
      };
    }
