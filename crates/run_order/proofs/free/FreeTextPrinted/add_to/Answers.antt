use Rattle.std.proofs.Common.{◌≡◌, ◌∙◌, ◌++◌, ℕ, List, [], Ok, append-nil, ap, arith, length, refl, subst, sym}
use Rattle.std.specs.List.{flat_map}
use Rattle.std.proofs.lemmas.Bool.Decides.{Decides-eqb}
use Rattle.std.proofs.lemmas.List.{nil_from_length}
use Rattle.xray_io.specs.Text.{AddsText, adds_failed, adds_more, adds_nothing, adds_within}
use Rattle.run_order.specs.FreeScripts.{free_text, lines_with_ends}
use Rattle.run_order.specs.private.Texts.{kept_text}
use Rattle.run_order.proofs.WholeLines.{kept_more, kept_texts}
use Rattle.run_order.proofs.free.FreeTextPrinted.add_to.Goals as goal

pub lines-init : goal.lines-init
lines-init g c = record { done = []; adds = adds_nothing g.met.S.Sink.along_none c.args.to.now; whole = refl; few = c.requires.ready }

pub lines-preserved : goal.lines-preserved
lines-preserved g c = record {
  done = c.lines.invariant.done ++ kept_text c.split_line.result.0.now;
  adds = adds_more g.met.S.Sink.along_both c.lines.invariant.adds c.in_ok-add_kept.ensures;
  whole =
      kept_more c.lines.invariant.done c.lines.left.now c.split_line.result.0.now c.split_line.result.1.now c.split_line.ensures.lines
      ∙ c.lines.invariant.whole;
  few = omega (arith, c.split_line.ensures.shorter, c.lines.invariant.few);
}

pub returns : goal.returns
returns g c =
    let left : List ℕ = c.lines.left.now in
    let done : List ℕ = c.lines.invariant.done in
    let none : left ≡ [] = nil_from_length left ((Decides-eqb (length left) 0).0 (sym c.lines-test.ensures)) in
    let whole : done ≡ free_text c.args.self.now.0.now =
    sym (append-nil done) ∙ ap (λ (bytes : List ℕ). done ++ flat_map kept_text (lines_with_ends bytes)) (sym none)
    ∙ c.lines.invariant.whole ∙ sym (kept_texts c.args.self.now.0.now) in
    record {
      adds =
          subst (λ (bytes : List ℕ). AddsText g.S.Sink.written g.S.Sink.faults g.S.Sink.along c.args.to.now c.lines.to bytes (Ok tt)) whole
          c.lines.invariant.adds;
    }

pub returns-in_err-add_kept : goal.returns-in_err-add_kept
returns-in_err-add_kept g c =
    let whole : (c.lines.invariant.done ++ kept_text c.split_line.result.0.now) ++ flat_map kept_text (lines_with_ends c.split_line.result.1.now)
    ≡ free_text c.args.self.now.0.now =
    kept_more c.lines.invariant.done c.lines.left.now c.split_line.result.0.now c.split_line.result.1.now c.split_line.ensures.lines
    ∙ c.lines.invariant.whole ∙ sym (kept_texts c.args.self.now.0.now) in
    record {
      adds =
          adds_failed
          (adds_within g.met.S.Sink.along_both (flat_map kept_text (lines_with_ends c.split_line.result.1.now)) c.lines.invariant.adds c.in_err-add_kept.ensures whole)
          c.from_residual.result c.from_residual.ensures.1;
    }
