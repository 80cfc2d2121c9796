use Rattle.std.proofs.Common.{◌≡◌, ◌++◌, ◌∙◌, ℕ, List, [], Ok, ap, append_assoc, refl, subst, sym}
use Rattle.std.specs.List.{flat_map}
use Rattle.std.proofs.lemmas.Grind.{flat_map-append}
use Rattle.xray_io.specs.Text.{AddsText, adds_failed, adds_more, adds_nothing, adds_within}
use Rattle.map_names.specs.Naming.{no_names}
use Rattle.function_names.specs.Name.{callee_text}
use Rattle.function_names.proofs.name.add_callee_numbers.Goals as goal

pub adding-init : goal.adding-init
adding-init g c = ([], refl, adds_nothing g.met.S.Sink.along_none c.args.text.now)

pub adding-preserved : goal.adding-preserved
adding-preserved g c =
    let f = callee_text no_names in
    let done = c.adding.invariant.0 in
    let some = c.split_at.result.0.now in
    let rest = c.split_at.result.1.now in (
      done ++ some,
      c.adding.invariant.1 ∙ (ap (λ (ids : List ℕ). done ++ ids) c.split_at.ensures.by_index.0 ∙ sym (append_assoc done some rest)),
      subst (λ (text : List ℕ). AddsText g.S.Sink.written g.S.Sink.faults g.S.Sink.along c.args.text.now c.add_some_numbers.new.text text (Ok tt))
          (sym (flat_map-append f done some))
          (adds_more g.met.S.Sink.along_both c.adding.invariant.2 c.in_ok-add_some_numbers.ensures),
    )

pub returns-in_err-add_some_numbers : goal.returns-in_err-add_some_numbers
returns-in_err-add_some_numbers g c =
    let f = callee_text no_names in
    let done = c.adding.invariant.0 in
    let some = c.split_at.result.0.now in
    let rest = c.split_at.result.1.now in
    let ids : (done ++ some) ++ rest ≡ c.args.ids.now =
    append_assoc done some rest ∙ sym (c.adding.invariant.1 ∙ ap (λ (left : List ℕ). done ++ left) c.split_at.ensures.by_index.0) in
    let whole : (flat_map f done ++ flat_map f some) ++ flat_map f rest ≡ flat_map f c.args.ids.now =
    ap (λ (text : List ℕ). text ++ flat_map f rest) (sym (flat_map-append f done some)) ∙ sym (flat_map-append f (done ++ some) rest) ∙ ap (flat_map f) ids in
    adds_failed (adds_within g.met.S.Sink.along_both (flat_map f rest) c.adding.invariant.2 c.in_err-add_some_numbers.ensures whole)
    c.from_residual.result c.from_residual.ensures.1
