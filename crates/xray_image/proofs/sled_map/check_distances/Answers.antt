use Rattle.std.proofs.Common.{◌∙◌, get_or, map, arith, refl, ap, below_more}
use Rattle.std.proofs.lemmas.Bool.{false≢true}
use Rattle.xray_image.specs.Table.{FitsAt}
use Rattle.xray_image.specs.Program.{Reaches, trampoline_of}
use Rattle.xray_image.specs.private.Views.{place_of, entry_of, trampolines_of}
use Rattle.xray_image.proofs.Entries.{near, near_back}
use Rattle.xray_image.proofs.Scans.{fit_at, fit_all, misfit_first, zero_spot, zero_line}
use Rattle.xray_image.proofs.sled_map.check_distances.Goals as goal

pub returns-then-not-reaches-clause-refused : goal.returns-then-not-reaches-clause-refused
returns-then-not-reaches-clause-refused c =
    let i = c.loop-number.number in
    let trampolines = trampolines_of c.args.trampolines.now in
    let is = c.of-trampoline.ensures ∙ ap (trampoline_of trampolines) c.kind_of.ensures in
    misfit_first c.args.spots.now c.args.entries.now i c.loop-number-test.true c.requires.spots (Reaches trampolines) _ c.loop-number.invariant
    (λ h. false≢true (c.if-not-reaches.ensures.1 (near_back trampolines (place_of (get_or c.args.spots.now i zero_spot)) (entry_of (get_or c.args.entries.now i zero_line)) c.of-trampoline.result is h)))

pub loop-number-preserved : goal.loop-number-preserved
loop-number-preserved c =
    let i = c.loop-number.number in
    let trampolines = trampolines_of c.args.trampolines.now in
    let is = c.of-trampoline.ensures ∙ ap (trampoline_of trampolines) c.kind_of.ensures in
    below_more (FitsAt (map place_of c.args.spots.now) (map entry_of c.args.entries.now) (Reaches trampolines)) i c.loop-number.invariant
    (fit_at c.args.spots.now c.args.entries.now i c.loop-number-test.true c.requires.spots (Reaches trampolines)
    (near trampolines (place_of (get_or c.args.spots.now i zero_spot)) (entry_of (get_or c.args.entries.now i zero_line)) c.of-trampoline.result is (c.if-not-reaches.ensures.0 refl)))

pub returns-clause-near : goal.returns-clause-near
returns-clause-near c =
    fit_all c.args.spots.now c.args.entries.now c.loop-number.number (Reaches (trampolines_of c.args.trampolines.now)) (omega (arith, c.loop-number-test.false)) c.loop-number.invariant
