use Rattle.std.proofs.Common.{map, arith, refl, below_more}
use Rattle.std.proofs.lemmas.Bool.{false≢true}
use Rattle.xray_image.specs.Table.{FitsAt}
use Rattle.xray_image.specs.Program.{IsEntryOf}
use Rattle.xray_image.specs.private.Views.{function_of, place_of, entry_of}
use Rattle.xray_image.proofs.Scans.{fit_at, fit_all, misfit_first}
use Rattle.xray_image.proofs.sled_map.check_entries.Goals as goal

pub returns-then-not-is_entry_of-clause-refused : goal.returns-then-not-is_entry_of-clause-refused
returns-then-not-is_entry_of-clause-refused c =
    misfit_first c.args.spots.now c.args.entries.now c.loop-number.number c.loop-number-test.true c.requires.spots (IsEntryOf (map function_of c.args.functions.now)) _
    c.loop-number.invariant (λ h. false≢true (c.if-not-is_entry_of.ensures.1 h))

pub loop-number-preserved : goal.loop-number-preserved
loop-number-preserved c =
    let i = c.loop-number.number in
    let is_entry = IsEntryOf (map function_of c.args.functions.now) in
    below_more (FitsAt (map place_of c.args.spots.now) (map entry_of c.args.entries.now) is_entry) i c.loop-number.invariant
    (fit_at c.args.spots.now c.args.entries.now i c.loop-number-test.true c.requires.spots is_entry (c.if-not-is_entry_of.ensures.0 refl))

pub returns-clause-fit : goal.returns-clause-fit
returns-clause-fit c =
    fit_all c.args.spots.now c.args.entries.now c.loop-number.number (IsEntryOf (map function_of c.args.functions.now)) (omega (arith, c.loop-number-test.false)) c.loop-number.invariant
