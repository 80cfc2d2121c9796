use Rattle.std.proofs.Common.{◌≤◌, length, refl, sym, subst, arith}
use Rattle.std.proofs.lemmas.List.{length-map}
use Rattle.std.proofs.lemmas.Option.{slice_get_read}
use Rattle.patch_script.specs.declared.placed.Placed.{Placed}
use Rattle.patch_script.specs.private.Placing.{line_in}
use Rattle.patch_script.proofs.Places.{found_step}
use Rattle.patch_script.proofs.placed.PlacedCommands.micro_of.Goals as goal

pub overflow_cast-number : goal.overflow_cast-number
overflow_cast-number c = omega (arith, c.requires.at.within, length-map c.args.self.now.commands.items line_in, c.requires.sound.room)

pub step-requires-clause-placed : goal.step-requires-clause-placed
step-requires-clause-placed c =
    slice_get_read c.args.self.now.commands.items (length c.args.self.now.commands.items) c.args.number c.index-placed.result.now refl c.requires.at.within c.index-placed.ensures

pub returns : goal.returns
returns c =
    let one = c.index-placed.result.now in
    let items = c.args.self.now.commands.items in
    let at = slice_get_read items (length items) c.args.number one refl c.requires.at.within c.index-placed.ensures in
    let begun = subst (λ (p : Placed). p.before ≤ c.args.place) (sym c.index-placed.ensures) (c.requires.at.begins one) in
    found_step c.args.self.now c.requires.sound c.args.place c.args.number one c.step.result at begun c.step.ensures
