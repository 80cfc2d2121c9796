use Rattle.std.proofs.Common.{◌≡◌, ℕ, List, refl, subst, sym}
use Rattle.std.specs.Prelude.{IfOk}
use Rattle.asm_text.specs.Programs.{program_said}
use Rattle.xray_image.specs.FaultWords.{image_words}
use Rattle.xray_image.specs.Program.{IsAccepted, Program}
use Rattle.xray_image.specs.declared.fault.ImageFault.TheVariants as faults
use Rattle.xray_program.proofs.SoakReads.{each_value, program_in, program_same, text_unrefused, unrefused_by}
use Rattle.xray_program.proofs.drawn.image_of.Goals as goal

pub unrefused-requires : goal.unrefused-requires
unrefused-requires c = text_unrefused c.args.text.now c.requires.said.0 c.assemble.result c.requires.said.1 c.assemble.ensures.made

pub unrefused-requires-2 : goal.unrefused-requires-2
unrefused-requires-2 c =
    let of = program_in c.args.text.now c.assemble.result c.in_ok-file.file c.assemble.ensures.accepted c.in_ok-file.ensures in
    let accepted = subst (λ (bytes : List ℕ). IsAccepted bytes (program_said 1 of.said)) (sym c.deref.ensures.value) of.accepted in
    unrefused_by image_words faults.NoMemory refl c.read_image.result (program_said 1 of.said)
    (c.read_image.ensures.complete (program_said 1 of.said) accepted)

pub returns : goal.returns
returns c = λ said is.
    let of = program_in c.args.text.now c.assemble.result c.in_ok-file.file c.assemble.ensures.accepted c.in_ok-file.ensures in
    let accepted = subst (λ (bytes : List ℕ). IsAccepted bytes (program_said 1 of.said)) (sym c.deref.ensures.value) of.accepted in
    subst (λ (p : Program). IfOk c.unrefused-2.result (λ program. program ≡ p)) (program_same c.args.text.now c.in_ok-file.file.items said of is)
    (each_value faults.NoMemory c.unrefused-2.result c.read_image.result (program_said 1 of.said) c.unrefused-2.ensures
    (c.read_image.ensures.complete (program_said 1 of.said) accepted))
