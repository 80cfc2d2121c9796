use Rattle.std.proofs.Common.{Ok, Err, get_or, refl}
use Rattle.xray_io.specs.Text.{adds_nothing}
use Rattle.elf_file.specs.Views.{names_held}
use Rattle.program_map.specs.MapText.{map_line}
use Rattle.program_map.proofs.ItemTexts.{adds_broken, adds_next}
use Rattle.program_map.proofs.NamedLines.{adds_named}
use Rattle.program_map.proofs.line.add_sleds.Goals as goal

pub loop-sled-init : goal.loop-sled-init
loop-sled-init g c = (adds_nothing g.met.S.Sink.along_none c.args.to.now, c.of-known.ensures.known)

pub loop-sled-preserved : goal.loop-sled-preserved
loop-sled-preserved g c =
    let names = names_held c.args.names.now in (
      adds_next g.met.S.Sink.along_both (map_line names) c.args.sleds.now c.loop-sled.sled-index _ _ c.loop-sled-test.true refl c.loop-sled.invariant.0
          (adds_named {answer = Ok tt} names c.next-known.result.name.now (get_or c.args.sleds.now c.loop-sled.sled-index _) c.next-known.result.function c.next-known.ensures.known.same
          c.next-known.ensures.function c.in_ok-add_sled.ensures),
      c.next-known.ensures.known,
    )

pub returns-in_err-add_sled : goal.returns-in_err-add_sled
returns-in_err-add_sled g c =
    let names = names_held c.args.names.now in
    adds_broken g.met.S.Sink.along_both (map_line names) c.args.sleds.now c.loop-sled.sled-index _ _ c.loop-sled-test.true refl c.loop-sled.invariant.0
    (adds_named {answer = Err c.in_err-add_sled.field-0.0} names c.next-known.result.name.now (get_or c.args.sleds.now c.loop-sled.sled-index _) c.next-known.result.function c.next-known.ensures.known.same
    c.next-known.ensures.function c.in_err-add_sled.ensures) c.from_residual.result c.from_residual.ensures.1
