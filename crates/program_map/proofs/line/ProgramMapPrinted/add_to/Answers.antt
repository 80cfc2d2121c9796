use Rattle.std.proofs.Common.{◌++◌, List, ap, subst}
use Rattle.std.specs.Prelude.{codes}
use Rattle.std.specs.List.{flat_map}
use Rattle.xray_io.specs.Text.{AddsText, adds_failed, adds_more, adds_stop, adds_within}
use Rattle.elf_file.specs.Views.{names_held}
use Rattle.program_map.specs.declared.numbering.NumberedSled.{NumberedSled}
use Rattle.program_map.specs.MapText.{map_line}
use Rattle.program_map.proofs.line.ProgramMapPrinted.add_to.Goals as goal

pub returns-in_err-bytes : goal.returns-in_err-bytes
returns-in_err-bytes g c = record {
  adds =
      let rows = flat_map (map_line (names_held c.args.self.now.names)) c.args.self.now.sleds.items in
      adds_failed (adds_stop (rows ++ codes "...\n") c.in_err-bytes.ensures.adds) c.from_residual.result c.from_residual.ensures.1;
}

pub returns-in_err-add_sleds : goal.returns-in_err-add_sleds
returns-in_err-add_sleds g c = record {
  adds =
      adds_failed
      (adds_within g.met.S.Sink.along_both (codes "...\n") c.in_ok-bytes.ensures.adds c.in_err-add_sleds.ensures
      (ap (λ (sleds : List NumberedSled). codes "---\n" ++ flat_map (map_line (names_held c.args.self.now.names)) sleds ++ codes "...\n") c.deref.ensures.value))
      c.from_residual-in_err-add_sleds.result c.from_residual-in_err-add_sleds.ensures.1;
}

pub returns : goal.returns
returns g c = record {
  adds =
      let all = adds_more g.met.S.Sink.along_both (adds_more g.met.S.Sink.along_both c.in_ok-bytes.ensures.adds c.in_ok-add_sleds.ensures) c.bytes-2.ensures.adds in
      subst
      (λ (sleds : List NumberedSled). AddsText g.S.Sink.written g.S.Sink.faults g.S.Sink.along c.args.to.now c.bytes-2.new.self
      (codes "---\n" ++ flat_map (map_line (names_held c.args.self.now.names)) sleds ++ codes "...\n") c.bytes-2.result)
      c.deref.ensures.value all;
}
