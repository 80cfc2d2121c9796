use Rattle.std.proofs.Common.{◌∙◌, sym, ap}
use Rattle.std.specs.Prelude.{option_map}
use Rattle.map_names.specs.private.Parts.{entry_read}
use Rattle.map_names.proofs.TakenLines.{line_listed}
use Rattle.map_names.proofs.reading.Draft.take_entry.Goals as goal

pub returns : goal.returns
returns c = λ entries before.
    line_listed entries c.args.self.now _ c.args.line.now.number c.args.line.now.bytes.now (entry_read c.in-Some.entry) before c.requires
    (sym c.eq-ends.ensures ∙ c.if-ends.false)
    (sym c.in_ok-entry.ensures ∙ ap (option_map entry_read) c.in-Some.is)
    c.in_ok-add.ensures c.requires
