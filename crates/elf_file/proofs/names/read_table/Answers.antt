use Rattle.std.proofs.Common.{◌∙◌, ◌%◌, length, sym, subst, arith, eq-eqb}
use Rattle.elf_file.specs.Readings.{IsElfReading}
use Rattle.elf_file.specs.Views.{names_held}
use Rattle.elf_file.proofs.TableSteps.{table_steps}
use Rattle.elf_file.proofs.names.read_table.Goals as goal

pub returns : goal.returns
returns c =
    subst (λ s. IsElfReading names_held s c.read_symbols.result)
    (sym (table_steps c.args.file.now c.args.sections.now c.args.section c.in-Some.strings c.in_ok-table.table.now c.in_ok-names.names.now
    c.in_ok-table.ensures.said (eq-eqb (length c.in_ok-table.table.now % 24) 0 (omega arith)) (sym c.section_numbered.ensures ∙ c.in-Some.is) c.in_ok-names.ensures.said)) c.read_symbols.ensures
