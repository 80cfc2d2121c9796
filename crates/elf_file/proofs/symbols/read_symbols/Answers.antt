use Rattle.std.proofs.Common.{◌∙◌, ◌/◌, sym, ap, length, inl, inr}
use Rattle.elf_file.specs.Symbols.{symbol_rows}
use Rattle.elf_file.proofs.SymbolSteps.{table_refused, took_ok}
use Rattle.elf_file.proofs.Turns.{turn_next}
use Rattle.elf_file.proofs.symbols.read_symbols.Goals as goal

pub returns-in-Err : goal.returns-in-Err
returns-in-Err c =
    let inv = c.loop-number.invariant in
    elim (c.in-Err.ensures.took inv.1.0 inv.1.1) [
      | inl none ↦ inl none
      | inr row ↦
          inr (table_refused c.args.offset c.args.table.now c.args.names.now inv.1.0 c.loop-number.number c.in-Err.fault c.loop-number-test.true inv.1.2
          (ap (λ names. symbol_rows c.args.offset c.args.table.now names inv.1.0 c.loop-number.number) (sym inv.0) ∙ row))
    ]

pub loop-number-preserved : goal.loop-number-preserved
loop-number-preserved c =
    let inv = c.loop-number.invariant in
    let t = took_ok c.take_symbol.new.self c.in-Ok.field-0 _ (c.in-Ok.ensures.took inv.1.0 inv.1.1) in (
      c.take_symbol.ensures.names ∙ inv.0,
      (
        t.0,
        t.2,
        inv.1.2
            ∙ turn_next (symbol_rows c.args.offset c.args.table.now c.args.names.now) inv.1.0 t.0 c.loop-number.number (length c.args.table.now / 24) c.loop-number-test.true
            (ap (λ names. symbol_rows c.args.offset c.args.table.now names inv.1.0 c.loop-number.number) (sym inv.0) ∙ t.1),
      ),
    )
