use Rattle.std.proofs.Common.{◌≡◌, List, map, sym, ap, subst, ◌∙◌}
use Rattle.std.specs.Prelude.{All, true}
use Rattle.std.specs.List.{zip}
use Rattle.xray_image.specs.declared.code_units.SledSpot.{SledSpot}
use Rattle.xray_image.specs.declared.parts.FunctionEntry.{FunctionEntry}
use Rattle.xray_image.specs.declared.map_entry.SledEntry.{SledEntry}
use Rattle.xray_image.specs.Program.{is_name_byte, id_of, sled_of, IsAccepted}
use Rattle.xray_image.specs.private.UnitTable.{units_in}
use Rattle.xray_image.specs.private.Views.{entry_of, function_of, place_of}
use Rattle.xray_image.proofs.Entries.{ascend_entries}
use Rattle.xray_image.proofs.ImageMade.{names_all, known, falling, numbers, program_made}
use Rattle.xray_image.proofs.JudgedRows.{ascend, few_entries, kinds_all}
use Rattle.xray_image.proofs.image.reading.image_of.Goals as goal

pub named_functions-requires : goal.named_functions-requires
named_functions-requires c =
    subst (λ (fs : List FunctionEntry). All (λ f. All (λ b. is_name_byte b ≡ true) f.name) (map function_of fs)) (sym c.deref.ensures.value)
    (names_all c.args.header.now.base (units_in c.args.code.units) (map function_of c.args.parts.now.functions.items) c.requires.judged.functions)

pub new-requires-clause-ascend : goal.new-requires-clause-ascend
new-requires-clause-ascend c =
    ascend_entries c.deref-2.result.now (ascend c.args.header.now c.args.parts.now c.args.code c.requires.judged.functions c.deref-2.result.now c.deref-2.ensures.value)

pub new-requires-clause-known : goal.new-requires-clause-known
new-requires-clause-known c =
    known c.args.header.now c.args.parts.now c.args.code c.requires.judged c.deref-2.result.now c.deref-3.result.now c.deref-2.ensures.value c.deref-3.ensures.value

pub new-requires-clause-in_order : goal.new-requires-clause-in_order
new-requires-clause-in_order c =
    falling c.args.header.now c.args.parts.now c.args.code c.requires.judged c.deref-3.result.now c.deref-3.ensures.value c.requires.ascend

pub read_sleds-requires-clause-spots : goal.read_sleds-requires-clause-spots
read_sleds-requires-clause-spots c =
    few_entries c.args.header.now c.args.parts.now c.args.code c.deref-4.result.now c.deref-5.result.now c.deref-4.ensures.value c.deref-5.ensures.value c.requires.judged.order

pub read_sleds-requires-clause-kinds : goal.read_sleds-requires-clause-kinds
read_sleds-requires-clause-kinds c =
    kinds_all c.args.header.now c.args.parts.now c.args.code c.deref-4.result.now c.deref-5.result.now c.deref-4.ensures.value c.deref-5.ensures.value c.requires.judged.order c.requires.judged.entries_fit

pub read_sleds-requires-clause-ids : goal.read_sleds-requires-clause-ids
read_sleds-requires-clause-ids c =
    c.deref-6.ensures.value ∙ c.in_ok-ids.ensures.of_entries
    ∙ ap (λ (ls : List SledEntry). map (λ e. id_of (map entry_of ls) e.function) ls) (c.deref-3.ensures.value ∙ sym c.deref-5.ensures.value)

pub invariant_of-result : goal.invariant_of-result
invariant_of-result c =
    let parts = c.args.parts.now in
    let sleds_are = c.in_ok-sleds.ensures
    ∙ ap (λ (ss : List SledSpot). map (sled_of (map entry_of c.deref-5.result.now)) (zip (map place_of ss) (map entry_of c.deref-5.result.now))) c.deref-4.ensures.value
    ∙ ap (λ (ls : List SledEntry). map (sled_of (map entry_of ls)) (zip (map place_of c.args.code.sleds.items) (map entry_of ls))) c.deref-5.ensures.value in
    let named_is = c.in_ok-functions.ensures ∙ ap (map function_of) c.deref.ensures.value in
    let made = program_made c.args.header.now parts c.args.code c.index.result.now c.args.code.units.code.items c.in_ok-functions.functions.items c.in_ok-sleds.sleds.items
    c.requires.entry c.index.ensures c.requires.code named_is sleds_are in
    record {
      bytes = c.requires.accepted.0;
      accepted = subst (IsAccepted c.requires.accepted.0) (sym made) c.requires.accepted.1;
      index = c.requires.index;
      table = c.requires.table;
      sound = c.requires.sound;
      ids = numbers c.args.header.now parts c.args.code c.requires.judged c.deref-2.result.now c.deref-3.result.now c.in_ok-functions.functions.items c.in_ok-sleds.sleds.items c.in_ok-ids.ids.functions.items
          c.deref-2.ensures.value c.deref-3.ensures.value named_is sleds_are c.in_ok-ids.ensures.functions;
    }

pub returns : goal.returns
returns c =
    let sleds_are = c.in_ok-sleds.ensures
    ∙ ap (λ (ss : List SledSpot). map (sled_of (map entry_of c.deref-5.result.now)) (zip (map place_of ss) (map entry_of c.deref-5.result.now))) c.deref-4.ensures.value
    ∙ ap (λ (ls : List SledEntry). map (sled_of (map entry_of ls)) (zip (map place_of c.args.code.sleds.items) (map entry_of ls))) c.deref-5.ensures.value in
    program_made c.args.header.now c.args.parts.now c.args.code c.index.result.now c.args.code.units.code.items c.in_ok-functions.functions.items c.in_ok-sleds.sleds.items
    c.requires.entry c.index.ensures c.requires.code (c.in_ok-functions.ensures ∙ ap (map function_of) c.deref.ensures.value) sleds_are
