use Rattle.std.proofs.Common.{◌<◌, map, length, sym, ◌∙◌, arith, rules}
use Rattle.std.proofs.lemmas.List.{length-map, get_or-map}
use Rattle.xray_image.specs.Program.{id_of}
use Rattle.xray_image.specs.private.Views.{entry_of}
use Rattle.xray_image.proofs.EntryIds.{id_at, counted_more}
use Rattle.xray_image.proofs.ids.FunctionIds.new.Goals as goal

pub loop-entry-preserved : goal.loop-entry-preserved
loop-entry-preserved c =
    let entries = c.args.entries.now in
    let i = c.loop-entry.entry-index in
    let within : i < length entries = c.loop-entry-test.true in
    counted_more (map (λ f. f.start) c.args.functions.now) (map (λ e. e.function) entries) (map (λ e. id_of (map entry_of entries) e.function) entries) i _ c.in_ok-id.id
    c.loop-entry.last _ _ _ _ c.requires.in_order (omega (arith, length-map entries (λ e. e.function), within))
    (length-map entries (λ e. id_of (map entry_of entries) e.function) ∙ sym (length-map entries (λ e. e.function)))
    (sym (get_or-map (λ e. e.function) entries i _ 0 within)) (id_at entries i within)
    c.loop-entry.invariant c.in_ok-id.ensures.known c.in_ok-id.ensures.added c.in_ok-id.ensures.few c.in_ok-id.ensures.id (search rules)
