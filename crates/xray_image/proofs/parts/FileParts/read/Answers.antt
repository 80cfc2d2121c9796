use Rattle.std.proofs.Common.{◌+◌, List, [], length, map, inr, sym, ap, ◌∙◌}
use Rattle.std.proofs.lemmas.Bool.{false≢true, eq-eqb, eqb-true}
use Rattle.std.proofs.lemmas.List.{nil_from_length}
use Rattle.std.proofs.lemmas.Result.{err_from_is_err_and}
use Rattle.xray_image.specs.declared.map_entry.RawMapEntry.{RawMapEntry}
use Rattle.xray_image.specs.Container.{entries_from, map_distance}
use Rattle.xray_image.specs.private.Views.{function_of, entry_of, fields_of}
use Rattle.xray_image.proofs.FileParts.{short_code, short_functions, short_entries, trailing, whole, refused_by}
use Rattle.xray_image.proofs.parts.FileParts.read.Goals as goal

pub returns-then-following-code_length-clause-refused : goal.returns-then-following-code_length-clause-refused
returns-then-following-code_length-clause-refused c =
    let h = c.args.header.now in
    let is = c.requires.header in
    inr (short_code c.args.bytes.now c.requires.accepted.has_header c.split_at.result.1.now [] h.code_length h.functions h.entries
    c.split_at.ensures.back is.code_length is.functions is.entries c.if-following-code_length.true)

pub returns-in_err-functions-clause-refused : goal.returns-in_err-functions-clause-refused
returns-in_err-functions-clause-refused c =
    let h = c.args.header.now in
    let is = c.requires.header in
    let p = err_from_is_err_and c.from_residual.result c.from_residual.ensures.1 in
    rw (p.1, p.2) (refused_by c.args.bytes.now _ c.in_err-functions.ensures.refused
    (short_functions c.args.bytes.now c.requires.accepted.has_header c.split_at.result.1.now c.split_at-2.result.1.now h.code_length h.functions h.entries
    c.split_at.ensures.back is.code_length is.functions is.entries c.split_at-2.ensures.back c.if-following-code_length.false))

pub returns-in_err-raw-clause-refused : goal.returns-in_err-raw-clause-refused
returns-in_err-raw-clause-refused c =
    let h = c.args.header.now in
    let is = c.requires.header in
    let p = err_from_is_err_and c.from_residual-in_err-raw.result c.from_residual-in_err-raw.ensures.1 in
    rw (p.1, p.2) (refused_by c.args.bytes.now _ c.in_err-raw.ensures.refused
    (short_entries c.args.bytes.now c.requires.accepted.has_header c.split_at.result.1.now c.split_at-2.result.1.now h.code_length h.functions h.entries
    c.split_at.ensures.back is.code_length is.functions is.entries c.split_at-2.ensures.back c.if-following-code_length.false
    (map function_of c.in_ok-functions.functions.items) c.in_ok-functions.rest.now c.in_ok-functions.ensures.found))

pub returns-then-not-is_empty-clause-refused : goal.returns-then-not-is_empty-clause-refused
returns-then-not-is_empty-clause-refused c =
    let h = c.args.header.now in
    let is = c.requires.header in
    inr (trailing c.args.bytes.now c.requires.accepted.has_header c.split_at.result.1.now c.split_at-2.result.1.now h.code_length h.functions h.entries
    c.split_at.ensures.back is.code_length is.functions is.entries c.split_at-2.ensures.back c.if-following-code_length.false
    (map function_of c.in_ok-functions.functions.items) c.in_ok-functions.rest.now c.in_ok-functions.ensures.found
    (map fields_of c.in_ok-raw.raw.items) c.in_ok-raw.rest.now c.in_ok-raw.ensures.found
    (λ none. false≢true (sym c.if-not-is_empty.true ∙ c.is_empty.ensures ∙ eq-eqb _ 0 (ap length none))))

pub returns-clause-found : goal.returns-clause-found
returns-clause-found c =
    let h = c.args.header.now in
    let is = c.requires.header in
    whole c.args.bytes.now c.requires.accepted.has_header c.split_at.result.1.now c.split_at-2.result.1.now h.code_length h.functions h.entries
    c.split_at.ensures.back is.code_length is.functions is.entries c.split_at-2.ensures.back c.if-following-code_length.false
    (map function_of c.in_ok-functions.functions.items) c.in_ok-functions.rest.now c.in_ok-functions.ensures.found
    (map fields_of c.in_ok-raw.raw.items) c.in_ok-raw.rest.now c.in_ok-raw.ensures.found
    h.base c.split_at-2.result.0.now (map entry_of c.in_ok-entries_from.field-0.items) is.base c.split_at-2.ensures.front
    (c.in_ok-entries_from.ensures ∙ ap (λ (raw : List RawMapEntry). entries_from (h.base + map_distance) (map fields_of raw)) c.deref.ensures.value)
    (nil_from_length _ (eqb-true _ 0 (sym c.is_empty.ensures ∙ c.if-not-is_empty.false)))
