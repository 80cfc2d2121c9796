use Rattle.std.proofs.Common.{◌∙◌, ◌+◌, ◌≤◌, Bool, List, ℕ, None, Some, Option, length, drop, sym, ap, arith}
use Rattle.std.specs.Prelude.{if◌then◌else◌}
use Rattle.map_names.specs.Entries.{quoted_from}
use Rattle.map_names.specs.private.Parts.{added_by}
use Rattle.map_names.proofs.Letters.{put, letter_added, letter_refused, letters_end, refused_by}
use Rattle.map_names.proofs.quote.Quote.read.Goals as goal

pub letters-preserved : goal.letters-preserved
letters-preserved c =
    let quote = c.args.self in
    let rest = drop (c.letters.byte-index + 1) c.args.bytes.now in
    let said = added_by c.in-Some.added in
    c.letters.invariant
    ∙ letter_added quote c.args.bytes.now c.letters.byte-index c.letters.belongs c.letters.name.items said c.letters-test.true c.in-Some.ensures
    ∙ ap (λ (name : List ℕ). put name (quoted_from quote rest said.1)) (sym c.in_ok-add.ensures)
    ∙ ap (λ (b : Bool). put c.add.new.name.items (quoted_from quote rest b)) (sym c.is_nothing-belongs.ensures)

pub returns-in_default : goal.returns-in_default
returns-in_default c =
    sym (c.letters.invariant
    ∙ letter_refused c.args.self c.args.bytes.now c.letters.byte-index c.letters.belongs c.letters.name.items c.letters-test.true
    (refused_by c.added_by.result _ c.in_default.is c.added_by.ensures))

pub returns-then-belongs : goal.returns-then-belongs
returns-then-belongs c =
    let name = c.letters.name.items in
    let past : length c.args.bytes.now ≤ c.letters.byte-index = omega arith in
    let end : Bool → Option (List ℕ) = λ b. if b then None else Some name in
    sym (c.letters.invariant ∙ letters_end c.args.self c.args.bytes.now c.letters.byte-index c.letters.belongs name past ∙ ap end c.if-belongs.true)

pub returns : goal.returns
returns c =
    let name = c.letters.name.items in
    let past : length c.args.bytes.now ≤ c.letters.byte-index = omega arith in
    let end : Bool → Option (List ℕ) = λ b. if b then None else Some name in
    sym (c.letters.invariant ∙ letters_end c.args.self c.args.bytes.now c.letters.byte-index c.letters.belongs name past ∙ ap end c.if-belongs.false)
