use Rattle.std.proofs.Common.{map, refl, ◌∙◌, arith}
use Rattle.std.proofs.lemmas.List.{length-map}
use Rattle.std.proofs.lemmas.Result.{err_from_is_err_and}
use Rattle.audit_check.specs.Statements.{said_by}
use Rattle.audit_check.proofs.ReadAudits.{all_may, refused_reads}
use Rattle.audit_check.proofs.reading.read_audit.Goals as goal

pub returns-in_err-format : goal.returns-in_err-format
returns-in_err-format c =
    let b = c.args.bytes.now in
    let p = err_from_is_err_and c.from_residual.result c.from_residual.ensures.1 in
    record { reads = rw (p.1, p.2) (refused_reads b _ (c.in_err-format.ensures.rows b c.new-rows.ensures.rows)) }

pub returns-in_err-setup : goal.returns-in_err-setup
returns-in_err-setup c =
    let b = c.args.bytes.now in
    let p = err_from_is_err_and c.from_residual-in_err-setup.result c.from_residual-in_err-setup.ensures.1 in
    let f = c.in_ok-format.ensures.rows b c.new-rows.ensures.rows in
    record { reads = rw (p.1, p.2) (refused_reads b _ (c.in_err-setup.ensures.rows b f)) }

pub entries-requires-clause-few : goal.entries-requires-clause-few
entries-requires-clause-few c =
    let b = c.args.bytes.now in
    let f = c.in_ok-format.ensures.rows b c.new-rows.ensures.rows in
    let s = c.in_ok-setup.ensures.rows b f in
    let few = s.0.few_threads in omega (arith, few)

pub returns-in_err-entries : goal.returns-in_err-entries
returns-in_err-entries c =
    let b = c.args.bytes.now in
    let p = err_from_is_err_and c.from_residual-in_err-entries.result c.from_residual-in_err-entries.ensures.1 in
    let f = c.in_ok-format.ensures.rows b c.new-rows.ensures.rows in
    let s = c.in_ok-setup.ensures.rows b f in
    record { reads = rw (p.1, p.2) (refused_reads b _ (c.in_err-entries.ensures.rows b c.in_ok-setup.setup s.1 s.0 refl)) }

pub returns-in_err-recycled : goal.returns-in_err-recycled
returns-in_err-recycled c =
    let b = c.args.bytes.now in
    let p = err_from_is_err_and c.from_residual-in_err-recycled.result c.from_residual-in_err-recycled.ensures.1 in
    let f = c.in_ok-format.ensures.rows b c.new-rows.ensures.rows in
    let s = c.in_ok-setup.ensures.rows b f in
    let e = c.in_ok-entries.ensures.rows b c.in_ok-setup.setup s.1 s.0 refl in
    let items = c.in_ok-entries.entries.items in
    record {
      reads = rw (p.1, p.2) (refused_reads b _
          (c.in_err-recycled.ensures.rows b c.in_ok-setup.setup (map said_by items) e.0 e.1 (length-map items said_by ∙ e.2)));
    }

pub returns-in_err-end : goal.returns-in_err-end
returns-in_err-end c =
    let b = c.args.bytes.now in
    let p = err_from_is_err_and c.from_residual-in_err-end.result c.from_residual-in_err-end.ensures.1 in
    let f = c.in_ok-format.ensures.rows b c.new-rows.ensures.rows in
    let s = c.in_ok-setup.ensures.rows b f in
    let setup = c.in_ok-setup.setup in
    let e = c.in_ok-entries.ensures.rows b setup s.1 s.0 refl in
    let items = c.in_ok-entries.entries.items in
    let r = c.in_ok-recycled.ensures.rows b setup (map said_by items) e.0 e.1 (length-map items said_by ∙ e.2) in
    let may = all_may setup (map said_by items) c.in_ok-recycled.recycled e.1 (length-map items said_by ∙ e.2) r.0 in
    record { reads = rw (p.1, p.2) (refused_reads b _ (c.in_err-end.ensures b _ may r.1)) }

pub returns : goal.returns
returns c =
    let b = c.args.bytes.now in
    let f = c.in_ok-format.ensures.rows b c.new-rows.ensures.rows in
    let s = c.in_ok-setup.ensures.rows b f in
    let setup = c.in_ok-setup.setup in
    let e = c.in_ok-entries.ensures.rows b setup s.1 s.0 refl in
    let items = c.in_ok-entries.entries.items in
    let r = c.in_ok-recycled.ensures.rows b setup (map said_by items) e.0 e.1 (length-map items said_by ∙ e.2) in
    let may = all_may setup (map said_by items) c.in_ok-recycled.recycled e.1 (length-map items said_by ∙ e.2) r.0 in
    record { reads = (may, c.in_ok-end.ensures b _ may r.1) }
