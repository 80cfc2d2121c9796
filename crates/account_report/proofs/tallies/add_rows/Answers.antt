use Rattle.std.proofs.Common.{◌≡◌, ◌++◌, ◌∙◌, ℕ, List, [], ◌∷◌, map, ap, subst, sym, length, arith}
use Rattle.std.specs.Prelude.{IsPermutation}
use Rattle.account_report.specs.declared.row.AccountRow.{AccountRow}
use Rattle.account_report.specs.private.Tallies.{Tallied, first_entries, row_of_entry}
use Rattle.account_report.proofs.LowIds.{left_out, moved}
use Rattle.account_report.proofs.tallies.add_rows.Goals as goal

pub adding-preserved-in_ok-push : goal.adding-preserved-in_ok-push
adding-preserved-in_ok-push c =
    let all = map row_of_entry (first_entries 0 c.args.first.items) ++ c.args.rows.now.items in
    let rest = c.pop.new.self.items in
    let tally = c.in-Some.tally in
    let row : c.into_row.result ≡ row_of_entry (length rest, tally) =
    c.into_row.ensures
    ∙ (ap (λ (t : Tallied). row_of_entry (c.in_ok-id_at.field-0, t)) c.tally.view_is
    ∙ ap (λ (n : ℕ). row_of_entry (n, tally)) (let place : c.in_ok-id_at.field-0 ≡ length rest = omega (arith, c.in_ok-id_at.ensures, c.len.ensures) in place)) in
    subst (λ (rows : List AccountRow). IsPermutation all (map row_of_entry (first_entries 0 rest) ++ rows))
    (sym (c.in_ok-push.ensures.items ∙ ap (λ (r : AccountRow). c.adding.rows.items ++ r ∷ []) row))
    (moved all c.adding.rows.items c.adding.first.items rest tally c.in-Some.ensures.items (sym c.has_events.ensures ∙ c.if-has_events.true) c.adding.invariant)

pub adding-preserved : goal.adding-preserved
adding-preserved c =
    left_out (map row_of_entry (first_entries 0 c.args.first.items) ++ c.args.rows.now.items) c.adding.rows.items c.adding.first.items c.pop.new.self.items c.in-Some.tally
    c.in-Some.ensures.items (sym c.has_events.ensures ∙ c.if-has_events.false) c.adding.invariant
