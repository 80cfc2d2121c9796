use Rattle.xray_program.proofs.account.AccountKindStreamKind.judge.Goals as goal

pub returns-in-Ok-account_rows-clause-reads : goal.returns-in-Ok-account_rows-clause-reads
returns-in-Ok-account_rows-clause-reads c = λ bytes fed.
    let taken = c.in-Ok.ensures.takes bytes fed in (taken.0, c.in-Ok-account_rows.ensures taken.0 taken.1, taken.2)
