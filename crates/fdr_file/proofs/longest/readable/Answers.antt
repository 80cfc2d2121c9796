use Rattle.std.proofs.Common.{ℕ, Result, Ok, Err, sym, ap}
use Rattle.std.proofs.lemmas.Result.{err_from_is_err_and}
use Rattle.fdr_file.specs.declared.fault.TraceFault.{TraceFault}
use Rattle.fdr_file.proofs.LongestPrefix.{not_refused, one_fault, one_readable, refused_by, refused_prefix}
use Rattle.fdr_file.proofs.longest.readable.Goals as goal

pub returns-in_err-version : goal.returns-in_err-version
returns-in_err-version c =
    let p = err_from_is_err_and c.from_residual.result c.from_residual.ensures.1 in
    let fault = c.in_err-version.field-0.0 in
    let is = sym c.in_err-version.ensures in
    let refused = refused_by c.args.bytes.now fault is in
    rw (p.1, p.2) (record {
      readable = tt;
      exact = λ len h. absurd (refused_prefix c.args.bytes.now fault is len h.reads);
      refused = λ len within reads. refused_prefix c.args.bytes.now fault is len reads;
      fault = λ other of_header h. ap (λ (f : TraceFault). let none : Result ℕ TraceFault = Err f in none) (one_fault c.args.bytes.now fault other refused.1 h);
      header = refused;
    })

pub returns : goal.returns
returns c = record {
  readable = c.longest.ensures;
  exact = λ len h. ap (λ (n : ℕ). let all : Result ℕ TraceFault = Ok n in all) (one_readable c.args.bytes.now c.longest.result len c.longest.ensures h);
  refused = tt;
  fault = λ fault of_header h. absurd (not_refused c.args.bytes.now c.in_ok-version.version c.in_ok-version.field-0-1 fault (sym c.in_ok-version.ensures) of_header h);
  header = tt;
}
