-- The first line of an account, as it is put together.
use Rattle.std.proofs.Common.{◌≡◌, ◌++◌, ℕ, [], sym, append_assoc}
use Rattle.std.specs.Prelude.{codes, decimal}
use Rattle.account_report.specs.declared.text.AccountLayout.{AccountLayout}
use Rattle.account_report.specs.declared.text.AccountLayout.TheVariants.{Text}
use Rattle.account_report.specs.AccountText.{first_line}

-- the pieces of the first line
pub first_pieces : (format : AccountLayout) (latencies n : ℕ) → format ≡ Text → n ≡ latencies
    → codes "Functions with latencies: " ++ (decimal n ++ (codes "\n" ++ [])) ≡ first_line format latencies
first_pieces format latencies n is same = rw (is, same) (sym (append_assoc (codes "Functions with latencies: ") (decimal latencies) (codes "\n")))
