use Rattle.std.proofs.Common.{◌≤◌, ◌<◌, ◌^◌, ℕ, ap, arith, drop, length, length-append, length-drop}
use Rattle.std.specs.Fmt.{decimal}
use Rattle.std.proofs.lemmas.Fmt.{length-decimal-le}
use Rattle.call_rows.proofs.line.Line.put_number.Goals as goal

-- a number of 64 bits has at most twenty digits
few : (n : ℕ) → n < 2 ^ 64 → length (decimal n) ≤ 20
few n low = length-decimal-le 20 n (omega arith) (omega (arith, low)) (omega (arith, low))

pub write_digits-start-requires : goal.write_digits-start-requires
write_digits-start-requires c =
    let inside = c.self.inside in
    (omega (arith, few c.args.n (omega (arith, c.ranges.n)), c.requires, c.self.invariant, c.self.told, length-drop inside.start inside.bytes, ap {B = ℕ} length c.self.view_is), omega (arith, c.self.invariant, c.self.told))

pub returns-clause-short : goal.returns-clause-short
returns-clause-short c =
    let inside = c.self.inside in
    let rest = drop inside.start inside.bytes in
    omega (arith, few c.args.n (omega (arith, c.ranges.n)), ap {B = ℕ} length c.write_digits-start.ensures.written, length-append (decimal c.args.n) rest, ap {B = ℕ} length c.self.view_is)
