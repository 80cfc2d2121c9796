use Rattle.std.proofs.Common.{ℕ, ◌*◌, ◌+◌, ◌/◌, ◌%◌, ◌^◌, arith}
use Rattle.std.specs.Prelude.{bit_xor}
use Rattle.call_trie.proofs.TableLemmas.{part_low, scaled_below, scaled_fits}
use Rattle.call_trie.proofs.table.bucket_of.Goals as goal

pub overflow_mul-scaled : goal.overflow_mul-scaled
overflow_mul-scaled c =
    let both : ℕ = (c.from.result * 12955891661908526773 % 2 ^ 64 + c.from-2.result) % 2 ^ 64 in
    let mixed : ℕ = bit_xor both (both / 2 ^ 32) * 6024104058720326813 in
    omega (arith, scaled_fits (mixed % 2 ^ 64 / 2 ^ 32) c.args.buckets (part_low mixed) c.requires.1)

pub returns-clause-within : goal.returns-clause-within
returns-clause-within c =
    let both : ℕ = (c.from.result * 12955891661908526773 % 2 ^ 64 + c.from-2.result) % 2 ^ 64 in
    let mixed : ℕ = bit_xor both (both / 2 ^ 32) * 6024104058720326813 in
    scaled_below (mixed % 2 ^ 64 / 2 ^ 32) c.args.buckets (part_low mixed) c.requires.0
