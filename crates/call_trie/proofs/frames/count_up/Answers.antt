use Rattle.std.proofs.Common.{◌≡◌, ◌+◌, ◌%◌, ◌<◌, ◌∙◌, ℕ, ap, arith, get_or, refl, set}
use Rattle.std.proofs.lemmas.Nat.{mod_below}
use Rattle.call_trie.proofs.FrameLemmas.{counts_more, like_few}
use Rattle.call_trie.proofs.TableLemmas.{any_default}
use Rattle.call_trie.proofs.frames.count_up.Goals as goal

pub overflow_add-index_mut : goal.overflow_add-index_mut
overflow_add-index_mut c =
    let at = c.args.func % 8192 in
    let within : at < 8192 = mod_below c.args.func 8192 (omega arith) in
    let own = c.requires.1 in
    let read : c.index_mut.result.now ≡ get_or c.args.counts.now.items at 0 =
    c.index_mut.ensures.value ∙ any_default c.args.counts.now.items at c.index_mut.result.now 0 (omega (arith, within, own.size)) in
    omega (arith, read, own.each at within, like_few at c.requires.0, c.requires.2)

pub returns : goal.returns
returns c = λ frames frame own is.
    let at = c.args.func % 8192 in
    let within : at < 8192 = mod_below c.args.func 8192 (omega arith) in
    let read : c.index_mut.result.now ≡ get_or c.args.counts.now.items at 0 =
    c.index_mut.ensures.value ∙ any_default c.args.counts.now.items at c.index_mut.result.now 0 (omega (arith, within, own.size)) in
    counts_more frames frame c.args.counts.now.items _ c.args.func at own is refl within (ap (λ (n : ℕ). set c.args.counts.now.items at (n + 1)) read)
