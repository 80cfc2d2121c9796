use Rattle.std.proofs.Common.{◌≡◌, ◌+◌, ◌<◌, ◌∙◌, ℕ, [], ◌∷◌, ap, arith, length, length-append, refl}
use Rattle.std.proofs.lemmas.List.{length-set}
use Rattle.call_trie.specs.private.Chains.{Steps, bucket_in}
use Rattle.call_trie.proofs.TableLemmas.{table_more}
use Rattle.call_trie.proofs.table.Table.add.Goals as goal

pub invariant_of-self : goal.invariant_of-self
invariant_of-self c =
    let a = c.self.inside in
    let i = c.self.invariant in
    let b = c.bucket_of-bucket.result in
    let size : c.len.result ≡ length a.latest.items = c.len.ensures ∙ a.latest.ok.0 in
    let place : b ≡ bucket_in (length a.latest.items) c.args.step = c.bucket_of-bucket.ensures.is ∙ ap (λ (n : ℕ). bucket_in n c.args.step) size in
    let within : b < length a.latest.items = omega (arith, c.bucket_of-bucket.ensures.within, size) in
    let number : c.len-2.result + 1 ≡ length a.steps.items + 1 = ap (λ (n : ℕ). n + 1) (c.len-2.ensures ∙ a.steps.ok.0) in
    let steps = c.push_reserved-2.ensures in
    let before = c.push_reserved.ensures in
    let few : length a.steps.items < a.room =
    omega (arith, c.requires, ap {B = ℕ} (λ (s : Steps). length s.steps) c.self.view_is, ap {B = ℕ} (λ (s : Steps). s.room) c.self.view_is) in
    record {
      chained = table_more a.steps.items c.push_reserved-2.new.self.items a.before.items c.push_reserved.new.self.items a.latest.items _ c.args.step b
          (c.len-2.result + 1) c.index.result.now i.chained place within steps.items before.items c.index.ensures refl number;
      buckets = length-set a.latest.items b (c.len-2.result + 1) ∙ i.buckets;
      some = i.some;
      few = i.few;
      within = omega (arith, ap {B = ℕ} length steps.items, length-append a.steps.items (c.args.step ∷ []), few);
      steps_fit = omega (arith, i.steps_fit, steps.capacity);
      before_fits = omega (arith, i.before_fits, before.capacity);
    }
