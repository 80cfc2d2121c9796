use Rattle.std.proofs.Common.{◌≡◌, ◌<◌, ◌%◌, ◌∙◌, ℕ, List, [], ◌∷◌, MatchOption, arith, length, refl, slice_index_or, subst, sym, take}
use Rattle.std.proofs.lemmas.Nat.{mod_below}
use Rattle.stack_rebuild.specs.OpenPaths.{open_from}
use Rattle.call_trie.specs.declared.frames.Frame.{Frame}
use Rattle.call_trie.specs.private.Frames.{open_in, open_path}
use Rattle.call_trie.proofs.FrameLemmas.{none_like}
use Rattle.call_trie.proofs.TableLemmas.{any_default}
use Rattle.call_trie.proofs.frames.Frames.place_of.Goals as goal

pub returns-then-index-eq0 : goal.returns-then-index-eq0
returns-then-index-eq0 c = λ paths.
    let at = c.args.func % 8192 in
    let within : at < 8192 = mod_below c.args.func 8192 (omega arith) in
    let own = c.self.invariant.counted in
    let counts = c.self.inside.counts.items in
    let read : slice_index_or counts at 0 ≡ c.index.result.now =
    any_default counts at 0 c.index.result.now (omega (arith, within, own.size)) ∙ sym c.index.ensures in
    subst (λ (fs : List Frame). open_from c.args.func (open_in paths fs) ≡ []) c.self.view_is
    (none_like paths c.self.inside.frames.items c.args.func at refl (omega (arith, own.each at within, read, c.if-index-eq0.true)))

pub returns : goal.returns
returns c = λ paths.
    subst (λ (fs : List Frame). MatchOption c.innermost_of.result (open_from c.args.func (open_in paths fs) ≡ [])
    (λ (place : ℕ). (d : Frame) → (place < length fs)
    × (open_from c.args.func (open_in paths fs) ≡ open_path paths (slice_index_or fs place d) ∷ open_in paths (take place fs))))
    (c.deref.ensures.value ∙ c.self.view_is) (c.innermost_of.ensures paths)
