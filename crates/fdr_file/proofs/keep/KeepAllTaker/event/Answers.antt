use Rattle.std.proofs.Common.{◌≡◌, ◌-◌, ◌++◌, ◌∷◌, [], ℕ, List, length, get_or, ap, ◌∙◌, arith, length-append}
use Rattle.std.specs.Prelude.{slice_set}
use Rattle.std.proofs.lemmas.Result.{on_ok_weaker}
use Rattle.std.proofs.Math.Seq.{get_or-append_seam, set-append_seam}
use Rattle.fdr_record.specs.declared.event.Event.{Event}
use Rattle.fdr_file.specs.declared.trace.Block.{Block}
use Rattle.fdr_file.specs.Scanning.{longer_block}
use Rattle.fdr_file.proofs.keep.KeepAllTaker.event.Goals as goal

-- the last block is replaced
last_set : (blocks : List Block) (last found : Block) (events : List Event) (event : Event) (items : List Block) (n : ℕ) → items ≡ blocks ++ last ∷ [] → n ≡ length items - 1
    → found ≡ get_or items n found → events ≡ found.events ++ event ∷ []
    → slice_set items n (record { thread = found.thread; wall = found.wall; pid = found.pid; events = events }) ≡ blocks ++ longer_block last event ∷ []
last_set blocks last found events event items n is at one more =
    let place : n ≡ length blocks = omega (arith, at, ap length is, length-append blocks (last ∷ [])) in
    let same : found ≡ last = one ∙ ap (λ (x : List Block). get_or x n found) is ∙ ap (λ (k : ℕ). get_or (blocks ++ last ∷ []) k found) place ∙ get_or-append_seam blocks last [] found in
    let made : ℕ → List Event → Block = λ k es. record { thread = found.thread; wall = found.wall; pid = found.pid; events = es } in
    let make : Block → Block = λ b. longer_block b event in
    ap (λ (es : List Event). slice_set items n (made n es)) more
    ∙ ap (λ (x : List Block). slice_set x n (make found)) is
    ∙ ap (λ (k : ℕ). slice_set (blocks ++ last ∷ []) k (make found)) place
    ∙ set-append_seam blocks last [] (make found)
    ∙ ap (λ (b : Block). blocks ++ make b ∷ []) same

pub returns-clause-took : goal.returns-clause-took
returns-clause-took c =
    rw c.refuse.ensures.same (on_ok_weaker c.push-answer.result
    (λ more blocks last is. last_set blocks last c.in-Some.block.now c.push-answer.new.self c.args.event.now c.args.self.now.blocks.items _ is (omega arith) c.in-Some.ensures.value more) c.push-answer.ensures)
