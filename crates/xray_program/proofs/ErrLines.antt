-- Lines on err.
use Rattle.std.proofs.Common.{◌≡◌, ◌++◌, ◌∙◌, ℕ, zero, suc, List, [], take, Option, Some, None, option_map, Ok, Err, inl, inr, refl, sym, ap}
use Rattle.std.proofs.lemmas.List.{append-nil}
use Rattle.xray_program.specs.Answers.{Says}
use Rattle.xray_io.specs.Calls.{Write}
use Rattle.xray_io.specs.World.{SinkView, sink_view}
use Rattle.xray_io.specs.Writes.{Answer, WritesText, text_of_writes, prefix_of}

no_more : (old : Option (List ℕ)) → option_map (λ before. before ++ []) old ≡ old
no_more None = refl
no_more (Some before) = ap Some (append-nil before)

take_none : (count : ℕ) → ◌≡◌ {A = List ℕ} (take count []) []
take_none zero = refl
take_none (suc count) = refl

-- nothing was said, and so err has what it had
pub says_nothing : (before after : SinkView) → Says before after [] → after.written ≡ before.written
says_nothing before after (inl adds) = adds.told ∙ no_more before.written
says_nothing before after (inr (rose, adds)) =
    adds.told ∙ ap (λ (more : List ℕ). option_map (λ had. had ++ more) before.written) (take_none adds.count) ∙ no_more before.written

pub nothing_said : (sink : SinkView) → Says sink sink []
nothing_said sink = inl (record { told = sym (no_more sink.written) })

-- a line was written on err, or a prefix of it
pub line_said : {S : Type 0} {written : S → Option (List ℕ)} {faults : S → ℕ} {along : S → S → List Write → Type 0} {old new : S} {line : List ℕ}
    → (answer : Answer) → WritesText written faults along old new line answer → Says (sink_view written faults old) (sink_view written faults new) line
line_said (Ok done) writes = inl (text_of_writes writes)
line_said (Err error) writes = inr (writes.fault, prefix_of writes)
