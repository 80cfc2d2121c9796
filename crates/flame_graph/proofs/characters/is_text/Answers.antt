use Rattle.std.proofs.Common.{◌≡◌, List, ℕ, Bool, true, false, refl, sym}
use Rattle.std.specs.Str.{IsUtf8, is_utf8}
use Rattle.std.proofs.lemmas.Str.{IsUtf8-from_is_utf8, is_utf8-from_IsUtf8}
use Rattle.flame_graph.proofs.characters.is_text.Goals as goal

pub returns-in-Ok : goal.returns-in-Ok
returns-in-Ok c = sym (is_utf8-from_IsUtf8 c.args.bytes.now c.in-Ok.ensures.cases.1)

-- the test of bytes that aren't UTF-8 fails
fails : (bytes : List ℕ) (b : Bool) → is_utf8 bytes ≡ b → (IsUtf8 bytes → ⊥) → false ≡ b
fails bytes true is none = absurd (none (IsUtf8-from_is_utf8 bytes is))
fails bytes false is none = refl

pub returns-in-Err : goal.returns-in-Err
returns-in-Err c = fails c.args.bytes.now (is_utf8 c.args.bytes.now) refl c.in-Err.ensures.cases.0
