-- The end of a text.
use Rattle.std.proofs.Common.{◌≡◌, ℕ, ◌+◌, List, [], Bool, true, false, cond, not, length, refl, ap, ◌∙◌}
use Rattle.std.specs.Prelude.{Result, Ok, Err}
use Rattle.std.specs.List.{list_any}
use Rattle.std.specs.Str.Lines.{lines}
use Rattle.xray_io.specs.Rows.{◌>>=◌}
use Rattle.text_lines.specs.Lines.{numbered_lines}
use Rattle.xray_image.specs.Program.{Program}
use Rattle.patch_script.specs.declared.fault.ScriptFault.{ScriptFault}
use Rattle.patch_script.specs.declared.fault.ScriptFault.TheVariants.{Go, Hold}
use Rattle.patch_script.specs.Plans.{Plan, plan_of}
use Rattle.patch_script.specs.Refusals.{Lines, commands_of, has_go, holds_for_good, read_lines, ended}

module _ (program : Program) (threads : ℕ) (text : List ℕ) where
  abbrev following : ℕ
  following = length (lines text) + 1

  abbrev plan : Lines → Plan
  plan said = record { program = program; threads = threads; lines = said }

  abbrev finished : Result Lines ScriptFault → Result Plan ScriptFault
  finished read = read >>= (λ said. ended following said) >>= λ said. Ok (plan said)

  pub refused : (fault : ScriptFault) → read_lines program threads [] (numbered_lines text) ≡ Err fault → plan_of program threads text ≡ Err fault
  refused fault read = ap finished read

  module _ (said : Lines) (read : read_lines program threads [] (numbered_lines text) ≡ Ok said) where
    judged : (going held : Bool) → has_go (commands_of said) ≡ going → list_any (holds_for_good (commands_of said)) (commands_of said) ≡ held
        → plan_of program threads text ≡ (cond (not going) (Err (Go following)) (cond held (Err (Hold following)) (Ok said)) >>= λ lines. Ok (plan lines))
    judged going held go hold =
        ap finished read
        ∙ ap (λ b. cond (not b) (Err (Go following)) (cond (list_any (holds_for_good (commands_of said)) (commands_of said)) (Err (Hold following)) (Ok said)) >>= λ lines. Ok (plan lines)) go
        ∙ ap (λ b. cond (not going) (Err (Go following)) (cond b (Err (Hold following)) (Ok said)) >>= λ lines. Ok (plan lines)) hold

    pub lacks_go : has_go (commands_of said) ≡ false → plan_of program threads text ≡ Err (Go following)
    lacks_go go = judged false (list_any (holds_for_good (commands_of said)) (commands_of said)) go refl

    pub lacks_release : has_go (commands_of said) ≡ true → list_any (holds_for_good (commands_of said)) (commands_of said) ≡ true → plan_of program threads text ≡ Err (Hold following)
    lacks_release go hold = judged true true go hold

    pub whole : has_go (commands_of said) ≡ true → list_any (holds_for_good (commands_of said)) (commands_of said) ≡ false → plan_of program threads text ≡ Ok (plan said)
    whole go hold = judged true false go hold
