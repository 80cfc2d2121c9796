use Rattle.std.proofs.Common.{◌≡◌, ℕ, Option, subst, sym}
use Rattle.std.specs.Prelude.{Bool}
use Rattle.command_words.specs.Words.{Command}
use Rattle.xray_program.specs.Started.{StartsLate}
use Rattle.xray_program.proofs.CallContract.{answers_its_end}
use Rattle.xray_program.proofs.call.xray_through.Goals as goal

pub returns-clause-answered : goal.returns-clause-answered
returns-clause-answered g c =
    answers_its_end c.what_is_done_is_traced.ensures _ c.perform_any_words-ended.ensures.ends c.perform_any_words-ended.ensures.ranges c.answer.ensures.says c.answer.ensures.status

late_with : (said : Option Command) (status answer : ℕ) (before after : Bool) → status ≡ answer → StartsLate said answer before after
    → StartsLate said status before after
late_with said status answer before after is late = subst (λ n. StartsLate said n before after) (sym is) late

pub returns-clause-starts : goal.returns-clause-starts
returns-clause-starts g c = late_with _ _ _ _ _ c.answer.ensures.status c.perform_any_words-ended.ensures.starts
