use Rattle.sled_words.specs.Words.{handler_word}
use Rattle.patch_script.specs.CodeAt.{code_at}
use Rattle.patch_script.specs.Micros.{total_of}
use Rattle.audit_check.specs.private.Switches.{is_set}
use Rattle.audit_check.proofs.follower.Follower.handler.Goals as goal

pub returns-clause-place : goal.returns-clause-place
returns-clause-place c = λ program threads script judges low.
    c.first.ensures (λ place. is_set (code_at program threads script place (handler_word program))) (total_of program threads script)
    judges.course.switches.handler low
