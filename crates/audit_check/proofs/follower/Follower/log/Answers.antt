use Rattle.sled_words.specs.Words.{state_word}
use Rattle.patch_script.specs.CodeAt.{code_at}
use Rattle.patch_script.specs.Micros.{total_of}
use Rattle.audit_check.specs.private.Switches.{is_recording}
use Rattle.audit_check.proofs.follower.Follower.log.Goals as goal

pub returns-clause-place : goal.returns-clause-place
returns-clause-place c = λ program threads script judges low.
    c.first.ensures (λ place. is_recording (code_at program threads script place (state_word program))) (total_of program threads script)
    judges.course.switches.log low
