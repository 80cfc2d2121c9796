use Rattle.std.proofs.Common.{refl}
use Rattle.sled_words.specs.declared.part.Part.TheVariants.{Head}
use Rattle.sled_words.specs.Words.{arg_handler_word, handler_word, state_word, word_of}
use Rattle.audit_check.specs.declared.searches.Sought.TheVariants.{ArgHandler, Handler, Log, Patched, Unpatched}
use Rattle.audit_check.specs.private.Switches.{is_patched, is_recording, is_set}
use Rattle.audit_check.proofs.OneSearch.{find_by, find_nothing, find_off, find_on}
use Rattle.audit_check.proofs.follower.Follower.find.Goals as goal

pub returns-in-Patched-clause-found : goal.returns-in-Patched-clause-found
returns-in-Patched-clause-found c =
    find_on c.args.self.now c.args.sled c.args.from c.args.bound c.args.sought Patched (λ program threads. word_of c.args.sled Head) is_patched 4 c.head.result
    c.stop_at.result c.in-Patched.is (λ program threads code. refl) c.head.ensures.place c.stop_at.ensures.found

pub returns-in-Unpatched-clause-found : goal.returns-in-Unpatched-clause-found
returns-in-Unpatched-clause-found c =
    find_off c.args.self.now c.args.sled c.args.from c.args.bound c.args.sought Unpatched (λ program threads. word_of c.args.sled Head) is_patched 1
    c.head-in-Unpatched.result c.stop_at-in-Unpatched.result c.in-Unpatched.is (λ program threads code. refl) c.head-in-Unpatched.ensures.place
    c.stop_at-in-Unpatched.ensures.found

pub returns-in-ArgHandler-clause-found : goal.returns-in-ArgHandler-clause-found
returns-in-ArgHandler-clause-found c =
    find_by c.args.self.now c.args.sled c.args.from c.args.bound c.args.sought ArgHandler c.in-ArgHandler.set (λ program threads. arg_handler_word program threads)
    is_set c.arg_handler.result c.stop_at-in-ArgHandler.result c.in-ArgHandler.is (λ program threads code. refl) (λ program threads code. refl)
    c.arg_handler.ensures.place c.stop_at-in-ArgHandler.ensures.found

pub returns-in-Handler-clause-found : goal.returns-in-Handler-clause-found
returns-in-Handler-clause-found c =
    find_by c.args.self.now c.args.sled c.args.from c.args.bound c.args.sought Handler c.in-Handler.set (λ program threads. handler_word program)
    is_set c.handler.result c.stop_at-in-Handler.result c.in-Handler.is (λ program threads code. refl) (λ program threads code. refl)
    c.handler.ensures.place c.stop_at-in-Handler.ensures.found

pub returns-in-Log-clause-found : goal.returns-in-Log-clause-found
returns-in-Log-clause-found c =
    find_by c.args.self.now c.args.sled c.args.from c.args.bound c.args.sought Log c.in-Log.records (λ program threads. state_word program)
    is_recording c.log.result c.stop_at-in-Log.result c.in-Log.is (λ program threads code. refl) (λ program threads code. refl)
    c.log.ensures.place c.stop_at-in-Log.ensures.found

pub returns-in-Nothing-clause-found : goal.returns-in-Nothing-clause-found
returns-in-Nothing-clause-found c =
    find_nothing c.args.self.now c.args.sled c.args.from c.args.bound c.args.sought _ c.in-Nothing.is refl
