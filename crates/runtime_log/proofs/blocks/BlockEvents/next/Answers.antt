use Rattle.runtime_log.proofs.EventsToCome.{gives_some}
use Rattle.runtime_log.proofs.RecordedPassings.{given_next, given_none}
use Rattle.runtime_log.proofs.blocks.BlockEvents.next.Goals as goal

pub returns-in-Recorder-clause-gives : goal.returns-in-Recorder-clause-gives
returns-in-Recorder-clause-gives c =
    rw c.in-Recorder.is (gives_some c.next.result _ _ c.next.ensures.gives)

pub returns-in-Basic-clause-gives : goal.returns-in-Basic-clause-gives
returns-in-Basic-clause-gives c =
    rw c.in-Basic.is (given_next _ _ _ _ _ _ c.next-in-Basic.result c.next-in-Basic.ensures.version c.next-in-Basic.ensures.bytes c.next-in-Basic.ensures.gives)

pub returns-in-Basic-clause-ends : goal.returns-in-Basic-clause-ends
returns-in-Basic-clause-ends c = λ none.
    rw c.in-Basic.is (given_none _ _ _ _ _ _ c.next-in-Basic.result c.next-in-Basic.ensures.version c.next-in-Basic.ensures.bytes c.next-in-Basic.ensures.gives none)
