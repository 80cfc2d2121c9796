use Rattle.std.proofs.lemmas.Result.{on_ok_weaker}
use Rattle.fdr_file.specs.Scanning.{with_event}
use Rattle.fdr_file.specs.Streams.{HasLast}
use Rattle.fdr_file.proofs.ScanSteps.{one_has}
use Rattle.fdr_file.proofs.scan.tell.Goals as goal

pub note-requires-in-Noted : goal.note-requires-in-Noted
note-requires-in-Noted g c =
    let blocks = c.requires.0 in
    let has : HasLast blocks = rw c.in-Noted.is at c.requires.2 in
    (with_event c.in-Noted.entry blocks, c.in_ok-note-in-Noted.ensures.took blocks c.requires.1 has, one_has c.in-Noted.entry blocks has)

pub returns-in_ok-note-in-Noted-clause-took : goal.returns-in_ok-note-in-Noted-clause-took
returns-in_ok-note-in-Noted-clause-took g c =
    on_ok_weaker c.note-in-Noted.result (λ told blocks had can.
    let has : HasLast blocks = rw c.in-Noted.is at can in
    rw c.in-Noted.is (told (with_event c.in-Noted.entry blocks) (c.in_ok-note-in-Noted.ensures.took blocks had has) (one_has c.in-Noted.entry blocks has)))
    c.note-in-Noted.ensures.took
