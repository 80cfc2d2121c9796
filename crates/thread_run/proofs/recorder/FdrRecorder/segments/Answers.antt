use Rattle.std.proofs.Common.{◌≡◌, ◌+◌, ◌∙◌, rules}
use Rattle.thread_run.specs.Recordings.{segments_begun}
use Rattle.thread_run.proofs.NotedEvents.{begun_are}
use Rattle.thread_run.proofs.recorder.FdrRecorder.segments.Goals as goal

pub returns-clause-count : goal.returns-clause-count
returns-clause-count g c events at =
    let begun : c.sealed.result + c.from.result ≡ segments_begun c.args.self.now = search rules in
    begun ∙ begun_are c.args.self.now events at
