use Rattle.std.proofs.Common.{◌≡◌, ◌<◌, ℕ, List, length, subst}
use Rattle.xray_io.specs.Desk.{Holds}
use Rattle.xray_io.specs.World.{desk_view}
use Rattle.xray_program.proofs.Turns.{unread}
use Rattle.xray_program.proofs.stream.take_stream.Goals as goal

pub returns-clause-taken : goal.returns-clause-taken
returns-clause-taken g c =
    let seen = desk_view g.D.Desk.held g.D.Desk.read_faults g.D.Desk.write_faults in
    let name = c.args.name.now in
    let read = c.read_pieces.ensures in
    unread (g.K.StreamKind.form c.args.kind.now) name (seen c.args.desk.now) (seen c.read_pieces.new.desk) c.in-Err.error c.read_stop.result
    (λ is. read.too_long_there (cc))
    (λ is. subst (λ (n : ℕ). (bytes : List ℕ) → g.D.Desk.held c.args.desk.now name ≡ Holds bytes → n < length bytes) c.limit.ensures (read.too_long (cc)))
    (λ is. read.read_fault (cc)) c.read_stop.ensures
