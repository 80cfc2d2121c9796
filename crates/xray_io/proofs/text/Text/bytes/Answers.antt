use Rattle.xray_io.proofs.TextSteps.{adds_after}
use Rattle.xray_io.proofs.text.Text.bytes.Goals as goal

pub returns-clause-adds : goal.returns-clause-adds
returns-clause-adds g c =
    adds_after g.met.S.Sink.along_both c.args.self.now c.make_room.new.self c.put.new.self c.args.bytes.now c.put.result
    c.in_ok-make_room.ensures.sends c.in_ok-make_room.ensures.fits c.make_room.ensures.loan c.put.ensures.adds
