use Rattle.std.proofs.Common.{[], ◌∷◌, None, ap}
use Rattle.command_words.specs.Words as words
use Rattle.program_map.specs.MapText.{map_facts_text, map_text}
use Rattle.program_map.specs.Programs.{program_held}
use Rattle.program_map.specs.declared.facts.MapFacts.{MapFacts}
use Rattle.xray_io.specs.World.{desk_view, sink_view}
use Rattle.xray_program.specs.Commands.{doing_of}
use Rattle.xray_program.specs.Outcomes.{Done}
use Rattle.xray_program.proofs.WorkEndings.{finishes_with}
use Rattle.xray_program.proofs.map_program.MapProgramWork.finish.Goals as goal

pub returns-clause-finishes : goal.returns-clause-finishes
returns-clause-finishes g c =
    let seen = desk_view g.D.Desk.held g.D.Desk.read_faults g.D.Desk.write_faults in
    let got = sink_view g.O.Sink.written g.O.Sink.faults in
    let s = c.args.self.now in
    let mapped = program_held c.args.made.now in
    let outputs = (s.map.now, map_text mapped) ∷ [] in
    finishes_with (doing_of (words.Map s.program.now s.map.now)).leaves mapped
    outputs (map_facts_text c.facts.result) None (seen c.args.desk.now) (seen c.deliver.new.desk)
    (got c.args.out.now) (got c.deliver.new.out) (g.D.Desk.along c.args.desk.now c.deliver.new.desk) c.deliver.result
    (ap (λ (facts : MapFacts). Done outputs (map_facts_text facts)) c.facts.ensures) c.deliver.ensures.delivers
