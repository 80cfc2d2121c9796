-- What comes before an event's function record, for the contracts of private functions.
use Rattle.std.specs.Prelude.{List, ◌∷◌}
use Rattle.fdr_record.specs.declared.event.Event.{Event}
use Rattle.fdr_record.specs.declared.rec.Rec.{Rec}
use Rattle.fdr_record.specs.declared.rec.Rec.TheVariants.{NewCpu, TscWrap}
use Rattle.fdr_buffer.specs.declared.lead.Lead.{Lead}
use Rattle.fdr_buffer.specs.declared.lead.Lead.TheVariants.{Cpu, Wrap, Delta}
use Rattle.fdr_buffer.specs.Segments.{function_records}

-- the records of an event with this lead
abbrev pub lead_records : Lead → Event → List Rec
lead_records Cpu event = NewCpu event.cpu event.tsc ∷ function_records event 0
lead_records Wrap event = TscWrap event.tsc ∷ function_records event 0
lead_records (Delta delta) event = function_records event delta
