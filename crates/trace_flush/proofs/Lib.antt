-- The order of a flush: buffers by thread and segment, in only one way (src/order.rt)
pub mod OneOrder
pub mod KeptOrder
-- The trace of a run: it reads back as the buffers that are left, and is short enough (src/laws.rt)
pub mod TraceOfRun
pub mod ShortTraces
-- The audit of a run, as it is written (src/audit.rt, src/line.rt)
pub mod AuditText
pub mod AuditOfRun
-- The text of an audit determines its run (src/laws.rt)
pub mod Digits
pub mod TellsMarks
pub mod TellsRuns
pub mod TellsAll
