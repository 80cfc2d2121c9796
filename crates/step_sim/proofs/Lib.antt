-- Worked examples: replays and schedules
mod Rows
mod ScheduleRows
-- The reader of schedules: the turns of a text, or its first fault (src/schedule.rt, src/written.rt)
pub mod ScheduleFaults
pub mod SaidTurns
pub mod WrittenLemmas
-- Turns in general: a schedule brings a state to one end at most (src/turns.rt, src/ring.rt)
pub mod PlayLemmas
pub mod TurnLemmas
pub mod Queues
-- Replays without buffers: only one, and one in any case if no thread is held (src/laws.rt)
pub mod ReplayAlong
pub mod OneReplay
pub mod SomeReplay
pub mod Bounds
-- Threads and the patcher, from moment to moment (src/thread.rt, src/replay.rt, src/patcher.rt)
pub mod OneThread
pub mod AllThreads
pub mod OneRecorded
pub mod PassingTurns
pub mod AllRecorded
-- The pool: its buffers from event to event (src/pool.rt)
pub mod PoolLemmas
pub mod GatheredBuffers
-- Replays with buffers: what is left when all threads have ended (src/start.rt)
pub mod PooledReplay
pub mod RecordedReplay
pub mod ReplayStart
pub mod EndedRuns
pub mod EndedReplay
-- Losses: as many segments as the queue has no buffers for, the oldest of each thread (src/laws.rt)
pub mod CountedSegments
pub mod MoreLoads
pub mod StockRuns
pub mod LostRuns
-- Runs: a schedule leaves only one, and one in any case if nothing waits (src/laws.rt)
pub mod OneRun
pub mod SomeRun
-- No replay tears a sled, and its marks follow the script (src/along.rt)
pub mod WholeRuns
pub mod StillMarks
