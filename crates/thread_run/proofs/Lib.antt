-- A worker: what a load makes of its thread and of its seat (src/worker.rt, src/thread.rt, src/work.rt)
pub mod RecordedEvents
pub mod LoadAndSeat
pub mod WorkerLoads
pub mod PassingLoads
pub mod WorkersCross
-- A recorder: one more event in its segments (src/recorder.rt)
pub mod SegmentCuts
pub mod NotedEvents
-- Buffers in the pool and in hands: which are left of each thread, in any order
pub mod PoolAndHands
pub mod BufferOrder
-- Runs: what workers leave is what runs leave (src/recorded.rt, src/running.rt, src/whole.rt)
pub mod EachItem
pub mod StartedWorkers
pub mod RunLemmas
pub mod GatheredRuns
