-- The nodes of a trie, and the table of their steps (src/nodes.rt, src/table.rt)
pub mod NodeLemmas
pub mod TableLemmas
-- The frames of open calls (src/frames.rt)
pub mod FrameLemmas
-- The recorder: its fields after one more event, and that they are what stacks say (src/recorder.rt)
pub mod RecorderFields
pub mod OpenedPaths
pub mod RecorderEvents
pub mod TrieBounds
-- The tallies of tries, added up (src/nodes.rt, src/merging.rt)
pub mod AmongPaths
pub mod GroupedPairs
pub mod AddedTallies
pub mod JoinedRecorders
-- The law of states (src/laws.rt)
pub mod FirstExcess
