-- Lists: items, ascending lists, and sums by groups
pub mod Items
pub mod AscendingLists
pub mod Groups
pub mod Orders
-- Pairs: which exit ends which call, and what was spent in a call (src/matching.rt, src/open_calls.rt, src/laws.rt)
pub mod InnermostCall
pub mod NestedCalls
pub mod PairFacts
pub mod CallEnds
pub mod SpentTimes
-- The fold: stacks after one more block or event (src/fold.rt, src/thread_stack.rt)
pub mod OpenCallSteps
pub mod Frames
pub mod Results
pub mod Views
pub mod GrowingHistories
pub mod DeepThreads
pub mod FoldSteps
-- Paths: their numbers and their tallies (src/path_sums.rt, src/node.rt)
pub mod Trees
pub mod Nodes
pub mod PathLinks
pub mod Sums
-- The rows of a report are those of all threads (src/rows.rt, src/laws.rt)
pub mod RowsOf
pub mod Threads
-- The weight of a path (src/laws.rt)
pub mod Weights
-- The text of a report (src/stack_text.rt)
pub mod Lines
