-- The fold: what one more block or event changes of each function (src/fold.rt, src/tallies.rt)
pub mod FoldSteps
pub mod TallySteps
pub mod FunctionList
pub mod LowIds
-- The rows: their order, and the percentiles of durations (src/order.rt, src/ranks.rt, src/tally.rt)
pub mod OneOrder
pub mod RowOrder
pub mod AscendingLists
pub mod SelectedItem
pub mod HistoryRows
-- The laws: each entry and exit is counted once, and a row sums the stacks that end in its function (src/laws.rt)
pub mod PlacedEvents
pub mod PairsAndLone
pub mod RowsOverStacks
-- The text of an account (src/text.rt)
pub mod AccountLines
