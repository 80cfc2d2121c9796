-- Open calls, and what was open before each (src/fold.rt)
pub mod NestedEntries
pub mod SpentInCalls
-- Frames and rows after one more event (src/frames.rt, src/fold.rt)
pub mod NumberedEvents
pub mod FrameSteps
pub mod RowsStay
pub mod FoldSteps
-- Lines of calls that end one after the other (src/printing.rt)
pub mod CallLines
pub mod CallsAnswers
-- The laws: an account sums calls, and parents enclose them (src/laws.rt)
pub mod CallSums
pub mod Parents
pub mod EndsRise
-- The first rows in an order (src/order.rt)
pub mod CallOrdering
pub mod PutInOrder
pub mod FirstInOrder
-- The wanted calls that are collected (src/order.rt, src/kept.rt)
pub mod Collecting
pub mod KeptSteps
