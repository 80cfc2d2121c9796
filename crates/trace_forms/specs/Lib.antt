pub mod TraceEvents
pub mod Runs
pub mod BasicLogs
pub mod FaultWords
pub mod Dumps
pub mod private
