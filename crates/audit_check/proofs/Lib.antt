-- The reader: the rows of an audit in turn, and the first that is refused (src/reading.rt, src/row.rt, src/setup.rt)
pub mod Digits
pub mod Fields
pub mod ReadParts
pub mod ReadRows
pub mod RowTexts
pub mod RowLines
pub mod RunTexts
pub mod MarkRuns
pub mod TakingRuns
pub mod ReadAudits
pub mod Refusals
-- Bytes read as only one statement, or are refused at one line (src/laws.rt)
pub mod KnownFacts
pub mod OneReading
pub mod SomeReading
-- The switches: when each word of the code is on or off (src/turns.rt, src/switches.rt)
pub mod TurnLemmas
pub mod SwitchesAtStart
pub mod SwitchesAfterStore
pub mod NotedStores
pub mod ScriptSwitches
pub mod ScriptCourse
pub mod OwnScript
-- Ways: marks follow a script exactly when there is a way through its places
pub mod WayParts
pub mod TreeLoads
pub mod FollowWays
pub mod WaysFollow
pub mod OwnRelease
-- The follower: the searches of each passing, and the least places that they find (src/searches.rt, src/follower.rt)
pub mod SearchResults
pub mod SledSearches
pub mod OneSearch
pub mod AllSearches
pub mod NextSearches
pub mod FollowerGuesses
pub mod FirstPlaces
pub mod LeastPlaces
pub mod LeastEnds
pub mod LeastMarks
pub mod WayToMark
pub mod PassingBounds
pub mod PassedWaits
pub mod FollowerSteps
pub mod JudgedMarks
-- The places of the loads of all threads (src/stop.rt, src/placing.rt)
pub mod JoinedStops
pub mod PlacedLoads
-- The segments of a thread, and the trace that they are compared with (src/blocks.rt)
pub mod ThreadSegments
pub mod RecordedSegments
pub mod ComparedTrace
-- The judge: a thread is walked through its plain run, and the first fault is found (src/judging.rt)
pub mod WalkedThread
pub mod WalkSteps
pub mod FoundAtEnd
pub mod ThreadFaults
pub mod SameRows
pub mod FirstDifferences
pub mod AllThreads
-- The verdict: there is one, only one, and a lawful run is accepted (src/laws.rt)
pub mod SomeRuns
pub mod OneVerdict
pub mod SomeVerdict
pub mod LawfulRuns
