-- Units: bytes begin with at most one, and a code has one list of them (src/unit_reader.rt, src/code_units.rt)
pub mod Pieces
pub mod Nops
pub mod NoUnits
pub mod UnitPlaces
pub mod SoFar
pub mod Placement
pub mod StoredUnits
pub mod Index
pub mod RunningSums
-- The parts of a file: the header, functions and map entries (src/header.rt, src/parts.rt, src/map_entry.rt)
pub mod HeaderRows
pub mod FileParts
pub mod Several
pub mod MapEntries
-- The functions of an accepted file: ids, names, and the sleds that lie in them (src/ids.rt, src/functions.rt)
pub mod Distinct
pub mod EntryIds
pub mod FunctionNames
pub mod NameText
pub mod SledFunctions
pub mod SideBySide
-- The checks: functions, branches and the sled map, item by item (src/functions.rt, src/branches.rt, src/sled_map.rt)
pub mod Scans
pub mod FunctionRows
pub mod BranchTargets
pub mod Entries
pub mod JudgedRows
-- The verdict: each file has only one, and it is accepted exactly when it is a program (src/laws.rt)
pub mod Acceptance
pub mod TableRows
pub mod AcceptedFiles
pub mod KnownConditions
pub mod SomeVerdict
-- The image that is made of an accepted file (src/image.rt)
pub mod ImageLists
pub mod ImageMade
pub mod FileRows
pub mod ReadOnce
-- The text of a sled map (src/extract.rt)
pub mod ExtractText
