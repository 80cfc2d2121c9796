-- Words: what each looks like, to clap and as an item, and the number that it writes (src/line.rt)
pub mod WordShapes
pub mod Texts
pub mod NumberLemmas
-- clap: what it makes of words is the line that they say (src/cutting.rt)
pub mod Arguments
pub mod ClapWalk
pub mod ClapCommand
pub mod ClapArguments
pub mod Pairs
pub mod ClapMatches
pub mod CommandSteps
pub mod ReadWords
-- Commands: what is made of a line, by the rows of the table (src/words.rt, src/laws.rt)
pub mod CommandRows
pub mod OfRows
pub mod Outputs
-- Worked examples: command lines
pub mod WorkedLines
