-- The words of an image, and the bytes that they are (src/words.rt, src/bytes.rt)
pub mod FlatMap
pub mod UnitWords
