pub mod BasicRecords
