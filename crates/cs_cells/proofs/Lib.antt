mod Areas
pub mod Counted
pub mod Laid
pub mod SerialRun
pub mod Rows
