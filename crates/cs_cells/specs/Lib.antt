pub mod Access
pub mod Areas
pub mod Cells
pub mod Examples
pub mod Meaning
pub mod Serial
pub mod inner
