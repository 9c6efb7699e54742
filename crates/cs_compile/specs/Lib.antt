pub mod Calls
pub mod Meaning
pub mod Then
pub mod Worked
