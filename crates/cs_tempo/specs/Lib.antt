pub mod Limits
pub mod Order
pub mod Pairing
pub mod Performable
pub mod Plot
pub mod Sections
pub mod inner
pub mod Worked
