pub mod Compositions
pub mod Ready
pub mod Setups
pub mod Tables
pub mod Sheets
pub mod VoicesOfNotes
pub mod inner
