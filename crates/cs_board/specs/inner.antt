pub mod Banks
pub mod Sittings
