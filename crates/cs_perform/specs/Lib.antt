pub mod Counted
pub mod Hearing
pub mod Performances
pub mod inner
