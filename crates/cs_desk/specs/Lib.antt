pub mod Courses
pub mod Cycles
pub mod Desk
pub mod Kept
pub mod Laws
pub mod inner
