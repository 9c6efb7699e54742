pub mod Calls
pub mod Places
pub mod TypedTree
pub mod Variables
pub mod WellRated
