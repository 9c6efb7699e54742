pub mod Moved
pub mod Trees
pub mod Variables
