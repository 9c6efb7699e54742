pub mod Covering
pub mod Growing
pub mod Index
pub mod Nearest
pub mod Sets
pub mod Touched
