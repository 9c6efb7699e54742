pub mod Files
pub mod Samples
pub mod Scales
pub mod Sums
