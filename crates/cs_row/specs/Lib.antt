pub mod Cuts
pub mod Heard
pub mod HeardFrames
pub mod Kept
pub mod Laws
pub mod Rooms
pub mod RowFrames
pub mod Rows
