pub mod AddingFrames
pub mod Addings
pub mod Marks
pub mod Playing
