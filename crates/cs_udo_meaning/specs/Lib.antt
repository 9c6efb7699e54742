pub mod Examples
pub mod Frames
pub mod Lives
pub mod Numbered
pub mod Renumbered
pub mod Stands
pub mod Typed
