pub mod Layouts
pub mod inner
