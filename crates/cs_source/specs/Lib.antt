pub mod Loaded
pub mod Meaning
pub mod Sounds
pub mod Texts
pub mod Worked
pub mod DemoTexts
pub mod inner
