pub mod Examples
pub mod Follows
pub mod Placing
pub mod Room
pub mod VoiceWorld
pub mod Voices
