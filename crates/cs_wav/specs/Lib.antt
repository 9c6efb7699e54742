pub mod Wav
pub mod Worked
