pub mod Bytes
pub mod Lexed
pub mod Rows
pub mod inner
