pub mod Zoned
