-- Definitions that only clauses of private functions cite: the code that is generated, as functions of the
-- tree.
pub mod Branches
pub mod Code
pub mod Emitted
pub mod Kept
pub mod Rated
pub mod Served
pub mod Spots
