pub mod ReadAt
pub mod ChainLemmas
pub mod CommonLemmas
pub mod ConflictLemmas
pub mod CoverLemmas
pub mod DrawLemmas
pub mod EdgeLemmas
pub mod GrownLemmas
pub mod NearestLemmas
pub mod SetLemmas
pub mod TouchedLemmas
mod Pigeonhole
mod SmallCycle
