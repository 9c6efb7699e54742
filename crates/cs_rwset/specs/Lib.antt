pub mod Examples
pub mod Footprints
pub mod Zones
pub mod inner
