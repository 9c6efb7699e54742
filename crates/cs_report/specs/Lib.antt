pub mod Report
pub mod Status
pub mod Talk
