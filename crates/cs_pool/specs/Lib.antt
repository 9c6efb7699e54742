pub mod Alone
pub mod Letters
pub mod Mailboxes
pub mod Numbered
pub mod Pools
pub mod Working
pub mod inner
