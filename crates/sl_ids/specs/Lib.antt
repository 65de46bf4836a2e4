pub mod Ids
pub mod Wids
