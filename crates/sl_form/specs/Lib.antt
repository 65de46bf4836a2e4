pub mod Paths
pub mod Refusals
pub mod Fields
pub mod Forms
