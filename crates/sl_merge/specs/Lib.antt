pub mod Lamport
pub mod Merging
pub mod Outcome
pub mod RunOfActors
pub mod Merged
pub mod Parted
pub mod Windows
