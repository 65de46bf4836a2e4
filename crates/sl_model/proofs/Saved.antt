-- What a unit's history saves, and how it is told.
pub mod Entries
pub mod Rows
pub mod Fits
pub mod Settled
pub mod Windows
pub mod Polls
