pub mod Host
pub mod Kept
pub mod Turns
