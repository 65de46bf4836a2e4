pub mod Observer
pub mod Floors
pub mod Kept
pub mod Turns
