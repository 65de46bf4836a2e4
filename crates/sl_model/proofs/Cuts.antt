-- Cuts, the window law, and what is collected.
pub mod Prefixes
pub mod Begins
pub mod Bounds
pub mod Collected
pub mod Known
