pub mod Sums
pub mod OneCuts
pub mod Ways
pub mod Loops
