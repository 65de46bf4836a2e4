pub mod Least
pub mod Route
pub mod Graph
pub mod Ways
pub mod Routes
pub mod Pairs
pub mod Walks
