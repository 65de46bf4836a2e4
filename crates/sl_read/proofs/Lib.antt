pub mod RowLemmas
pub mod Steps
pub mod Ranges
pub mod Settled
pub mod Walks
