-- Worked rows, which the checker computes.
pub mod Nets
pub mod Counted
pub mod SavedRows
pub mod FinishedRows
