-- Sums, lengths and numbers of lists.
pub mod Weighed
pub mod Sizes
pub mod Lowest
