pub mod Books
pub mod Plans
pub mod Come
pub mod Standing
pub mod Clocks
pub mod Rested
pub mod ThreadedBook
