pub mod EndLemmas
pub mod RunLemmas
mod Printing
