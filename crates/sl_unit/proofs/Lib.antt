pub mod Outs
pub mod Spans
pub mod Ways
pub mod Fitting
pub mod Channels
pub mod Numbers
pub mod Entrances
