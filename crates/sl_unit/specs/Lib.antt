pub mod Wires
pub mod Spans
pub mod Registers
pub mod Step
pub mod Made
pub mod Units
pub mod Notes
pub mod Room
