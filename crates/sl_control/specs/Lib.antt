pub mod Rows
pub mod Control
pub mod Wires
pub mod Joined
pub mod Known
pub mod Told
