pub mod Walks
pub mod First
pub mod Finding
pub mod Graphs
pub mod Toward
pub mod KeptWays
pub mod Shortest
pub mod Onward
