-- Settling and finishing end, in a finished world, in one way.
pub mod NetWiring
pub mod Idle
pub mod Phase
pub mod Finished
pub mod Enough
pub mod Fuel
pub mod OneBook
pub mod Endings
