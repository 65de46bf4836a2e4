-- Worlds, schedules and histories.
pub mod Steps
pub mod Turns
pub mod Trails
pub mod Legal
pub mod FifoRuns
pub mod Numbers
pub mod Stamps
pub mod Spared
pub mod Passing
pub mod ReachedWorlds
