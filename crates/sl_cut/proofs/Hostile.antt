-- A bad frame blanked changes nothing that is told.
pub mod Frames
pub mod Kept
pub mod Told
pub mod Flowing
pub mod Puts
pub mod Worlds
pub mod Found
pub mod Ended
pub mod Polled
pub mod Alike
