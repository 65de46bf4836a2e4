-- A run without its hostile turns.
pub mod Anew
pub mod Puts
pub mod Links
pub mod Turns
pub mod Found
pub mod Follow
