pub mod Wakes
pub mod Awake
