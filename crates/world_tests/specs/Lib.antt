pub mod Plans
pub mod Relays
