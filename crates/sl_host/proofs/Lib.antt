pub mod Places
pub mod Raws
pub mod Runs
