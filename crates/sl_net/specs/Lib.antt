pub mod Input
pub mod Tables
pub mod Ways
pub mod Wired
pub mod Spelling
pub mod Spelled
pub mod Names
