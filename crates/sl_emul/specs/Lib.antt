pub mod Run
pub mod Finishing
pub mod Threaded
